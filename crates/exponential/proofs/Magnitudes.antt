-- What `magnitude_of` says of exp: vast is 2 ^ 54 or more, slight 2 ^ -54 or less. With |r| ≤ 3 / 8 the series stays from 3 / 8 to 13 / 8, term by term.
-- Assumes nothing.
use Rattle.std.specs.Prelude.{◌≡◌, refl, ℕ, zero, suc, ◌*◌, ◌≤◌, ◌<◌, ◌==◌, Bool, true, false, cond, T, ℤ, pos, negsuc, Float}
use Rattle.std.proofs.Common.{sym, ap, ◌∙◌, subst, le_trans, le_of_eq, mul-le-mul, mul-le-mul_right, mul-pos, mul-one, one-mul, zero-mul, mul_assoc}
use Rattle.std.proofs.Common.{mul_left_comm, mul_comm, lt_irrefl, zero-lt-suc, arith, eqb→eq}
use Rattle.std.proofs.Math.Dec.{not_T}
use Rattle.std.specs.Float.{nan, inf, fin, binary64}
use Rattle.std.specs.Float.Ieee.{up, down, unlike, add, mul, div, fits, round, neg, lt, le, ne, of_int}
use Rattle.std.specs.Float.Ieee.Bits.{cond_no}
use Rattle.std.specs.Float.Ieee.Fits.{down_pos, up_pos}
use Rattle.std.specs.Float.Ieee.Exact.{HasValue}
use Rattle.std.specs.Float.Ieee.Back.{round_whole}
use Rattle.number.specs.Ops.{◌⊕◌, ◌⊗◌, ◌⊘◌, dec}
use Rattle.number.specs.Number.{finite_of, within_of}
use Rattle.number.specs.Order.{Le, le→, →le, le_through, neg-le, within_lo, within_hi, within_of_lem, within_finite}
use Rattle.number.specs.Rounding.{add_mono, mul_mono, mul_commutes, round_between}
use Rattle.number.specs.Products.{neg_mul, product_from_0}
use Rattle.exponential.specs.declared.Magnitude.{Magnitude}
use Rattle.exponential.specs.declared.Magnitude.TheVariants.{Vast, Slight, Other}
use Rattle.exponential.specs.Exp.{one, limit, exponent, reduced, horner, two_to, within, exp_of}
use Rattle.exponential.specs.Magnitude.{vast, slight, most_r, by_power, magnitude_of}

-- w / 8
abbrev eighths : ℕ → Float
eighths w = fin false w (negsuc 2)

abbrev InR : Float → Type 0
InR x = T (within_of (neg (eighths 3)) (eighths 3) x)

abbrev InSeries : Float → Type 0
InSeries p = T (within_of (eighths 3) (eighths 13) p)

-- ---- r / k is no more than r
small : (s : Bool) (m : ℕ) (e : ℤ) → InR (fin s m e) → m * up e * 8 ≤ 3 * down e
unfolding neg
small false m e h = let l = le→ false m e false 3 (negsuc 2) (within_hi (neg (eighths 3)) (eighths 3) (fin false m e) h) in omega arith
small true m e h = let l = le→ true 3 (negsuc 2) true m e (within_lo (neg (eighths 3)) (eighths 3) (fin true m e) h) in omega arith

in_r : (s : Bool) (a c : ℕ) → 0 < c → a * 8 ≤ 3 * c → InR (round binary64 s a c)
unfolding neg fits
in_r s a c p h = round_between binary64 (fin true 3 (negsuc 2)) (fin false 3 (negsuc 2)) s a c tt tt p (low s) (high s)
  where
    low : (s : Bool) → Le true (3 * 1 * c) s (a * 8)
    low false = omega arith
    low true = omega arith

    high : (s : Bool) → Le s (a * 8) false (3 * 1 * c)
    high false = omega arith
    high true = omega arith

whole_is : (k : ℕ) → k < 14 → HasValue (of_int binary64 (pos (suc k))) false (suc k) 1
unfolding of_int
whole_is k h = round_whole binary64 false (suc k) (omega arith)

part : (r y : Float) (k : ℕ) → InR r → HasValue y false (suc k) 1 → InR (r ⊘ y)
unfolding div neg
part nan y k f g = absurd (within_finite (neg (eighths 3)) (eighths 3) nan tt tt f)
part (inf s) y k f g = absurd (within_finite (neg (eighths 3)) (eighths 3) (inf s) tt tt f)
part (fin s m e) nan k f g = absurd g
part (fin s m e) (inf t) k f g = absurd g
part (fin s m e) (fin t zero d) k f g = absurd
    (none (suc k) (down d) (zero-lt-suc k) (down_pos d) (sym (ap (λ (z : ℕ). z * 1) (zero-mul (up d)) ∙ zero-mul 1) ∙ g.1))
  where
    none : (a b : ℕ) → 0 < a → 0 < b → 0 ≡ a * b → ⊥
    none a b p q e = lt_irrefl 0 (subst (λ (z : ℕ). 0 < z) (sym e) (mul-pos p q))
part (fin s m e) (fin t (suc b) d) k f g =
    let l : down d ≤ suc b * up d = le_trans (le_trans (le_of_eq (sym (one-mul (down d)))) (mul-le-mul_right (down d) (omega arith)))
    (le_of_eq (sym g.1 ∙ mul-one (suc b * up d))) in
    subst InR (sym (cond_no (suc b == 0) _ _ (not_T (suc b == 0) (λ (u : T (suc b == 0)). some (eqb→eq (suc b) 0 u)))))
    (in_r (unlike s t) (m * up e * down d) (suc b * up d * down e) (mul-pos (mul-pos (zero-lt-suc b) (up_pos d)) (down_pos e))
    (le_trans (le_of_eq (swap (m * up e) (down d))) (le_trans (mul-le-mul (small s m e f) l) (le_of_eq (turn (down e) (suc b * up d))))))
  where
    some : suc b ≡ 0 → ⊥
    some q = omega arith

    swap : (a b : ℕ) → a * b * 8 ≡ a * 8 * b
    swap a b = simp (mul_assoc, mul_comm, mul_left_comm)

    turn : (a b : ℕ) → 3 * a * b ≡ 3 * (b * a)
    turn a b = simp (mul_assoc, mul_comm)

-- ---- a term: |t| ≤ 3 / 8 and 3 / 8 ≤ p ≤ 13 / 8 give |t p| ≤ 5 / 8
from_0 : T (le (fin false 0 (pos 0)) (eighths 3))
from_0 = unfold le in tt

positive : (p : Float) → InSeries p → T (le (dec 0 1) p)
unfolding round
positive p h = le_through (fin false 0 (pos 0)) (eighths 3) p from_0 (within_lo (eighths 3) (eighths 13) p h)

most : T (le (eighths 13 ⊗ eighths 3) (eighths 5))
unfolding mul round
most = unfold le in tt

at_most : (p : Float) → InSeries p → T (le (eighths 3 ⊗ p) (eighths 5))
unfolding round
at_most p h =
    le_through (eighths 3 ⊗ p) (eighths 13 ⊗ eighths 3) (eighths 5)
    (subst (λ (z : Float). T (le z (eighths 13 ⊗ eighths 3))) (mul_commutes binary64 p (eighths 3))
    (mul_mono p (eighths 13) (eighths 3) (number h) tt tt (within_hi (eighths 3) (eighths 13) p h) from_0)) most
  where
    number : InSeries p → T (finite_of p)
    number h = within_finite (eighths 3) (eighths 13) p tt tt h

term : (t p : Float) → InR t → InSeries p → T (within_of (neg (eighths 5)) (eighths 5) (t ⊗ p))
term t p f h =
    let i = within_finite (neg (eighths 3)) (eighths 3) t (unfold neg in tt) tt f in
    let j = within_finite (eighths 3) (eighths 13) p tt tt h in
    let q = positive p h in
    let l = at_most p h in
    within_of_lem (neg (eighths 5)) (eighths 5) (t ⊗ p)
    (le_through (neg (eighths 5)) (neg (eighths 3) ⊗ p) (t ⊗ p)
    (subst (λ (z : Float). T (le (neg (eighths 5)) z)) (sym (neg_mul (eighths 3) p)) (neg-le (eighths 3 ⊗ p) (eighths 5) l))
    (mul_mono (neg (eighths 3)) t p (unfold neg in tt) i j (within_lo (neg (eighths 3)) (eighths 3) t f) q))
    (le_through (t ⊗ p) (eighths 3 ⊗ p) (eighths 5) (mul_mono t (eighths 3) p i tt j (within_hi (neg (eighths 3)) (eighths 3) t f) q) l)

-- ---- and 1 + t p is from 3 / 8 to 13 / 8
one_is : one ≡ fin false 1 (pos 0)
unfolding round
one_is = refl

least_sum : T (le (eighths 3) (fin false 1 (pos 0) ⊕ neg (eighths 5)))
unfolding add neg round
least_sum = unfold le in tt

most_sum : T (le (fin false 1 (pos 0) ⊕ eighths 5) (eighths 13))
unfolding add round
most_sum = unfold le in tt

sum : (y : Float) → T (within_of (neg (eighths 5)) (eighths 5) y) → InSeries (one ⊕ y)
sum y h =
    let i = within_finite (neg (eighths 5)) (eighths 5) y (unfold neg in tt) tt h in
    let o = fin false 1 (pos 0) in
    subst (λ (z : Float). InSeries (z ⊕ y)) (sym one_is)
    (within_of_lem (eighths 3) (eighths 13) (o ⊕ y)
    (le_through (eighths 3) (o ⊕ neg (eighths 5)) (o ⊕ y) least_sum
    (add_mono o o (neg (eighths 5)) y tt tt (unfold neg in tt) i (unfold le in tt) (within_lo (neg (eighths 5)) (eighths 5) y h)))
    (le_through (o ⊕ y) (o ⊕ eighths 5) (eighths 13)
    (add_mono o o y (eighths 5) tt tt i tt (unfold le in tt) (within_hi (neg (eighths 5)) (eighths 5) y h)) most_sum))

series : (k : ℕ) (r p : Float) → k ≤ 14 → InR r → InSeries p → InSeries (horner k r p)
unfolding horner
series zero r p h f g = g
series (suc k) r p h f g =
    series k r (one ⊕ r ⊘ of_int binary64 (pos (suc k)) ⊗ p) (omega arith) f
    (sum _ (term _ p (part r (of_int binary64 (pos (suc k))) k f (whole_is k (omega arith))) g))

within_series : (r : Float) → InR r → InSeries (horner 14 r one)
unfolding round
within_series r f = series 14 r one (omega arith) f (within_of_lem (eighths 3) (eighths 13) one (unfold le in tt) (unfold le in tt))

-- ---- times the power of two
power_from_0 : (e : ℤ) → T (le (fin false 0 (pos 0)) (fin false 1 e))
power_from_0 e = →le false 0 (pos 0) false 1 e (omega (arith, zero-mul (down e)))

vast_product : (p : Float) (e : ℤ) → InSeries p → T (le (fin false 1 (pos 57)) (fin false 1 e)) → T (le (fin false 1 (pos 54)) (p ⊗ fin false 1 e))
unfolding round
vast_product p e h g =
    le_through (fin false 1 (pos 54)) (fin false 1 (pos 57) ⊗ eighths 3) (p ⊗ fin false 1 e) (unfold mul in unfold le in tt)
    (le_through (fin false 1 (pos 57) ⊗ eighths 3) (fin false 1 e ⊗ eighths 3) (p ⊗ fin false 1 e)
    (mul_mono (fin false 1 (pos 57)) (fin false 1 e) (eighths 3) tt tt tt g from_0)
    (subst (λ (z : Float). T (le z (p ⊗ fin false 1 e))) (mul_commutes binary64 (eighths 3) (fin false 1 e))
    (mul_mono (eighths 3) p (fin false 1 e) tt (within_finite (eighths 3) (eighths 13) p tt tt h) tt (within_lo (eighths 3) (eighths 13) p h)
    (power_from_0 e))))

slight_product : (p : Float) (e : ℤ) → InSeries p → T (le (fin false 1 e) (fin false 1 (negsuc 55))) → T (le (p ⊗ fin false 1 e) (fin false 1 (negsuc 53)))
unfolding round
slight_product p e h g =
    le_through (p ⊗ fin false 1 e) (fin false 1 e ⊗ eighths 13) (fin false 1 (negsuc 53))
    (subst (λ (z : Float). T (le (p ⊗ fin false 1 e) z)) (mul_commutes binary64 (eighths 13) (fin false 1 e))
    (mul_mono p (eighths 13) (fin false 1 e) (within_finite (eighths 3) (eighths 13) p tt tt h) tt tt (within_hi (eighths 3) (eighths 13) p h)
    (power_from_0 e)))
    (le_through (fin false 1 e ⊗ eighths 13) (fin false 1 (negsuc 55) ⊗ eighths 13) (fin false 1 (negsuc 53))
    (mul_mono (fin false 1 e) (fin false 1 (negsuc 55)) (eighths 13) tt tt tt g (unfold le in tt)) (unfold mul in unfold le in tt))

from_0_product : (p : Float) (e : ℤ) → InSeries p → T (le (dec 0 1) (p ⊗ fin false 1 e))
unfolding round
from_0_product p e h = product_from_0 p (fin false 1 e) (within_finite (eighths 3) (eighths 13) p tt tt h) tt (positive p h) (power_from_0 e)

-- ---- what the magnitude says
-- what is known of exp where its magnitude is m
abbrev pub Known : Magnitude → Float → Type 0
Known Vast y = T (le vast y)
Known Slight y = T (le (dec 0 1) y) × T (le y slight)
Known Other y = Unit

pub known : (x : Float) → Known (magnitude_of x) (exp_of x)
unfolding magnitude_of by_power exp_of round
known x = go (ne x x) (lt limit x) (lt x (neg limit)) (within_of (neg most_r) most_r (reduced x (exponent x))) (λ t. t)
    (le (fin false 1 (pos 57)) (two_to (exponent x))) (λ t. t)
    (le (two_to (exponent x)) (fin false 1 (negsuc 55))) (λ t. t)
  where
    go : (a b c d : Bool) → (T d → InR (reduced x (exponent x))) → (e : Bool) → (T e → T (le (fin false 1 (pos 57)) (two_to (exponent x)))) → (f : Bool)
        → (T f → T (le (two_to (exponent x)) (fin false 1 (negsuc 55))))
        → Known (cond a Other (cond b Vast (cond c Slight (cond d (cond e Vast (cond f Slight Other)) Other))))
        (cond a x (cond b (inf false) (cond c (fin false 0 (pos 0)) (within x))))
    go true b c d i e j f k = tt
    go false true c d i e j f k = unfold le in tt
    go false false true d i e j f k = (unfold le in tt, unfold le in tt)
    go false false false true i true j f k = vast_product _ _ (within_series _ (i tt)) (j tt)
    go false false false true i false j true k = (from_0_product _ _ (within_series _ (i tt)), slight_product _ _ (within_series _ (i tt)) (k tt))
    go false false false true i false j false k = tt
    go false false false false i e j f k = tt
