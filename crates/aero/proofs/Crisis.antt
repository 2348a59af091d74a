-- The drag crisis far from its middle: sigma is 1 where exp is slight, and where exp is vast it adds nothing to a coefficient that `keeps` has tested.
-- Assumes nothing.
use Rattle.std.specs.Prelude.{◌≡◌, ◌⊎◌, ℕ, ◌+◌, ◌*◌, ◌≤◌, ◌<◌, ◌==◌, true, false, T, pos, negsuc, Float}
use Rattle.std.proofs.Common.{sym, ap, ◌∙◌, subst, inl, inr, ⊎_elim, zero-mul, arith, eqb→eq}
use Rattle.std.proofs.Math.Dec.{not_T}
use Rattle.std.specs.Float.{nan, inf, fin, binary64}
use Rattle.std.specs.Float.Ieee.{up, down, add, sub, mul, div, fits, round, neg, lt, le, eq}
use Rattle.std.specs.Float.Ieee.Bits.{cond_no}
use Rattle.std.specs.Float.Ieee.Fits.{down_pos, add-fits}
use Rattle.number.specs.Ops.{◌⊕◌, ◌⊖◌, ◌⊗◌, ◌⊘◌, dec}
use Rattle.number.specs.Number.{finite_of, within_of}
use Rattle.number.specs.Order.{le→, le_through, eq-le, eq_sym, le_total, neg-le, neg_finite, le_self, within_lo, within_hi}
use Rattle.number.specs.Order.{between_finite, within_finite}
use Rattle.number.specs.Rounding.{add_mono, mul_mono, mul_commutes, round_between, add_grows}
use Rattle.number.specs.Against0.{add_shrinks}
use Rattle.number.specs.Products.{neg_neg, neg_mul, product_from_0, same_of_le}
use Rattle.exponential.specs.Magnitude.{vast, slight}
use Rattle.aero.specs.Crisis.{Kept}

-- ---- where exp is slight
one_more : (e : Float) → T (le (dec 0 1) e) → T (le e slight) → dec 1 1 ⊕ e ≡ dec 1 1
unfolding round
one_more e h k =
    let o = fin false 1 (pos 0) in
    let i = between_finite (fin false 0 (pos 0)) (fin false 1 (negsuc 53)) e tt tt h k in
    let l : T (le o (o ⊕ e)) = add_grows o e (unfold fits in tt) tt i h in
    let m : T (le (o ⊕ e) o) = le_through (o ⊕ e) (o ⊕ fin false 1 (negsuc 53)) o (add_mono o o e (fin false 1 (negsuc 53)) tt tt i tt (unfold le in tt) k)
    (unfold add in unfold le in tt) in
    sym (same_of_le o (o ⊕ e) (unfold fits in tt) (add-fits binary64 o e) tt (between_finite o o (o ⊕ e) tt tt l m) (unfold lt in tt) l m)

pub sigma_slight : (e : Float) → T (le (dec 0 1) e) → T (le e slight) → dec 1 1 ⊘ (dec 1 1 ⊕ e) ≡ dec 1 1
unfolding div round
sigma_slight e h k = ap (λ (y : Float). dec 1 1 ⊘ y) (one_more e h k)

-- ---- where exp is vast
reciprocal : (y : Float) → T (le vast y) → T (within_of (dec 0 1) slight (dec 1 1 ⊘ y))
unfolding div round
reciprocal nan h = absurd (unfold le in h)
reciprocal (inf true) h = absurd (unfold le in h)
reciprocal (inf false) h = unfold within_of in unfold le in tt
reciprocal (fin true m e) h = absurd (let l = le→ false 1 (pos 54) true m e h in let d = down_pos e in omega arith)
reciprocal (fin false m e) h =
    let l = le→ false 1 (pos 54) false m e h in
    let d = down_pos e in
    subst (λ (z : Float). T (within_of (fin false 0 (pos 0)) (fin false 1 (negsuc 53)) z))
    (sym (cond_no (m == 0) _ _ (not_T (m == 0) (λ u. some (eqb→eq m 0 u) l d))))
    (round_between binary64 (fin false 0 (pos 0)) (fin false 1 (negsuc 53)) false (1 * 1 * down e) (m * up e * 1) (unfold fits in tt) (unfold fits in tt)
    (omega arith) (omega arith) (omega arith))
  where
    some : m ≡ 0 → 1 * 18014398509481984 * down e + 0 ≤ m * up e * 1 + 0 → 0 < down e → ⊥
    some z l d = let y : m * up e ≡ 0 = ap (λ (x : ℕ). x * up e) z ∙ zero-mul (up e) in omega arith

vast_sum : (e : Float) → T (le vast e) → T (le vast (dec 1 1 ⊕ e))
unfolding round
vast_sum nan h = absurd (unfold le in h)
vast_sum (inf true) h = absurd (unfold le in h)
vast_sum (inf false) h = unfold add in unfold le in tt
vast_sum (fin s m e) h =
    le_through (fin false 1 (pos 54)) (fin false 1 (pos 0) ⊕ fin false 1 (pos 54)) (fin false 1 (pos 0) ⊕ fin s m e) (unfold add in unfold le in tt)
    (add_mono (fin false 1 (pos 0)) (fin false 1 (pos 0)) (fin false 1 (pos 54)) (fin s m e) tt tt tt tt (unfold le in tt) h)

pub sigma_vast : (e : Float) → T (le vast e) → T (within_of (dec 0 1) slight (dec 1 1 ⊘ (dec 1 1 ⊕ e)))
sigma_vast e h = reciprocal (dec 1 1 ⊕ e) (vast_sum e h)

-- ---- a coefficient that is kept
finite_factor : (d : Float) → T (finite_of (d ⊗ slight)) → T (finite_of d)
unfolding mul round
finite_factor nan h = h
finite_factor (inf s) h = h
finite_factor (fin s m e) h = tt

finite_taken : (x y : Float) → T (finite_of (x ⊖ y)) → T (finite_of y)
unfolding sub add neg
finite_taken nan y h = absurd h
finite_taken x (fin t n d) h = tt
finite_taken (inf s) nan h = h
finite_taken (inf true) (inf true) h = h
finite_taken (inf true) (inf false) h = h
finite_taken (inf false) (inf true) h = h
finite_taken (inf false) (inf false) h = h
finite_taken (fin s m e) nan h = h
finite_taken (fin s m e) (inf t) h = h

finite_equal : (x y : Float) → T (finite_of y) → T (eq x y) → T (finite_of x)
unfolding eq
finite_equal nan y i h = h
finite_equal (fin s m e) y i h = tt
finite_equal (inf s) nan i h = h
finite_equal (inf s) (inf t) i h = i
finite_equal (inf s) (fin t n d) i h = h

minus_zero : T (le (neg (dec 0 1)) (dec 0 1)) × T (le (dec 0 1) (neg (dec 0 1)))
unfolding neg round
minus_zero = (unfold le in tt, unfold le in tt)

-- between 0 and its greatest, of either sign
grown : (d y : Float) → T (finite_of d) → T (le (dec 0 1) d) → T (within_of (dec 0 1) slight y) → T (le (d ⊗ y) (d ⊗ slight))
unfolding round
grown d y i h g =
    let j = within_finite (fin false 0 (pos 0)) (fin false 1 (negsuc 53)) y tt tt g in
    subst (λ (z : Float). T (le z (d ⊗ fin false 1 (negsuc 53)))) (mul_commutes binary64 y d)
    (subst (λ (z : Float). T (le (y ⊗ d) z)) (mul_commutes binary64 (fin false 1 (negsuc 53)) d)
    (mul_mono y (fin false 1 (negsuc 53)) d j tt i (within_hi (fin false 0 (pos 0)) (fin false 1 (negsuc 53)) y g) h))

from_0 : (d y : Float) → T (finite_of d) → T (le (dec 0 1) d) → T (within_of (dec 0 1) slight y) → T (le (dec 0 1) (d ⊗ y))
unfolding round
from_0 d y i h g = product_from_0 d y i (within_finite (fin false 0 (pos 0)) (fin false 1 (negsuc 53)) y tt tt g) h
    (within_lo (fin false 0 (pos 0)) (fin false 1 (negsuc 53)) y g)

turned : (d y : Float) → d ⊗ y ≡ neg (neg d ⊗ y)
turned d y = ap (λ (z : Float). z ⊗ y) (sym (neg_neg d)) ∙ neg_mul (neg d) y

same : (x y p : Float) → T (fits binary64 x) → T (finite_of x) → T (finite_of y) → T (finite_of p) → T (lt (dec 0 1) x) → T (eq (x ⊕ p) x)
    → (T (le (dec 0 1) y) × T (le y p)) ⊎ (T (le y (dec 0 1)) × T (le p y)) → x ⊕ y ≡ x
same x y p f i j k h e b =
    let q = finite_equal (x ⊕ p) x i e in
    ⊎_elim
    (λ g. end (add_grows x y f i j g.0) (le_through (x ⊕ y) (x ⊕ p) x (add_mono x x y p i i j k (le_self x i) g.1) (eq-le (x ⊕ p) x e)))
    (λ g. end (le_through x (x ⊕ p) (x ⊕ y) (eq-le x (x ⊕ p) (eq_sym (x ⊕ p) x q i e)) (add_mono x x p y i i k j (le_self x i) g.1))
    (add_shrinks x y f i j g.0))
    b
  where
    end : T (le x (x ⊕ y)) → T (le (x ⊕ y) x) → x ⊕ y ≡ x
    end l m = sym (same_of_le x (x ⊕ y) f (add-fits binary64 x y) i (between_finite x x (x ⊕ y) i i l m) h l m)

kept_by : (x d y : Float) → T (fits binary64 x) → T (finite_of d) → T (finite_of (d ⊗ slight)) → T (finite_of x) → T (lt (dec 0 1) x) → T
    (eq (x ⊕ d ⊗ slight) x)
    → T (within_of (dec 0 1) slight y) → x ⊕ d ⊗ y ≡ x
kept_by x d y f i k u a e g = ⊎_elim up_from down_from (le_total (dec 0 1) d (unfold round in tt) i)
  where
    n : Float
    n = neg d

    up_from : T (le (dec 0 1) d) → x ⊕ d ⊗ y ≡ x
    up_from h =
        let l = from_0 d y i h g in
        let m = grown d y i h g in
        same x (d ⊗ y) (d ⊗ slight) f u (between_finite (dec 0 1) (d ⊗ slight) (d ⊗ y) (unfold round in tt) k l m) k a e (inl (l, m))

    down_from : T (le d (dec 0 1)) → x ⊕ d ⊗ y ≡ x
    down_from h =
        let o : T (le (dec 0 1) n) = le_through (dec 0 1) (neg (dec 0 1)) n minus_zero.1 (neg-le d (dec 0 1) h) in
        let j = neg_finite d i in
        let l : T (le (d ⊗ y) (dec 0 1)) = subst (λ (z : Float). T (le z (dec 0 1))) (sym (turned d y))
        (le_through (neg (n ⊗ y)) (neg (dec 0 1)) (dec 0 1) (neg-le (dec 0 1) (n ⊗ y) (from_0 n y j o g)) minus_zero.0) in
        let m : T (le (d ⊗ slight) (d ⊗ y)) = subst (λ (z : Float). T (le z (d ⊗ y))) (sym (turned d slight))
        (subst (λ (z : Float). T (le (neg (n ⊗ slight)) z)) (sym (turned d y)) (neg-le (n ⊗ y) (n ⊗ slight) (grown n y j o g))) in
        same x (d ⊗ y) (d ⊗ slight) f u (between_finite (d ⊗ slight) (dec 0 1) (d ⊗ y) k (unfold round in tt) m l) k a e (inr (l, m))

pub kept : (x z : Float) → T (fits binary64 x) → T (lt (dec 0 1) x) → T (finite_of ((z ⊖ x) ⊗ slight)) → T (eq (x ⊕ (z ⊖ x) ⊗ slight) x) → Kept x z
kept x z f a k e y g = let i = finite_factor (z ⊖ x) k in kept_by x (z ⊖ x) y f i k (finite_taken z x i) a e g
