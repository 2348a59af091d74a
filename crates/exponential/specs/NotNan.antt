-- Statements. Exp gives a NaN only for a NaN: for x from −700 to 700 the polynomial's value is finite. Assumes nothing.
use Rattle.std.specs.Prelude.{◌≡◌, refl, ℕ, zero, suc, ◌+◌, ◌-◌, ◌*◌, ◌^◌, ◌≤◌, ◌<◌, Bool, not, cond, ◌&&◌, T, ltb, leb, eqb, ℤ, pos, negsuc, Float}
use Rattle.std.proofs.Common.{sym, ap, ◌∙◌, subst, ⊎_elim, le_trans, le_of_eq, mul-le-mul, mul-le-mul_right, mul-pos, mul-one, one-mul, mul_assoc, mul_comm, mul_left_comm, add-mul, add-le-add, zero-mul, lt_irrefl, zero-lt-suc, arith, leb→le, eqb→eq, pow-add, pow_pos}
use Rattle.std.proofs.Math.Bool.{true, false}
use Rattle.std.specs.Bool.{beq}
use Rattle.std.proofs.Math.Dec.{not_T}
use Rattle.std.specs.Float.Ieee.Bits.{cond_no}
use Rattle.std.specs.Float.{nan, inf, fin, binary64}
use Rattle.std.specs.Float.Ieee.{up, down, minus, unlike, add, sub, mul, div, sum, neg, round, odd, units, of_int, to_signed, is_nan, lt, ne}
use Rattle.std.specs.Float.Ieee.Fits.{down_pos, up_pos, round_is}
use Rattle.std.specs.Float.Ieee.Exact.{HasValue}
use Rattle.std.specs.Float.Ieee.Back.{round_whole}
use Rattle.number.specs.Ops.{◌⊕◌, ◌⊖◌, ◌⊗◌, ◌⊘◌}
use Rattle.exponential.specs.Exp.{one, limit, ln2_high, ln2_low, exponent, reduced, horner, within, exp_of}
use Rattle.exponential.specs.Rounding.{AtMost, round_at_power}
use Rattle.exponential.specs.Shift.{bounded}
use Rattle.exponential.specs.Whole.{whole}

-- a finite double of magnitude at most w
abbrev Size : Float → ℕ → Type 0
Size nan w = ⊥
Size (inf s) w = ⊥
Size (fin s m e) w = m * up e ≤ w * down e

of_at_most : (x : Float) (s : Bool) (w : ℕ) → AtMost x s w → Size x w
of_at_most nan s w h = h
of_at_most (inf t) s w h = h
of_at_most (fin t m e) s w h = h.1

grows : (x : Float) (v w : ℕ) → v ≤ w → Size x v → Size x w
grows nan v w h g = g
grows (inf s) v w h g = g
grows (fin s m e) v w h g = le_trans g (mul-le-mul_right (down e) h)

rounded : (s : Bool) (num den j : ℕ) → 0 < den → j ≤ 1023 → num ≤ 2 ^ j * den → Size (round binary64 s num den) (2 ^ j)
rounded s num den j d k h = of_at_most (round binary64 s num den) s (2 ^ j) (round_at_power s num den j d k h)

size_sum : (s : Bool) (a : ℕ) (t : Bool) (b c j : ℕ) → 0 < c → j ≤ 1023 → a + b ≤ 2 ^ j * c → Size (sum binary64 s a t b c) (2 ^ j)
unfolding sum
size_sum s a t b c j d k h = go (beq s t) (ltb a b)
  where
    less : (p q r : ℕ) → p + q ≤ r → p - q ≤ r
    less p q r g = omega arith

    go : (p q : Bool) → Size (cond p (round binary64 s (a + b) c) (cond q (round binary64 t (b - a) c) (round binary64 (s && ltb b a) (a - b) c))) (2 ^ j)
    go true q = rounded s (a + b) c j d k h
    go false true = rounded t (b - a) c j d k (less b a (2 ^ j * c) (omega (arith, h)))
    go false false = rounded (s && ltb b a) (a - b) c j d k (less a b (2 ^ j * c) h)

size_add : (x y : Float) (v w j : ℕ) → Size x v → Size y w → v + w ≤ 2 ^ j → j ≤ 1023 → Size (x ⊕ y) (2 ^ j)
unfolding add
size_add nan y v w j f g h k = absurd f
size_add (inf s) y v w j f g h k = absurd f
size_add (fin s m e) nan v w j f g h k = absurd g
size_add (fin s m e) (inf t) v w j f g h k = absurd g
size_add (fin s m e) (fin t n d) v w j f g h k =
    size_sum s (m * up e * down d) t (n * up d * down e) (down e * down d) j (mul-pos (down_pos e) (down_pos d)) k
    (le_trans (add-le-add (le_trans (mul-le-mul_right (down d) f) (le_of_eq (mul_assoc v (down e) (down d)))) (le_trans (mul-le-mul_right (down e) g) (le_of_eq (mul_assoc w (down d) (down e) ∙ ap (λ (z : ℕ). w * z) (mul_comm (down d) (down e))))))
    (le_trans (le_of_eq (sym (add-mul v w (down e * down d)))) (mul-le-mul_right (down e * down d) h)))

size_neg : (x : Float) (w : ℕ) → Size x w → Size (neg x) w
unfolding neg
size_neg nan w f = f
size_neg (inf s) w f = f
size_neg (fin s m e) w f = f

size_sub : (x y : Float) (v w j : ℕ) → Size x v → Size y w → v + w ≤ 2 ^ j → j ≤ 1023 → Size (x ⊖ y) (2 ^ j)
unfolding sub
size_sub x y v w j f g h k = size_add x (neg y) v w j f (size_neg y w g) h k

size_mul : (x y : Float) (v w j : ℕ) → Size x v → Size y w → v * w ≤ 2 ^ j → j ≤ 1023 → Size (x ⊗ y) (2 ^ j)
unfolding mul
size_mul nan y v w j f g h k = absurd f
size_mul (inf s) y v w j f g h k = absurd f
size_mul (fin s m e) nan v w j f g h k = absurd g
size_mul (fin s m e) (inf t) v w j f g h k = absurd g
size_mul (fin s m e) (fin t n d) v w j f g h k =
    rounded (unlike s t) (m * up e * (n * up d)) (down e * down d) j (mul-pos (down_pos e) (down_pos d)) k
    (le_trans (mul-le-mul f g) (le_trans (le_of_eq (four v (down e) w (down d))) (mul-le-mul_right (down e * down d) h)))
  where
    four : (a b c d : ℕ) → a * b * (c * d) ≡ a * c * (b * d)
    four a b c d = simp (mul_assoc, mul_left_comm)

-- by a double of 1 or more
size_div : (x y : Float) (n j : ℕ) → Size x (2 ^ j) → HasValue y false (suc n) 1 → j ≤ 1023 → Size (x ⊘ y) (2 ^ j)
unfolding div
size_div nan y n j f g k = absurd f
size_div (inf s) y n j f g k = absurd f
size_div (fin s m e) nan n j f g k = absurd g
size_div (fin s m e) (inf t) n j f g k = absurd g
size_div (fin s m e) (fin t zero d) n j f g k = absurd (none (suc n) (down d) (zero-lt-suc n) (down_pos d) (sym (ap (λ (z : ℕ). z * 1) (zero-mul (up d)) ∙ zero-mul 1) ∙ g.1))
  where
    none : (a b : ℕ) → 0 < a → 0 < b → 0 ≡ a * b → ⊥
    none a b p q e = lt_irrefl 0 (subst (λ (z : ℕ). 0 < z) (sym e) (mul-pos p q))
size_div (fin s m e) (fin t (suc b) d) n j f g k =
    let l : down d ≤ suc b * up d = le_trans (le_trans (le_of_eq (sym (one-mul (down d)))) (mul-le-mul_right (down d) (omega arith))) (le_of_eq (sym g.1 ∙ mul-one (suc b * up d))) in
    subst (λ (z : Float). Size z (2 ^ j)) (sym (cond_no (eqb (suc b) 0) _ _ (not_T (eqb (suc b) 0) (λ (u : T (eqb (suc b) 0)). some (eqb→eq (suc b) 0 u)))))
    (rounded (unlike s t) (m * up e * down d) (suc b * up d * down e) j (mul-pos (mul-pos (zero-lt-suc b) (up_pos d)) (down_pos e)) k
    (le_trans (mul-le-mul f l) (le_of_eq (mul_assoc (2 ^ j) (down e) (suc b * up d) ∙ ap (λ (z : ℕ). 2 ^ j * z) (mul_comm (down e) (suc b * up d))))))
  where
    some : suc b ≡ 0 → ⊥
    some q = omega arith

-- ---- the polynomial
size_number : (x : Float) (w : ℕ) → Size x w → T (not (is_nan x))
unfolding is_nan
size_number nan w f = absurd f
size_number (inf s) w f = tt
size_number (fin s m e) w f = tt

whole_is : (k : ℕ) → k < 14 → HasValue (of_int binary64 (pos (suc k))) false (suc k) 1
unfolding of_int
whole_is k h = round_whole binary64 false (suc k) (omega arith)

size_one : Size one 1
unfolding round
size_one = omega arith

step : (r p : Float) (k j : ℕ) → k < 14 → Size r (2 ^ 12) → Size p (2 ^ j) → 13 + j ≤ 1023 → Size (one ⊕ r ⊘ of_int binary64 (pos (suc k)) ⊗ p) (2 ^ (13 + j))
step r p k j h f g l =
    let t = r ⊘ of_int binary64 (pos (suc k)) in
    let q : Size t (2 ^ 12) = size_div r (of_int binary64 (pos (suc k))) k 12 f (whole_is k h) (omega arith) in
    let u : Size (t ⊗ p) (2 ^ (12 + j)) = size_mul t p (2 ^ 12) (2 ^ j) (12 + j) q g (le_of_eq (sym (pow-add 2 12 j))) (omega arith) in
    size_add one (t ⊗ p) 1 (2 ^ (12 + j)) (13 + j) size_one u (le_trans (twice (2 ^ (12 + j)) (pow_pos (12 + j))) (le_of_eq (sym (pow-add 2 1 (12 + j)) ∙ ap (λ (z : ℕ). 2 ^ z) (omega arith)))) l
  where
    twice : (z : ℕ) → 0 < z → 1 + z ≤ 2 * z
    twice z g = omega arith

horner_number : (k : ℕ) (r p : Float) (j : ℕ) → k ≤ 14 → Size r (2 ^ 12) → Size p (2 ^ j) → j + 13 * k ≤ 1023 → T (not (is_nan (horner k r p)))
unfolding horner
horner_number zero r p j h f g l = size_number p (2 ^ j) g
horner_number (suc k) r p j h f g l = horner_number k r (one ⊕ r ⊘ of_int binary64 (pos (suc k)) ⊗ p) (13 + j) (omega arith) f (step r p k j (omega arith) f g (omega arith)) (omega arith)

-- ---- r
size_exponent : (i : ℕ) → i < 2021 → Size (of_int binary64 (minus i 1010)) (2 ^ 10)
unfolding of_int
size_exponent i h = go (leb 1010 i)
  where
    go : (b : Bool) → Size (of_int binary64 (cond b (pos (i - 1010)) (negsuc (1010 - suc i)))) (2 ^ 10)
    go true = rounded false (i - 1010) 1 10 (zero-lt-suc 0) (omega arith) (omega arith)
    go false = rounded true (suc (1010 - suc i)) 1 10 (zero-lt-suc 0) (omega arith) (omega arith)

size_ln2_high : Size ln2_high 1
unfolding round
size_ln2_high = leb→le _ _ tt

size_ln2_low : Size ln2_low 1
unfolding round
size_ln2_low = leb→le _ _ tt

size_reduced : (x n : Float) → Size x (2 ^ 10) → Size n (2 ^ 10) → Size (reduced x n) (2 ^ 12)
size_reduced x n f g =
    let a : Size (n ⊗ ln2_high) (2 ^ 10) = size_mul n ln2_high (2 ^ 10) 1 10 g size_ln2_high (omega arith) (omega arith) in
    let b : Size (n ⊗ ln2_low) (2 ^ 10) = size_mul n ln2_low (2 ^ 10) 1 10 g size_ln2_low (omega arith) (omega arith) in
    let c : Size (x ⊖ n ⊗ ln2_high) (2 ^ 11) = size_sub x (n ⊗ ln2_high) (2 ^ 10) (2 ^ 10) 11 f a (omega arith) (omega arith) in
    size_sub (x ⊖ n ⊗ ln2_high) (n ⊗ ln2_low) (2 ^ 11) (2 ^ 10) 12 c b (omega arith) (omega arith)

-- ---- a product with a power of two is a NaN only where the other factor is
odd_number : (d : ℕ) (s : Bool) (q k l : ℕ) → T (not (is_nan (odd d s q k l)))
unfolding odd is_nan
odd_number d s zero k l = tt
odd_number d s (suc q) k l = tt

units_number : (s : Bool) (q k : ℕ) → T (not (is_nan (units binary64 s q k)))
unfolding units
units_number s q k = go (ltb (q * 2 ^ k) (2 ^ 2098))
  where
    go : (b : Bool) → T (not (is_nan (cond b (odd 54 s q k 1074) (inf s))))
    go true = odd_number 54 s q k 1074
    go false = unfold is_nan in tt

round_number : (s : Bool) (num den : ℕ) → T (not (is_nan (round binary64 s num den)))
round_number s num den = subst (λ (z : Float). T (not (is_nan z))) (sym (round_is binary64 s num den)) (units_number s _ _)

power_number : (p : Float) (e : ℤ) → T (not (is_nan p)) → T (not (is_nan (p ⊗ fin false 1 e)))
unfolding mul is_nan
power_number nan e n = absurd n
power_number (inf s) e n = tt
power_number (fin s m d) e n = round_number (unlike s false) (m * up d * (1 * up e)) (down d * down e)

-- ---- the theorem
within_number : (x : Float) → ne x x ≡ false → lt limit x ≡ false → lt x (neg limit) ≡ false → T (not (is_nan (within x)))
within_number x a b c =
    let w = whole x a b c in
    let f : Size x (2 ^ 10) = grows x 700 (2 ^ 10) (omega arith) (⊎_elim (of_at_most x false 700) (of_at_most x true 700) (bounded x a b c)) in
    let g : Size (exponent x) (2 ^ 10) = subst (λ (z : Float). Size z (2 ^ 10)) (sym w.is) (size_exponent w.i w.most) in
    power_number (horner 14 (reduced x (exponent x)) one) (to_signed 63 (exponent x)) (horner_number 14 (reduced x (exponent x)) one 0 (omega arith) (size_reduced x (exponent x) f g) size_one (omega arith))

pub exp_number : (x : Float) → T (not (is_nan x)) → T (not (is_nan (exp_of x)))
unfolding exp_of
exp_number x n = go (ne x x) (lt limit x) (lt x (neg limit)) refl refl refl
  where
    go : (p q r : Bool) → ne x x ≡ p → lt limit x ≡ q → lt x (neg limit) ≡ r → T (not (is_nan (cond p x (cond q (inf false) (cond r (fin false 0 (pos 0)) (within x))))))
    go true q r a b c = n
    go false true r a b c = unfold is_nan in tt
    go false false true a b c = unfold is_nan in tt
    go false false false a b c = within_number x a b c
