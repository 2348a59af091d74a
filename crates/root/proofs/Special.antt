-- The root where the double is 0, infinite or below 0. Assumes nothing.
use mathlib.Core.Path.{◌≡◌, refl, sym, ap, ◌∙◌, subst}
use Prim.Native.Nat.{ℕ, zero, suc, ◌+◌, ◌*◌, ◌/◌, ◌%◌, ◌^◌, ◌≤◌, ◌<◌}
use native.Mathlib.Nat.{mul-pos, zero-mul, le_of_suc-le-suc, lt_of_not-le}
use native.Mathlib.Omega.{arith}
use mathlib.Core.Bool.{Bool, true, false, cond, not, true≢false}
use lib.Dec.{T, leb, eqb, le→leb, lt→ltb, T_not}
use lib.Pow.{pow_pos}
use lib.Ieee.{Float, nan, inf, fin, binary64, up, down, odd, of_fields, of_bits, to_bits, nan_bits, is_nan, fits, div, neg}
use lib.Ieee.Bits.{is_true, nan_bits_above, nan_bits_is, of_bits-to_bits, to_bits-lt}
use lib.Ieee.Fits.{down_pos}
use lib.Ieee.Exact.{HasValue, odd_sign}
use Rattle.root.specs.Root.{root_of}
use Rattle.root.proofs.Patterns.{of_bits_is, some}

pub at_nan : (x : Float) → x ≡ nan → x ≡ root_of x
unfolding root_of
at_nan x e = subst (λ (y : Float). y ≡ root_of y) (sym e) refl

back : (x : Float) (n : ℕ) → T (fits binary64 x) → to_bits binary64 x ≡ n → of_bits binary64 n ≡ x
back x n f e = ap (of_bits binary64) (sym e) ∙ of_bits-to_bits binary64 x f

pub at_zero : (x : Float) → T (fits binary64 x) → to_bits binary64 x ≡ 0 → x ≡ root_of x
unfolding root_of of_bits
at_zero x f e = subst (λ (y : Float). y ≡ root_of y) (back x 0 f e) refl

pub at_minus_zero : (x : Float) → T (fits binary64 x) → to_bits binary64 x ≡ 9223372036854775808 → neg (of_bits binary64 0) ≡ root_of x
unfolding root_of of_bits neg
at_minus_zero x f e = subst (λ (y : Float). neg (of_bits binary64 0) ≡ root_of y) (back x 9223372036854775808 f e) refl

pub at_infinity : (x : Float) → T (fits binary64 x) → to_bits binary64 x ≡ 9218868437227405312 → x ≡ root_of x
unfolding root_of of_bits
at_infinity x f e = subst (λ (y : Float). y ≡ root_of y) (back x 9218868437227405312 f e) refl

-- ---- below 0
root_of_minus : (y : Float) (a : ℕ) → 0 < a → HasValue y true a (2 ^ 1074) → root_of y ≡ nan
unfolding root_of
root_of_minus nan a p v = absurd v
root_of_minus (inf s) a p v = absurd v
root_of_minus (fin false m e) a p v = absurd (true≢false (sym v.0))
root_of_minus (fin true zero e) a p v = absurd (some a (down e) p (down_pos e)
    (sym (ap (λ (x : ℕ). x * 2 ^ 1074) (zero-mul (up e)) ∙ zero-mul (2 ^ 1074)) ∙ v.1))
root_of_minus (fin true (suc m) e) a p v = refl

fields : (x t : ℕ) → 0 < x + t → root_of (of_fields binary64 true x t) ≡ nan
unfolding of_fields root_of
fields zero t h = root_of_minus (odd 53 true t 0 1074) (t * 2 ^ 0) (omega arith) (odd_sign 53 true t 0 1074)
fields (suc x) t h = go (eqb (suc x) 2047) (eqb t 0)
  where
    go : (p q : Bool) → root_of (cond p (cond q (inf true) nan) (odd 53 true (4503599627370496 + t) x 1074)) ≡ nan
    go true true = refl
    go true false = refl
    go false q = root_of_minus (odd 53 true (4503599627370496 + t) x 1074) ((4503599627370496 + t) * 2 ^ x) (mul-pos (omega arith) (pow_pos x))
        (odd_sign 53 true (4503599627370496 + t) x 1074)

minus : (b : ℕ) → 9223372036854775808 < b → b < 18446744073709551616 → root_of (of_bits binary64 b) ≡ nan
minus b h k =
    ap root_of (of_bits_is b ∙ ap (λ (s : Bool). of_fields binary64 s (b % 9223372036854775808 / 4503599627370496) (b % 4503599627370496))
    (is_true (leb 9223372036854775808 b) (le→leb 9223372036854775808 b (omega arith))))
    ∙ fields (b % 9223372036854775808 / 4503599627370496) (b % 4503599627370496) (omega arith)

-- no pattern between that of the infinity and that of -0
past : (b : ℕ) → T (not (nan_bits binary64 b)) → 9218868437227405312 < b → 9223372036854775808 ≤ b
past b n h = le_of_suc-le-suc (lt_of_not-le (λ (g : b < 9223372036854775808).
    let e : b % 9223372036854775808 ≡ b = omega arith in
    T_not (nan_bits binary64 b) n (rw (nan_bits_above, e) (lt→ltb 9218868437227405312 b h))))

quotient : div binary64 (of_bits binary64 0) (of_bits binary64 0) ≡ nan
unfolding div of_bits
quotient = refl

pub at_minus : (x : Float) → T (fits binary64 x) → T (not (is_nan x)) → 9218868437227405312 ≤ to_bits binary64 x
    → (to_bits binary64 x ≡ 9218868437227405312 → ⊥)
    → (to_bits binary64 x ≡ 9223372036854775808 → ⊥)
    → div binary64 (of_bits binary64 0) (of_bits binary64 0) ≡ root_of x
at_minus x f n p q r =
    let b = to_bits binary64 x in
    let e : of_bits binary64 b ≡ x = of_bits-to_bits binary64 x f in
    let m : T (not (nan_bits binary64 b)) = rw (nan_bits_is, e) n in
    let g : 9223372036854775808 ≤ b = past b m (omega (arith, q)) in
    quotient ∙ sym (ap root_of (sym e) ∙ minus b (omega (arith, r)) (to_bits-lt binary64 x f))
