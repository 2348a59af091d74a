-- What the code's tests of a double say. Assumes nothing.
use Rattle.std.proofs.Common.{◌≡◌, ℕ, ◌+◌, ◌-◌, ◌*◌, ◌/◌, ◌^◌, ◌<◌, ◌≤◌, true, false, cond, not, T, ltb, ℤ, pos, sym, refl, ap, ◌∙◌, subst, true≢false}
use Rattle.std.proofs.Common.{zero-le, zero-lt-suc, mul-pos, one-mul, zero-add, zero-mul, mul-one, arith}
use mathlib.Core.Bool.{false≢true}
use lib.Ieee.{Float, nan, inf, fin, binary64, up, down, round, sub, neg, le, is_nan, fits, of_bits, to_bits, size}
use lib.Ieee.Bits.{is_true, to_bits-lt}
use lib.Ieee.Fits.{down_pos, neg-fits}
use lib.Ieee.Scale.{round_same}
use Rattle.std.specs.Float.{float_is_finite}
use Rattle.number.specs.Number.{finite_of, signum_of, abs_of}
use Rattle.number.specs.Order.{le→, →le}
use Rattle.number.specs.Rounding.{round_self}

-- ---- what the library calls finite
pub finite_same : (x : Float) → float_is_finite x ≡ finite_of x
unfolding float_is_finite
finite_same nan = refl
finite_same (inf s) = refl
finite_same (fin s m e) = refl

-- ---- the sign is the highest bit
top_bit : (q k : ℕ) → 9223372036854775808 + k + q ≡ 9223372036854775808 + (0 + k + q)
top_bit q k = omega arith

negated_bits : (m : ℕ) (e : ℤ) → to_bits binary64 (fin true m e) ≡ 9223372036854775808 + to_bits binary64 (fin false m e)
unfolding to_bits
negated_bits m e = let n = m * up e * 2 ^ 1074 / down e in top_bit (n / 2 ^ (size n - 53)) ((size n - 53) * 4503599627370496)

low_bits : (m : ℕ) (e : ℤ) → T (fits binary64 (fin false m e)) → to_bits binary64 (fin false m e) < 9223372036854775808
unfolding neg
low_bits m e f =
    let l : to_bits binary64 (fin true m e) < 18446744073709551616 = to_bits-lt binary64 (fin true m e) (neg-fits binary64 (fin false m e) f) in
    omega (arith, negated_bits m e)

pub plus_sign : (x : Float) → T (not (is_nan x)) → to_bits binary64 x < 9223372036854775808 → of_bits binary64 0x3ff0_0000_0000_0000 ≡ signum_of x
unfolding of_bits signum_of is_nan to_bits
plus_sign nan n h = absurd n
plus_sign (inf true) n h = absurd (omega arith)
plus_sign (inf false) n h = refl
plus_sign (fin true m e) n h = absurd (let l : to_bits binary64 (fin true m e) < 9223372036854775808 = h in omega (arith, negated_bits m e))
plus_sign (fin false m e) n h = refl

pub minus_sign : (x : Float) → T (fits binary64 x) → T (not (is_nan x)) → 9223372036854775808 ≤ to_bits binary64 x
    → neg (of_bits binary64 0x3ff0_0000_0000_0000) ≡ signum_of x
unfolding of_bits neg signum_of is_nan to_bits
minus_sign nan f n h = absurd n
minus_sign (inf true) f n h = refl
minus_sign (inf false) f n h = absurd (omega arith)
minus_sign (fin true m e) f n h = refl
minus_sign (fin false m e) f n h = absurd (let l : 9223372036854775808 ≤ to_bits binary64 (fin false m e) = h in omega (arith, low_bits m e f))

pub nan_sign : (x : Float) → is_nan x ≡ true → x ≡ signum_of x
unfolding signum_of is_nan
nan_sign nan h = refl
nan_sign (inf s) h = absurd (true≢false (sym h))
nan_sign (fin s m e) h = absurd (true≢false (sym h))

-- ---- the magnitude
zero_less : (a b c : ℕ) → a ≡ 0 → b ≡ 0 → cond (ltb b a) (round binary64 true (a - b) c) (round binary64 false (b - a) c)
    ≡ round binary64 false 0 c
zero_less a b c p q = rw (p, q)

abs_zero : (m : ℕ) (e : ℤ) → T (fits binary64 (fin false m e)) → m * up e ≡ 0 → sub binary64 (fin false 0 (pos 0)) (fin false m e) ≡ fin false m e
unfolding sub
abs_zero m e f z =
    zero_less (m * up e * 1) (0 * down e) (1 * down e) (mul-one (m * up e) ∙ z) (zero-mul (down e))
    ∙ round_same binary64 false 0 (1 * down e) (m * up e) (down e) (mul-pos (zero-lt-suc 0) (down_pos e)) (down_pos e)
    (zero-mul (down e) ∙ sym (ap (λ (x : ℕ). x * (1 * down e)) z ∙ zero-mul (1 * down e)))
    ∙ round_self binary64 false m e f

pub abs_low : (x : Float) → T (fits binary64 x) → le x (of_bits binary64 0) ≡ true → sub binary64 (of_bits binary64 0) x ≡ abs_of x
unfolding of_bits neg abs_of
abs_low nan f h = absurd (false≢true (unfold le in h))
abs_low (inf true) f h = unfold sub in refl
abs_low (inf false) f h = absurd (false≢true (unfold le in h))
abs_low (fin true m e) f h = unfold sub in rw (zero-mul (down e), zero-add, mul-one, one-mul)
    (round_self binary64 false m e (neg-fits binary64 (fin true m e) f))
abs_low (fin false m e) f h = abs_zero m e f (none (m * up e) (down e) (le→ false m e false 0 (pos 0) (subst T (sym h) tt)))
  where
    none : (a d : ℕ) → a * 1 + 0 ≤ 0 * 1 * d + 0 → a ≡ 0
    none a d l = omega (arith, mul-one a, zero-mul d)

pub abs_high : (x : Float) → le x (of_bits binary64 0) ≡ false → x ≡ abs_of x
unfolding of_bits abs_of
abs_high nan h = refl
abs_high (inf true) h = absurd (true≢false (unfold le in h))
abs_high (inf false) h = refl
abs_high (fin true m e) h = absurd (true≢false (sym (is_true (le (fin true m e) (fin false 0 (pos 0))) (→le true m e false 0 (pos 0) zero-le)) ∙ h))
abs_high (fin false m e) h = refl
