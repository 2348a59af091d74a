-- The bits of the sum that exp makes, and the index of the power of two that they give. Assumes nothing.
use mathlib.Core.Path.{◌≡◌, sym, ap, ◌∙◌, subst}
use Prim.Native.Nat.{ℕ, ◌+◌, ◌-◌, ◌*◌, ◌/◌, ◌%◌, ◌^◌, ◌≤◌, ◌<◌}
use native.Mathlib.Omega.{arith}
use mathlib.Core.Bool.{false, not}
use lib.Dec.{T}
use lib.Ieee.{Float, nan, inf, fin, binary64, minus, sub, of_bits, to_bits, to_signed, fits, is_nan, odd}
use lib.Ieee.Bits.{of_bits-fits, to_bits-of_bits}
use lib.Ieee.Exact.{HasValue, odd_sign}
use lib.Ieee.Back.{whole_unique}
use Rattle.exponential.specs.Exp.{shift_by}
use Rattle.exponential.specs.Rounding.{by_one}
use Rattle.exponential.specs.Shift.{Sum, integer}
use Rattle.exponential.specs.Power.{normal}

pub no_nan : (u : Float) → Sum u → T (not (is_nan u))
unfolding is_nan
no_nan nan s = absurd s.is
no_nan (inf t) s = tt
no_nan (fin t m e) s = tt

pattern_value : (q : ℕ) → 4503599627370496 ≤ q → q < 9007199254740992 → HasValue (of_bits binary64 (q + 4836865999795912704)) false q 1
pattern_value q h k =
    let b = q + 4836865999795912704 in
    let d : 4503599627370496 + b % 4503599627370496 ≡ q = omega arith in
    let f : b / 4503599627370496 - 1 ≡ 1074 = omega arith in
    let e : of_bits binary64 b ≡ odd 53 false q 1074 1074 = normal b (omega arith) (omega arith)
    ∙ ap (λ (x : ℕ). odd 53 false x (b / 4503599627370496 - 1) 1074) d ∙ ap (λ (x : ℕ). odd 53 false q x 1074) f in
    by_one (of_bits binary64 b) false q (subst (λ (y : Float). HasValue y false (q * 2 ^ 1074) (2 ^ 1074)) (sym e) (odd_sign 53 false q 1074 1074))

pub bits_of_sum : (u : Float) → T (fits binary64 u) → (s : Sum u) → to_bits binary64 u ≡ s.q + 4836865999795912704
bits_of_sum u f s =
    let b = s.q + 4836865999795912704 in
    let l = s.least in
    let m = s.most in
    let e : u ≡ of_bits binary64 b = whole_unique binary64 u (of_bits binary64 b) false s.q f
    (of_bits-fits binary64 b) s.is (pattern_value s.q (omega arith) (omega arith)) in
    ap (to_bits binary64) e ∙ to_bits-of_bits binary64 b (omega arith) (subst (λ (y : Float). T (not (is_nan y))) e (no_nan u s))

-- the index, by the sum's bits, is that of the power for that integer
pub record Index (u : Float) : Type 0 where
  pub least : 4843621399236967438 ≤ to_bits binary64 u
  pub most : to_bits binary64 u - 4843621399236967438 < 2021
  pub entry : minus (to_bits binary64 u - 4843621399236967438) 1010 ≡ to_signed 63 (sub binary64 u shift_by)

pub index : (u : Float) → T (fits binary64 u) → Sum u → Index u
index u f s =
    let e = bits_of_sum u f s in
    let l = s.least in
    let m = s.most in
    let i : to_bits binary64 u - 4843621399236967438 ≡ s.q - 6755399441054734 = omega arith in
    record {
      least = omega arith;
      most = omega arith;
      entry = ap (λ (x : ℕ). minus x 1010) i ∙ sym (integer u s);
    }
