-- Definitions. The whole number nearest k times a double (02, paper 1: "The exact values are rounded to nearest, halves away from zero"), and what
-- makes it that number, in whole numbers alone: `nearest`, `at_most`.
use Rattle.std.specs.Prelude.{ℕ, ◌+◌, ◌*◌, ◌/◌, ◌≤◌, ◌<◌, ◌≡◌, Bool, T, ℤ, Float}
use Rattle.std.proofs.Math.Nat.{div-mul-le_self, lt-div-mul-add, add-mul}
use Rattle.std.proofs.Common.{div-lt_iff_lt-mul, mul-le-mul_left, mul_comm, mul_assoc, mul_left_comm, mul-add, mul-one, one-mul, sym, subst}
use native.Mathlib.Omega.{arith}
use Rattle.std.specs.Float.{nan, inf, fin}
use Rattle.std.specs.Float.Ieee.{up, down}
use Rattle.std.specs.Float.Ieee.Fits.{down_pos}
use Rattle.number.specs.Ops.{dec}
use Rattle.number.specs.Number.{about_of}
use Rattle.number.specs.Rounding.{about_size}

-- the whole number nearest k * a / c, halves upwards: the whole part of k * a / c + 1/2
abbrev pub nearest_of : ℕ → ℕ → ℕ → ℕ
nearest_of k a c = (2 * (k * a) + c) / (2 * c)

-- the magnitude of the whole number nearest k * x. The double ±m * 2 ^ e has the magnitude m * up e / down e
unfoldable pub rounded_of : ℕ → Float → ℕ
rounded_of k nan = 0
rounded_of k (inf s) = 0
rounded_of k (fin s m e) = nearest_of k (m * up e) (down e)

module _ (k : ℕ) (s : Bool) (m : ℕ) (e : ℤ) where
  abbrev n : ℕ
  n = rounded_of k (fin s m e)

  -- n - 1/2 ≤ k * |x| < n + 1/2, both sides times 2 * down e: n is nearest, and of two that are equally near the one further from zero
  pub nearest : (2 * n * down e ≤ 2 * (k * (m * up e)) + down e) × (2 * (k * (m * up e)) + down e < 2 * (n + 1) * down e)
  unfolding rounded_of
  nearest =
      let a = 2 * (k * (m * up e)) + down e in
      let c = 2 * down e in
      let d : 0 < down e = down_pos e in
      let g : n * c ≡ 2 * n * down e = simp (mul_assoc, mul_comm) in
      let h : 2 * (n + 1) * down e ≡ 2 * n * down e + 2 * down e = simp (mul-add, add-mul, mul-one) in
      let lo = div-mul-le_self a c in
      let hi = lt-div-mul-add {a = a} {b = c} (omega arith) in
      (omega arith, omega arith)

-- of a double of magnitude at most 1,000,000 it is at most 1,000,000 times k
pub at_most : (k : ℕ) (x : Float) → T (about_of (dec 1000000 1) x) → rounded_of k x ≤ k * 1000000
unfolding rounded_of
at_most k nan h = omega arith
at_most k (inf s) h = omega arith
at_most k (fin s m e) h =
    let d : 0 < down e = down_pos e in
    let b : m * up e ≤ 1000000 * down e = about_size s m e h in
    let w : k * (m * up e) ≤ k * 1000000 * down e = subst (λ (z : ℕ). k * (m * up e) ≤ z) (sym (mul_assoc k 1000000 (down e))) (mul-le-mul_left k b) in
    let g : (k * 1000000 + 1) * (2 * down e) ≡ 2 * (k * 1000000 * down e) + 2 * down e = simp (mul_assoc, mul_comm, mul_left_comm, mul-add, one-mul) in
    let l : rounded_of k (fin s m e) < k * 1000000 + 1 = (div-lt_iff_lt-mul {k = 2 * down e} (omega arith)).1 (omega arith) in
    omega arith
