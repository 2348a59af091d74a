-- The fewest decimal digits that hold a number are its digits without leading zeros. Assumes nothing.
use Prim.Native.Nat.{ℕ, zero, suc, ◌+◌, ◌-◌, ◌*◌, ◌/◌, ◌%◌, ◌^◌, ◌≤◌, ◌<◌}
use native.Mathlib.Nat.{pow-le-pow_right, pow-suc, mod-lt, mod-eq_of_lt, le-div_iff_mul-le, div-lt_iff_lt-mul, one-le-pow}
use native.Mathlib.Omega.{arith}
use mathlib.Core.Path.{◌≡◌, refl, ap, subst}
use mathlib.Core.Bool.{Bool, true, false}
use lib.Dec.{ltb}
use mathlib.Core.List.{[], ◌∷◌}
use borrow.Author.Tests.{lt-ltb, le-ltb, ltb-true, ltb-false}
use Rattle.io.specs.Digits.{last_digits, IsDigitCount, hex_digit_ascii}
use Rattle.text.specs.Text.{decimal_in}

digit : (d : ℕ) → d < 10 → hex_digit_ascii d ≡ 48 + d
digit d h = rw (lt-ltb d 10 h)

pub fewest : (f k n : ℕ) → k ≤ f → IsDigitCount 10 1 n k → last_digits 10 k n ≡ decimal_in f n
unfolding decimal_in
fewest f zero n h w = absurd (let x = w.0 in omega arith)
fewest zero (suc k) n h w = absurd (omega arith)
fewest (suc f) (suc zero) n h w =
    let l : n < 10 = w.1 in
    rw (lt-ltb n 10 l, mod-eq_of_lt l) (ap (λ (x : ℕ). x ∷ []) (digit n l))
fewest (suc f) (suc (suc j)) n h w =
    let e : suc (suc j) - 1 ≡ suc j = omega arith in
    let m : 10 ^ suc j ≤ n = subst (λ (x : ℕ). 10 ^ x ≤ n) e (w.2 (omega arith)) in
    let low : 10 ^ j * 10 ≤ n = subst (λ (x : ℕ). x ≤ n) (pow-suc 10 j) m in
    let d : j ≡ suc j - 1 = omega arith in
    let one : 1 ≤ 10 ^ j = one-le-pow j 10 (omega arith) in
    let ten : 10 ≤ n = omega arith in
    let top : n < 10 ^ suc j * 10 = subst (λ (x : ℕ). n < x) (pow-suc 10 (suc j)) w.1 in
    let p : 0 < 10 = omega arith in
    rw (
      le-ltb n 10 ten,
      digit (n % 10) (mod-lt n p),
      fewest f (suc j) (n / 10) (omega arith) (
        omega arith,
        (div-lt_iff_lt-mul p).1 top,
        λ _. subst (λ (x : ℕ). 10 ^ x ≤ n / 10) d ((le-div_iff_mul-le p).1 low),
      ),
    )

-- a u64 takes at most 20
pub few : (n k : ℕ) → n < 18446744073709551616 → IsDigitCount 10 1 n k → k ≤ 20
few n k h w = within (ltb 20 k) refl where
  big : 20 < k → ⊥
  big g =
      let a : 20 ≤ k - 1 = omega arith in
      let b : 100000000000000000000 ≤ 10 ^ (k - 1) = pow-le-pow_right (omega arith) a in
      let d = w.2 (omega arith) in
      omega arith

  within : (b : Bool) → ltb 20 k ≡ b → k ≤ 20
  within true e = absurd (big (ltb-true 20 k e))
  within false e = ltb-false 20 k e
