-- Statements. For x from −700 to 700 the n of exp is a whole number from −1010 to 1010, so 2 ^ n is a double (`specs/Power.antt`). Assumes nothing.
use Rattle.std.specs.Prelude.{◌≡◌, false, ℕ, ◌-◌, ◌<◌, Float}
use Rattle.std.proofs.Common.{ap, arith}
use Rattle.std.specs.Float.{fin, binary64}
use Rattle.std.specs.Float.Ieee.{minus, of_int, lt, ne, neg}
use Rattle.exponential.specs.Exp.{power, limit, shifted, exponent, two_to}
use Rattle.exponential.specs.Shift.{sum_of, difference, integer}

-- n is the double of the integer i − 1010, and 2 ^ n is `power i`
pub record Whole (x : Float) : Type 0 where
  pub i : ℕ
  pub most : i < 2021
  pub is : exponent x ≡ of_int binary64 (minus i 1010)
  pub entry : two_to (exponent x) ≡ power i

pub whole : (x : Float) → ne x x ≡ false → lt limit x ≡ false → lt x (neg limit) ≡ false → Whole x
whole x a b c =
    let s = sum_of x a b c in
    let m = s.most in
    record { i = s.q - 6755399441054734; most = omega arith; is = difference (shifted x) s; entry = ap (fin false 1) (integer (shifted x) s) }
