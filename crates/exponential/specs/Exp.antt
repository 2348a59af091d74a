-- Definitions. 01, Arithmetic: exp of a double.
use Rattle.std.specs.Prelude.{ℕ, zero, suc, false, cond, pos, Float}
use Rattle.std.specs.Float.{inf, fin, binary64}
use Rattle.std.specs.Float.Ieee.{minus, lt, ne, neg, of_int, to_signed}
use Rattle.number.specs.Ops.{◌⊕◌, ◌⊖◌, ◌⊗◌, ◌⊘◌, dec}

-- 2 ^ (i − 1010); for i below 2021 a double, whose bits `specs/Power.antt` gives
abbrev pub power : ℕ → Float
power i = fin false 1 (minus i 1010)

abbrev pub one : Float
one = dec 1 1

abbrev pub limit : Float
limit = dec 700 1

-- 1.4426950408889634
abbrev pub log2e : Float
log2e = dec 14426950408889634 10000000000000000

abbrev pub shift_by : Float
shift_by = dec 6755399441055744 1

-- 0.693147180369123816490
abbrev pub ln2_high : Float
ln2_high = dec 693147180369123816490 1000000000000000000000

-- 1.90821492927058770002e-10
abbrev pub ln2_low : Float
ln2_low = dec 190821492927058770002 1000000000000000000000000000000

-- x×1.4426950408889634 + 6755399441055744
abbrev pub shifted : Float → Float
shifted x = x ⊗ log2e ⊕ shift_by

-- n, a whole number from −1010 to 1010 for x from −700 to 700 (`specs/Whole.antt`)
abbrev pub exponent : Float → Float
exponent x = shifted x ⊖ shift_by

-- r = (x − n×0.693147180369123816490) − n×1.90821492927058770002e-10
abbrev pub reduced : Float → Float → Float
reduced x n = x ⊖ n ⊗ ln2_high ⊖ n ⊗ ln2_low

-- from p, for k down to 1: p = 1 + (r/k)×p
unfoldable pub horner : ℕ → Float → Float → Float
horner zero r p = p
horner (suc k) r p = horner k r (one ⊕ r ⊘ of_int binary64 (pos (suc k)) ⊗ p)

-- 2 ^ n, for a double n that is a whole number
abbrev pub two_to : Float → Float
two_to n = fin false 1 (to_signed 63 n)

-- p×2^n
abbrev pub within : Float → Float
within x = horner 14 (reduced x (exponent x)) one ⊗ two_to (exponent x)

-- NaN stays (only a NaN differs from itself); above 700 infinity; below −700 zero
unfoldable pub exp_of : Float → Float
unfolding horner
exp_of x = cond (ne x x) x (cond (lt limit x) (inf false) (cond (lt x (neg limit)) (fin false 0 (pos 0)) (within x)))
