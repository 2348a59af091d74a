-- Statements. Worked values of root, hypot, exp, cosine, sine and arctangent, computed from their definitions. Rust's f64::sqrt gives the same bits
-- for root, and a Rust program of 01's steps those for the others. Assumes nothing.
use Rattle.std.specs.Prelude.{◌≡◌, refl, true, false}
use Rattle.std.specs.Float.{nan, inf, binary64}
use Rattle.std.specs.Float.Ieee.{of_bits, round, add, sub, mul, div, lt, le, ne, neg, of_int, to_signed}
use Rattle.number.specs.Ops.{dec}
use Rattle.root.specs.Root.{root_of, hypot_of}
use Rattle.exponential.specs.Exp.{exp_of}
use Rattle.trigonometry.specs.Trig.{cosine_of, sine_of, arctangent_of}

-- ---- root and hypot
-- root(4) = 2
pub root_four : root_of (dec 4 1) ≡ dec 2 1
unfolding root_of round
root_four = refl

pub root_two : root_of (dec 2 1) ≡ of_bits binary64 0x3ff6a09e667f3bcd
unfolding root_of round of_bits
root_two = refl

-- the least subnormal, 2 ^ -1074: 2 ^ -537
pub root_least : root_of (of_bits binary64 1) ≡ of_bits binary64 0x1e60000000000000
unfolding root_of of_bits
root_least = refl

-- the greatest subnormal and the greatest double
pub root_subnormal : root_of (of_bits binary64 0x000fffffffffffff) ≡ of_bits binary64 0x1fffffffffffffff
unfolding root_of of_bits
root_subnormal = refl

pub root_greatest : root_of (of_bits binary64 0x7fefffffffffffff) ≡ of_bits binary64 0x5fefffffffffffff
unfolding root_of of_bits
root_greatest = refl

-- 152399025 = 12345 * 12345, and the doubles before and after it
pub root-square : root_of (dec 152399025 1) ≡ dec 12345 1
unfolding root_of round
root-square = refl

pub root_before_square : root_of (of_bits binary64 0x41a22ad961ffffff) ≡ of_bits binary64 0x40c81c7fffffffff
unfolding root_of of_bits
root_before_square = refl

pub root_after_square : root_of (of_bits binary64 0x41a22ad962000001) ≡ of_bits binary64 0x40c81c8000000001
unfolding root_of of_bits
root_after_square = refl

-- the double below 1 is its own root
pub root_below_one : root_of (of_bits binary64 0x3fefffffffffffff) ≡ of_bits binary64 0x3fefffffffffffff
unfolding root_of of_bits
root_below_one = refl

-- ±0, infinity, below 0, NaN
pub root_special : (root_of (dec 0 1) ≡ dec 0 1) × (root_of (neg (dec 0 1)) ≡ neg (dec 0 1)) × (root_of (inf false) ≡ inf false) × (root_of (inf true) ≡ nan) × (root_of (neg (dec 1 1)) ≡ nan) × (root_of nan ≡ nan)
unfolding root_of round neg
root_special = (refl, refl, refl, refl, refl, refl)

pub root_three_four : hypot_of (dec 3 1) (dec 4 1) ≡ dec 5 1
unfolding hypot_of round add mul
root_three_four = refl

pub root_tenths : hypot_of (dec 1 10) (dec 2 10) ≡ of_bits binary64 0x3fcc9f25c5bfedda
unfolding hypot_of round add mul of_bits
root_tenths = refl

-- ---- exp
-- exp(0) = 1
pub exp_at_zero : exp_of (dec 0 1) ≡ dec 1 1
unfolding exp_of round add sub mul div lt ne neg of_int to_signed
exp_at_zero = refl

pub exp_at_minus_zero : exp_of (neg (dec 0 1)) ≡ dec 1 1
unfolding exp_of round add sub mul div lt ne neg of_int to_signed
exp_at_minus_zero = refl

pub exp_at_one : exp_of (dec 1 1) ≡ of_bits binary64 0x4005bf0a8b14576a
unfolding exp_of round add sub mul div lt ne neg of_int to_signed of_bits
exp_at_one = refl

pub exp_at_minus_one : exp_of (neg (dec 1 1)) ≡ of_bits binary64 0x3fd78b56362cef38
unfolding exp_of round add sub mul div lt ne neg of_int to_signed of_bits
exp_at_minus_one = refl

pub exp_at_ten : exp_of (dec 10 1) ≡ of_bits binary64 0x40d5829dcf950560
unfolding exp_of round add sub mul div lt ne neg of_int to_signed of_bits
exp_at_ten = refl

-- the ends of the range, with the first and the last power, 2 ^ −1010 and 2 ^ 1010
pub exp_at_limit : exp_of (dec 700 1) ≡ of_bits binary64 0x7f0d945df4f8ec8e
unfolding exp_of round add sub mul div lt ne neg of_int to_signed of_bits
exp_at_limit = refl

pub exp_at_minus_limit : exp_of (neg (dec 700 1)) ≡ of_bits binary64 0x00d14f2b0fb9307f
unfolding exp_of round add sub mul div lt ne neg of_int to_signed of_bits
exp_at_minus_limit = refl

-- past them
pub exp_above_limit : exp_of (of_bits binary64 0x4085e00000000001) ≡ inf false
unfolding exp_of round lt ne neg of_bits
exp_above_limit = refl

pub exp_below_limit : exp_of (of_bits binary64 0xc085e00000000001) ≡ dec 0 1
unfolding exp_of round lt ne neg of_bits
exp_below_limit = refl

-- exp(−701) = 0
pub exp_at_minus_701 : exp_of (neg (dec 701 1)) ≡ dec 0 1
unfolding exp_of round lt ne neg
exp_at_minus_701 = refl

pub exp_at_nan : exp_of nan ≡ nan
unfolding exp_of ne
exp_at_nan = refl

-- ---- cosine, sine and arctangent
-- cosine(0) = 1
pub cosine_zero : cosine_of (dec 0 1) ≡ dec 1 1
unfolding cosine_of round add sub mul div of_int
cosine_zero = refl

pub cosine_half : cosine_of (dec 1 2) ≡ of_bits binary64 0x3fec1528065b7d50
unfolding cosine_of round add sub mul div of_int of_bits
cosine_half = refl

pub cosine_one : cosine_of (dec 1 1) ≡ of_bits binary64 0x3fe14a280fb5068c
unfolding cosine_of round add sub mul div of_int of_bits
cosine_one = refl

pub sine_zero : sine_of (dec 0 1) ≡ dec 0 1
unfolding sine_of round add sub mul div of_int
sine_zero = refl

pub sine_half : sine_of (dec 1 2) ≡ of_bits binary64 0x3fdeaee8744b05f0
unfolding sine_of round add sub mul div of_int of_bits
sine_half = refl

pub sine_one : sine_of (dec 1 1) ≡ of_bits binary64 0x3feaed548f090cee
unfolding sine_of round add sub mul div of_int of_bits
sine_one = refl

-- y = x takes the first case: the second would give 0x3fe921fb54442d17
pub arctangent_equal : arctangent_of (dec 1 1) (dec 1 1) ≡ of_bits binary64 0x3fe921fb54442d19
unfolding arctangent_of root_of round add sub mul div le of_int of_bits
arctangent_equal = refl

pub arctangent_less : arctangent_of (dec 1 1) (dec 2 1) ≡ of_bits binary64 0x3fddac670561bb4f
unfolding arctangent_of root_of round add sub mul div le of_int of_bits
arctangent_less = refl

pub arctangent_more : arctangent_of (dec 2 1) (dec 1 1) ≡ of_bits binary64 0x3ff1b6e192ebbe44
unfolding arctangent_of root_of round add sub mul div le of_int of_bits
arctangent_more = refl

pub arctangent_small : arctangent_of (dec 1 2) (dec 100 1) ≡ of_bits binary64 0x3f747ad6186952b3
unfolding arctangent_of root_of round add sub mul div le of_int of_bits
arctangent_small = refl
