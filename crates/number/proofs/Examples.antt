-- The definitions at NaN, at the zeros and at the ends of a range. Assumes nothing.
use Rattle.std.proofs.Common.{◌≡◌, true, false, refl}
use lib.Ieee.{nan, inf, round, neg, lt, le, is_nan}
use Rattle.number.specs.Ops.{dec}
use Rattle.number.specs.Number.{min_of, max_of, clamp_of, abs_of, signum_of, finite_of, within_of}

-- a NaN is within nothing
nan_within : within_of (dec 0 1) (dec 1 1) nan ≡ false
unfolding round within_of le
nan_within = refl

-- -0 counts as 0
minus_zero_within : within_of (dec 0 1) (dec 1 1) (neg (dec 0 1)) ≡ true
unfolding round within_of le neg
minus_zero_within = refl

-- both ends are within
ends_within : (within_of (dec 0 1) (dec 1 1) (dec 0 1) ≡ true) × (within_of (dec 0 1) (dec 1 1) (dec 1 1) ≡ true)
unfolding round within_of le
ends_within = (refl, refl)

-- of two equal values the left one
max_zeros : (max_of (dec 0 1) (neg (dec 0 1)) ≡ dec 0 1) × (max_of (neg (dec 0 1)) (dec 0 1) ≡ neg (dec 0 1))
unfolding round max_of lt is_nan neg
max_zeros = (refl, refl)

min_zeros : (min_of (dec 0 1) (neg (dec 0 1)) ≡ dec 0 1) × (min_of (neg (dec 0 1)) (dec 0 1) ≡ neg (dec 0 1))
unfolding round min_of lt is_nan neg
min_zeros = (refl, refl)

-- a NaN gives the other
min_nan : (min_of nan (dec 1 1) ≡ dec 1 1) × (min_of (dec 1 1) nan ≡ dec 1 1)
unfolding round min_of lt is_nan
min_nan = (refl, refl)

max_nan : (max_of nan (dec 1 1) ≡ dec 1 1) × (max_of (dec 1 1) nan ≡ dec 1 1)
unfolding round max_of lt is_nan
max_nan = (refl, refl)

-- a zero has a sign
signum_zeros : (signum_of (dec 0 1) ≡ dec 1 1) × (signum_of (neg (dec 0 1)) ≡ neg (dec 1 1))
unfolding round signum_of neg
signum_zeros = (refl, refl)

abs_minus_zero : abs_of (neg (dec 0 1)) ≡ dec 0 1
unfolding round abs_of neg
abs_minus_zero = refl

infinity_not_finite : finite_of (inf false) ≡ false
infinity_not_finite = refl

-- -2, 1/2 and 3 brought into 0 to 1, and a NaN left
clamp_low : clamp_of (neg (dec 2 1)) (dec 0 1) (dec 1 1) ≡ dec 0 1
unfolding round clamp_of lt neg
clamp_low = refl

clamp_inside : clamp_of (dec 1 2) (dec 0 1) (dec 1 1) ≡ dec 1 2
unfolding round clamp_of lt
clamp_inside = refl

clamp_high : clamp_of (dec 3 1) (dec 0 1) (dec 1 1) ≡ dec 1 1
unfolding round clamp_of lt
clamp_high = refl

clamp_nan : clamp_of nan (dec 0 1) (dec 1 1) ≡ nan
unfolding round clamp_of lt
clamp_nan = refl
