-- Contracts of inner functions. How large exp is, as far as its reduction shows it: where r is within 3/8 the series is from 3/8 to 13/8
-- (`proofs/Magnitude.antt`), and the power of two tells the rest. Who asks need not work out the series.
use Rattle.std.specs.Prelude.{cond, Float}
use Rattle.std.specs.Float.Ieee.{lt, le, ne, neg}
use Rattle.number.specs.Ops.{dec}
use Rattle.number.specs.Number.{within_of}
use Rattle.exponential.specs.declared.Magnitude.{Magnitude}
use Rattle.exponential.specs.declared.Magnitude.TheVariants.{Vast, Slight, Other}
use Rattle.exponential.specs.Exp.{limit, exponent, reduced, two_to}

-- 2 ^ 54 and 2 ^ -54
abbrev pub vast : Float
vast = dec 18014398509481984 1

abbrev pub slight : Float
slight = dec 1 18014398509481984

-- 3 / 8
abbrev pub most_r : Float
most_r = dec 3 8

-- by the power of two alone: 2 ^ 57 or more, 2 ^ -56 or less
unfoldable pub by_power : Float → Magnitude
by_power p = cond (le (dec 144115188075855872 1) p) Vast (cond (le p (dec 1 72057594037927936)) Slight Other)

unfoldable pub magnitude_of : Float → Magnitude
unfolding by_power
magnitude_of x =
    cond (ne x x) Other (cond (lt limit x) Vast (cond (lt x (neg limit)) Slight
    (cond (within_of (neg most_r) most_r (reduced x (exponent x))) (by_power (two_to (exponent x))) Other)))
