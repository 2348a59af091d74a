-- Statements. Rows of Penner's restitution about the end of its quadratic at 20 m/s (document 01, bench shots).
-- Assumes nothing.
use Rattle.std.specs.Prelude.{◌≡◌, refl, false, negsuc}
use Rattle.std.specs.Float.{fin, binary64}
use Rattle.std.specs.Float.Ieee.{of_bits, round, add, sub, mul, neg, le}
use Rattle.number.specs.Ops.{dec}
use Rattle.surface.specs.Penner.{quadratic, doubles}
use Rattle.surface.specs.Surface.{penner}

-- at 20 the quadratic is used
pub at_20 : penner (dec 20 1) ≡ quadratic doubles (dec 20 1)
unfolding penner le round
at_20 = refl

-- which is 68229534354663 / 2 ^ 49, about 0.1212
pub at_20_value : penner (dec 20 1) ≡ fin false 68229534354663 (negsuc 48)
unfolding penner le add sub mul neg round
at_20_value = refl

-- 0x4034000000000001 is the next double above 20
pub past_20 : penner (of_bits binary64 0x4034_0000_0000_0001) ≡ dec 120 1000
unfolding penner le of_bits round
past_20 = refl
