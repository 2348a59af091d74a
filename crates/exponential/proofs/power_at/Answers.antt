use mathlib.Core.Path.{ap, ◌∙◌}
use lib.Ieee.{binary64, is_nan}
use lib.Ieee.Bits.{nan_bits_is}
use Rattle.exponential.specs.Power.{power_bits}
use Rattle.exponential.proofs.power_at.Goals as goal

pub float_from_bits-result : goal.float_from_bits-result
unfolding is_nan
float_from_bits-result c = rw (nan_bits_is binary64 _ ∙ ap is_nan (power_bits c.args.i c.requires)) tt
