use mathlib.Core.Path.{refl, ap, ◌∙◌}
use mathlib.Core.Bool.{false}
use lib.Ieee.{fin, binary64, mul, of_bits, round}
use lib.Ieee.Fits.{add-fits}
use Rattle.number.specs.Nan.{ne_self}
use Rattle.exponential.specs.Exp.{log2e, shift_by, shifted}
use Rattle.exponential.specs.Shift.{Sum, sum_of}
use Rattle.exponential.proofs.Place.{Index, index, no_nan}
use Rattle.exponential.proofs.reduce.Goals as goal

total : (c : goal.Start) → Sum (shifted c.args.x)
total c = sum_of c.args.x (ne_self c.args.x ∙ c.requires.0) c.requires.1 c.requires.2

at : (c : goal.Start) → Index (shifted c.args.x)
at c = index _ (add-fits binary64 (mul binary64 c.args.x log2e) shift_by) (total c)

pub float_to_bits-result : goal.float_to_bits-result
unfolding of_bits round
float_to_bits-result c = no_nan _ (total c)

pub overflow_sub-result : goal.overflow_sub-result
unfolding of_bits round
overflow_sub-result c = (at c).least

pub returns : goal.returns
unfolding of_bits round
returns c = (refl, (at c).most, ap (fin false 1) (at c).entry)
