use Rattle.std.proofs.Common.{sym, subst, T}
use Rattle.std.specs.Float.Ieee.{nan_bits}
use Rattle.index.proofs.Boxes.{bits_number}
use Rattle.index.proofs.bits_of.Goals as goal

pub returns-then-x-clause-number : goal.returns-then-x-clause-number
returns-then-x-clause-number c = bits_number _ (subst T (sym c.well_formed.0.1) tt) c.if-x.true

pub returns-else-x-clause-number : goal.returns-else-x-clause-number
unfolding nan_bits
returns-else-x-clause-number c = tt
