use lib.Ieee.{of_bits, round}
use borrow.Author.Tests.{ne_eqb}
use Rattle.refusal.proofs.Numbers.{never_0}
use Rattle.capi.specs.Doors.{stepped}
use Rattle.capi.proofs.write_step.Goals as goal

pub returns-in-Ok : goal.returns-in-Ok
unfolding stepped
returns-in-Ok c given = rw (c.in-Ok.is, c.put.ensures, c.whole-phase.ensures, c.from-in-Ok.ensures, c.from.ensures)

pub returns-in-Err : goal.returns-in-Err
unfolding stepped of_bits round
returns-in-Err c given = rw (c.in-Err.is, c.put-in-Err.ensures, ne_eqb _ 0 (never_0 c.in-Err.field-0))
