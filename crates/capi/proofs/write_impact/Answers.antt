use borrow.Author.Tests.{ne_eqb}
use Rattle.refusal.proofs.Numbers.{never_0}
use Rattle.capi.specs.Doors.{struck}
use Rattle.capi.proofs.write_impact.Goals as goal

pub returns-in-Ok : goal.returns-in-Ok
unfolding struck
returns-in-Ok c given = rw (c.in-Ok.is, c.put_state.ensures)

pub returns-in-Err : goal.returns-in-Err
unfolding struck
returns-in-Err c given = rw (c.in-Err.is, ne_eqb _ 0 (never_0 c.in-Err.field-0))
