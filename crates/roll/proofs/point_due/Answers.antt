use Rattle.std.proofs.Common.{not, ap}
use Rattle.roll.specs.Roll.{point_due}
use Rattle.roll.proofs.Phases.{was_same}
use Rattle.roll.proofs.point_due.Goals as goal

pub returns-else-has_come : goal.returns-else-has_come
unfolding point_due
returns-else-has_come c = rw (← c.has_come.ensures, c.if-has_come.false, c.ne.ensures) (ap not (was_same c.args.last c.args.phase))
