use Rattle.look.specs.Tree.{exec}
use Rattle.course.proofs.Course.look.Goals as goal

pub returns-then-not-spot_ok : goal.returns-then-not-spot_ok
unfolding exec
returns-then-not-spot_ok c = rw (← c.spot_ok.ensures, c.if-not-spot_ok.true)

pub returns : goal.returns
unfolding exec
returns c = rw (← c.spot_ok.ensures, c.if-not-spot_ok.false, c.sample.ensures, c.widen.ensures)
