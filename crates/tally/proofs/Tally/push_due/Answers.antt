use Rattle.tally.specs.Language.{when}
use Rattle.tally.proofs.Word.{not_due}
use Rattle.tally.proofs.Tally.push_due.Goals as goal

pub returns-then-due : goal.returns-then-due
unfolding when
returns-then-due c = rw c.if-due.true c.push_point.ensures

pub returns-else-due : goal.returns-else-due
returns-else-due c = rw c.if-due.false (not_due _ _ _ _ _)
