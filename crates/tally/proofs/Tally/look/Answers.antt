use Rattle.tally.proofs.Word.{looked}
use Rattle.tally.proofs.Tally.look.Goals as goal

pub returns : goal.returns
returns c = rw (c.ok_or.ensures.value) (looked _ _ c.look.ensures)
