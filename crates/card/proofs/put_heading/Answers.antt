use Rattle.card.proofs.Written.{heading_put}
use Rattle.card.proofs.put_heading.Goals as goal

pub returns : goal.returns
returns c = heading_put _ c.put_termination-k.ensures c.put_blanks-j.ensures c.put.ensures
