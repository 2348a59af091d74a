use Rattle.text.specs.Laws.{right}
use Rattle.text.proofs.put_right.Goals as goal

pub returns : goal.returns
returns c = right c.requires.1 c.put_blanks-k.ensures c.put.ensures
