use Rattle.text.specs.Laws.{before}
use Rattle.line.proofs.put_count.Goals as goal

pub returns : goal.returns
returns c = before c.put-k.ensures c.put_number.ensures
