use Rattle.text.specs.Laws.{both}
use Rattle.line.specs.Line.{counts_of}
use Rattle.line.proofs.put_counts.Goals as goal

pub returns : goal.returns
unfolding counts_of
returns c = both (both c.put_count-a.ensures c.put_count-b.ensures) c.put_count.ensures
