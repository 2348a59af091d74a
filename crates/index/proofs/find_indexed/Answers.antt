use Rattle.index.proofs.Marks.{in_column, in_row}
use Rattle.index.proofs.find_indexed.Goals as goal

pub find_marked-requires-clause-row : goal.find_marked-requires-clause-row
find_marked-requires-clause-row c = (
  in_column _ _ _ _ c.requires _ c.strip_of-c.ensures.few c.cut_at.ensures c.cut_at-2.ensures c.within.ensures c.if-not-within.false,
  in_row _ _ _ _ c.requires _ c.strip_of-e.ensures.few c.cut_at-3.ensures c.cut_at-4.ensures c.within-2.ensures c.if-not-within-2.false,
)
