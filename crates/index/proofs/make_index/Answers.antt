use Rattle.std.proofs.Common.{arith, ◌∙◌}
use Rattle.index.proofs.Cuts.{cuts_few, cuts_many}
use Rattle.index.proofs.make_index.Goals as goal

pub returns-then-patches-le-FEW-clause-cuts : goal.returns-then-patches-le-FEW-clause-cuts
returns-then-patches-le-FEW-clause-cuts c = λ j. c.fill_boxes.ensures.cuts j ∙ cuts_few _ _ (omega arith) j

pub returns-clause-cuts : goal.returns-clause-cuts
returns-clause-cuts c = cuts_many _ _ _ _ _ (omega arith) c.spread.ensures c.spread-2.ensures c.fill_marks.ensures.cuts
