use Rattle.index.proofs.Boxes.{Made}
use Rattle.index.proofs.fill_boxes.Given as goal

abbrev pub invariant-loop-b : goal.invariant-loop-b
invariant-loop-b l = Made l.sheet l.initial.index l.index l.b
