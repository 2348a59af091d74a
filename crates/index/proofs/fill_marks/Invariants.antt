use Rattle.index.proofs.Marks.{Filled}
use Rattle.index.proofs.fill_marks.Given as goal

abbrev pub invariant-loop-k : goal.invariant-loop-k
invariant-loop-k l = Filled l.sheet l.initial.index l.index l.k
