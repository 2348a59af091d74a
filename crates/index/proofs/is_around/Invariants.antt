use Rattle.index.specs.Index.{Around}
use Rattle.index.proofs.is_around.Given as goal

abbrev pub invariant-loop-k : goal.invariant-loop-k
invariant-loop-k l = Around l.sheet l.index l.b l.from l.k
