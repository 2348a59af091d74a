-- All agree exactly where those from double k on do.
use Rattle.std.proofs.Common.{◌≡◌, ◌+◌, drop}
use Rattle.replaying.proofs.Laws.{Agrees}
use Rattle.replaying.proofs.same_doubles.Given as goal

abbrev pub invariant-loop-k : goal.invariant-loop-k
invariant-loop-k l = Agrees l.entry l.i l.doubles ≡ Agrees l.entry (l.i + l.k) (drop l.k l.doubles)
