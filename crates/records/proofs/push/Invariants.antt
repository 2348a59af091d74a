use Rattle.std.specs.Prelude.{◌≡◌}
use Rattle.std.proofs.Math.Seq.{paste}
use Rattle.records.proofs.push.Given as goal

-- the first i numbers of the record are written
abbrev pub invariant-loop-i : goal.invariant-loop-i
invariant-loop-i l = l.list ≡ paste l.initial.list l.at l.rec l.i
