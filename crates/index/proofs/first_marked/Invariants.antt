use Rattle.std.proofs.Common.{◌-◌, ◌≤◌}
use Rattle.sheet.specs.Sheet.{covers}
use Rattle.index.proofs.Marks.{Left}
use Rattle.index.proofs.first_marked.Given as goal

abbrev pub invariant-loop-m : goal.invariant-loop-m
invariant-loop-m l = ((l.from ≤ l.j) × (l.j ≤ l.end)) × Left (covers l.sheet l.x l.z) l.m l.end l.j l.from

abbrev pub decreases-loop-m : goal.decreases-loop-m
decreases-loop-m l = l.end - l.j
