use Rattle.std.proofs.Common.{◌-◌, ◌^◌, ◌≤◌, ◌<◌}
use Rattle.index.specs.Index.{Marks, reaches}
use Rattle.index.proofs.mark.Given as goal

-- the bits of the records from j on
abbrev pub invariant-loop-j : goal.invariant-loop-j
invariant-loop-j l = (l.from ≤ l.j) × ((l.m < 2 ^ (l.end - l.j)) × Marks (reaches l.sheet l.d l.lo l.hi) l.m (l.end - l.j) l.j)
