use Rattle.std.proofs.Common.{◌≡◌, ◌+◌, ◌^◌, ◌≤◌}
use Rattle.index.specs.Index.{strip_from, strip_of}
use Rattle.index.proofs.strip_of.Given as goal

-- what is left of the halvings
abbrev pub invariant-loop-k : goal.invariant-loop-k
invariant-loop-k l = (l.c + 2 ^ l.k ≤ 16) × (strip_from l.index l.d l.x l.k l.c ≡ strip_of l.index l.d l.x)
