-- The list keeps its length, and the first i entries stand after the head.
use Rattle.std.proofs.Common.{◌≡◌, ◌++◌, length, take}
use Rattle.layout.specs.Layout.{board_length, start, entries_fields}
use Rattle.layout.proofs.write_entries.Given as goal

abbrev pub invariant-loop-i : goal.invariant-loop-i
invariant-loop-i l = (length l.out ≡ board_length) × (take (start l.i) l.out ≡ take 3 l.initial.out ++ entries_fields l.entries l.i)
