-- What the rest of the loop makes of the list is what the whole loop makes of it.
use Rattle.std.proofs.Common.{◌≡◌}
use Rattle.board.proofs.Shift.{shifted}
use Rattle.board.proofs.last_to_front.Given as goal

abbrev pub invariant-loop-i : goal.invariant-loop-i
invariant-loop-i l = shifted l.entries l.last l.i l.next ≡ shifted l.initial.entries l.last 0 l.initial.next
