-- No more entries differ than were replayed.
use Rattle.std.proofs.Common.{◌≤◌}
use Rattle.replay.proofs.replay_all.Given as goal

abbrev pub invariant-loop-number : goal.invariant-loop-number
invariant-loop-number l = l.differ ≤ l.number
