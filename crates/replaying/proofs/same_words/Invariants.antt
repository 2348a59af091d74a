-- All hold exactly where those from word k on do.
use Rattle.std.proofs.Common.{◌≡◌, ◌+◌, drop}
use Rattle.replaying.specs.Replaying.{holds}
use Rattle.replaying.proofs.same_words.Given as goal

abbrev pub invariant-loop-k : goal.invariant-loop-k
invariant-loop-k l = holds l.entry l.i l.words ≡ holds l.entry (l.i + l.k) (drop l.k l.words)
