-- The sums of all are those of the doubles that are left, from the sums so far.
use Rattle.std.proofs.Common.{◌≡◌, drop}
use Rattle.replaying.specs.Replaying.{sums_of}
use Rattle.replaying.proofs.add_list.Given as goal

abbrev pub invariant-loop-v : goal.invariant-loop-v
invariant-loop-v l = sums_of l.initial.s l.list ≡ sums_of l.s (drop l.v-index l.list)
