-- The marks of what is left, stored where it stands, give the same in the end. What is left gets less.
use Rattle.std.proofs.Common.{◌+◌, ◌-◌}
use Rattle.listen.specs.Listen.{contact_times}
use Rattle.listen.proofs.Along.{Along}
use Rattle.listen.proofs.walk.Given as goal

abbrev pub invariant-loop-i : goal.invariant-loop-i
invariant-loop-i l = Along l.t l.heard (contact_times l.n l.contacts) l.initial.marks l.i l.j l.pairs l.marks

abbrev pub decreases-loop-i : goal.decreases-loop-i
decreases-loop-i l = l.behind + l.n - (l.i + l.j)
