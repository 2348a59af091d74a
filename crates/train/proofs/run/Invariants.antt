-- What is left of the train from here is what is left of all of it, and the contacts had room.
use Rattle.std.proofs.Common.{◌-◌, length}
use Rattle.course.specs.Sheet.{course_of}
use Rattle.tally.specs.Inner.{place}
use Rattle.train.proofs.Turn.{Along}
use Rattle.train.proofs.run.Given as goal

abbrev pub invariant-loop-hit : goal.invariant-loop-hit
invariant-loop-hit l = Along (course_of l.fn.course) l.fn.c l.fn.landing l.fn.contacts l.fn.points l.state (place l.t l.contacts l.points)

abbrev pub decreases-loop-hit : goal.decreases-loop-hit
decreases-loop-hit l = length l.fn.contacts - l.t.contacts
