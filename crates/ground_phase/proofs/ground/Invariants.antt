use Rattle.std.proofs.Common.{◌-◌, List}
use lib.Ieee.{Float}
use Rattle.course.specs.Sheet.{course_of}
use Rattle.tally.specs.Times.{is_late}
use Rattle.tally.specs.Inner.{place}
use Rattle.tally.proofs.Loop.{Midway}
use Rattle.roll.specs.Roll.{ground_step}
use Rattle.ground_phase.specs.GroundPhase.{last_phase, time_up}
use Rattle.ground_phase.proofs.ground.Given as goal

abbrev pub invariant-loop-g : goal.invariant-loop-g
invariant-loop-g l = (lc : List Float) →
    Midway (course_of l.course) l.c (λ g. is_late g.state.time l.c.t_end) (λ g. time_up g.state (last_phase g.last)) (ground_step l.c) l.fn.roll
    (place l.fn.t lc l.fn.points) l.g (place l.t lc l.points)

abbrev pub decreases-loop-g : goal.decreases-loop-g
decreases-loop-g l = l.c.step_limit - l.t.steps
