-- The passes left from here are what is left of all of them.
use Rattle.std.proofs.Common.{◌-◌, List}
use Rattle.std.specs.Prelude.{Float}
use Rattle.course.specs.Sheet.{course_of}
use Rattle.tally.specs.Times.{is_late}
use Rattle.tally.specs.Language.{pure}
use Rattle.tally.specs.Inner.{place}
use Rattle.tally.proofs.Loop.{Midway}
use Rattle.hop.specs.Hop.{air_with, hop_step}
use Rattle.hop.specs.declared.Way.TheVariants.{Late}
use Rattle.hop.proofs.hop.Given as goal

abbrev pub invariant-loop-aero : goal.invariant-loop-aero
invariant-loop-aero l = (lc : List Float) →
    Midway (course_of l.fn.course) l.fn.c (λ f. is_late f.state.time l.fn.c.t_end) (λ f. pure (Late f.state))
    (hop_step l.fn.c (air_with l.fn.c l.aero)) l.fn.flight
    (place l.fn.t lc l.fn.points) l.f (place l.t lc l.points)

abbrev pub decreases-loop-aero : goal.decreases-loop-aero
decreases-loop-aero l = l.c.step_limit - l.t.steps
