-- One ground step, with its looks and its test.
use Rattle.std.proofs.Common.{[]}
use Rattle.refusal.proofs.Failed.{failed}
use Rattle.course.specs.Sheet.{course_of}
use Rattle.tally.proofs.Reached.{begun, ended, passes, fails}
use Rattle.ground.specs.Step.{step_run}
use Rattle.ground.proofs.Whole.{step_gives}
use Rattle.ground.proofs.step_made.Goals as goal

pub returns-in_err-at : goal.returns-in_err-at
unfolding step_run
returns-in_err-at c =
    rw (failed _ c.from_residual.ensures.1)
    (step_gives _ _ _ _ _ _ (ended (fails _ _ begun (rw (c.new-tally.ensures, c.scanned-course.ensures) at (c.look.ensures [] [])) c.in_err-at.was)))

pub returns-in_err-under : goal.returns-in_err-under
unfolding step_run
returns-in_err-under c =
    rw (failed _ c.from_residual-in_err-under.ensures.1)
    (step_gives _ _ _ _ _ _ (ended (fails _ _
    (passes _ _ begun (rw (c.new-tally.ensures, c.scanned-course.ensures) at (c.look.ensures [] [])) c.in_ok-at.was)
    (rw (c.contact_step-moved.ensures, c.scanned-course.ensures) at (c.look-2.ensures [] [])) c.in_err-under.was)))

pub returns-in_err-state : goal.returns-in_err-state
unfolding step_run
returns-in_err-state c =
    rw (failed _ c.from_residual-in_err-state.ensures.1)
    (step_gives _ _ _ _ _ _ (ended (fails _ _
    (passes _ _
    (passes _ _ begun (rw (c.new-tally.ensures, c.scanned-course.ensures) at (c.look.ensures [] [])) c.in_ok-at.was)
    (rw (c.contact_step-moved.ensures, c.scanned-course.ensures) at (c.look-2.ensures [] [])) c.in_ok-under.was)
    (rw (c.onto_surface-placed.ensures, c.radius_m.ensures, c.contact_step-moved.ensures) at
    (c.test.ensures (course_of c.args.sheet) [] [])) c.in_err-state.was)))

pub returns : goal.returns
unfolding step_run
returns c =
    rw c.contact_step-moved.ensures
    (step_gives _ _ _ _ _ _ (ended (passes _ _
    (passes _ _
    (passes _ _ begun (rw (c.new-tally.ensures, c.scanned-course.ensures) at (c.look.ensures [] [])) c.in_ok-at.was)
    (rw (c.contact_step-moved.ensures, c.scanned-course.ensures) at (c.look-2.ensures [] [])) c.in_ok-under.was)
    (rw (c.onto_surface-placed.ensures, c.radius_m.ensures, c.contact_step-moved.ensures) at
    (c.test.ensures (course_of c.args.sheet) [] [])) c.in_ok-state.was)))
