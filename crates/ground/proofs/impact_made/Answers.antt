-- One impact, with its look and its test.
use Rattle.std.proofs.Common.{[]}
use Rattle.std.specs.Prelude.{Ok, Err}
use Rattle.refusal.proofs.Failed.{failed}
use Rattle.course.specs.Sheet.{course_of}
use Rattle.tally.proofs.Reached.{begun, ended, passes, fails}
use Rattle.ground.specs.Step.{impact_run}
use Rattle.ground.proofs.Whole.{impact_gives, impact_ends}
use Rattle.ground.proofs.impact_made.Goals as goal

pub returns-in_err-at : goal.returns-in_err-at
unfolding impact_run
returns-in_err-at c =
    rw (failed _ c.from_residual.ensures.1)
    (impact_gives _ _ _ (ended (fails _ _ begun (rw (c.new-tally.ensures, c.scanned-course.ensures) at (c.look.ensures [] [])) c.in_err-at.was)))

pub returns-in_err-after : goal.returns-in_err-after
unfolding impact_run
returns-in_err-after c =
    rw (failed _ c.from_residual-in_err-after.ensures.1)
    (impact_ends _ _ _ _ (Err _) (passes _ _ begun (rw (c.new-tally.ensures, c.scanned-course.ensures) at (c.look.ensures [] [])) c.in_ok-at.was)
    (rw (c.impact.ensures, c.in_err-after.was) at (c.test.ensures (course_of c.args.sheet) [] [])))

pub returns : goal.returns
unfolding impact_run
returns c =
    impact_ends _ _ _ _ (Ok _) (passes _ _ begun (rw (c.new-tally.ensures, c.scanned-course.ensures) at (c.look.ensures [] [])) c.in_ok-at.was)
    (rw (c.impact.ensures, c.in_ok-after.was) at (c.test.ensures (course_of c.args.sheet) [] []))
