use Rattle.refusal.proofs.Failed.{failed}
use Rattle.course.specs.Sheet.{course_of}
use Rattle.tally.proofs.Reached.{begun, ended, passes, fails}
use Rattle.strike.specs.Strike.{strike}
use Rattle.strike.proofs.strike.Goals as goal

pub returns-in_err-at : goal.returns-in_err-at
unfolding strike
returns-in_err-at c lc lp = rw (failed _ c.from_residual.ensures.1) (ended (fails _ _ begun (c.look.ensures lc lp) c.in_err-at.was))

pub returns-in_err-out : goal.returns-in_err-out
unfolding strike
returns-in_err-out c lc lp =
    rw (failed _ c.from_residual-in_err-out.ensures.1)
    (ended (fails _ _ (passes _ _ begun (c.look.ensures lc lp) c.in_ok-at.was)
    (rw c.impact-hit.ensures at (c.test.ensures (course_of c.args.course.now) lc lp)) c.in_err-out.was))

pub returns : goal.returns
unfolding strike
returns c lc lp =
    ended (passes _ _ (passes _ _ begun (c.look.ensures lc lp) c.in_ok-at.was)
    (rw c.impact-hit.ensures at (c.test.ensures (course_of c.args.course.now) lc lp)) c.in_ok-out.was)
