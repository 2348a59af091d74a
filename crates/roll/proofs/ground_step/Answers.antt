-- One pass of the ground: how far it has come at each place, and what it comes to where it ends.
use Rattle.std.proofs.Common.{arith}
use Rattle.course.specs.Sheet.{course_of}
use Rattle.refusal.proofs.Failed.{failed}
use Rattle.tally.proofs.Reached.{ended, passes, fails, not_left, not_taken}
use Rattle.roll.specs.Evaluations.{pass_at_most_200}
use Rattle.roll.proofs.Pass.{stepped}
use Rattle.roll.proofs.ground_step.Goals as goal

pub count_step-requires : goal.count_step-requires
count_step-requires c =
    (omega (arith, c.requires.bounded.limit), (c.requires.bounded.work, rw c.step_on-s.ensures (pass_at_most_200 _ _)))

pub returns-in_err-push_due : goal.returns-in_err-push_due
returns-in_err-push_due c lc =
    let s = stepped _ _ c.step_on-s.ensures c.point_due-due.ensures c.count_step.ensures in
    rw (failed _ c.from_residual.ensures.1) (ended (fails _ _ s (c.push_due.ensures lc) c.in_err-push_due.was))

pub returns-in_err-under : goal.returns-in_err-under
returns-in_err-under c lc =
    let s = stepped _ _ c.step_on-s.ensures c.point_due-due.ensures c.count_step.ensures in
    let p = passes _ _ s (c.push_due.ensures lc) c.in_ok-push_due.was in
    rw (failed _ c.from_residual-in_err-under.ensures.1) (ended (fails _ _ p (c.look.ensures lc _) c.in_err-under.was))

pub returns-in_err-b : goal.returns-in_err-b
returns-in_err-b c lc =
    let s = stepped _ _ c.step_on-s.ensures c.point_due-due.ensures c.count_step.ensures in
    let p = passes _ _ s (c.push_due.ensures lc) c.in_ok-push_due.was in
    let u = passes _ _ p (c.look.ensures lc _) c.in_ok-under.was in
    rw (failed _ c.from_residual-in_err-b.ensures.1)
    (ended (fails _ _ u (rw c.put_down.ensures at (c.test.ensures (course_of c.args.course.now) lc c.push_due.new.points)) c.in_err-b.was))

pub returns-in_err-push_point : goal.returns-in_err-push_point
returns-in_err-push_point c lc =
    let s = stepped _ _ c.step_on-s.ensures c.point_due-due.ensures c.count_step.ensures in
    let p = passes _ _ s (c.push_due.ensures lc) c.in_ok-push_due.was in
    let u = passes _ _ p (c.look.ensures lc _) c.in_ok-under.was in
    let b = passes _ _ u (rw c.put_down.ensures at (c.test.ensures (course_of c.args.course.now) lc c.push_due.new.points)) c.in_ok-b.was in
    rw (failed _ c.from_residual-in_err-push_point.ensures.1)
    (ended (fails _ _ (not_taken _ _ _ b c.held.ensures c.if-held.true) (c.push_point.ensures lc) c.in_err-push_point.was))

pub returns-then-held : goal.returns-then-held
returns-then-held c lc =
    let s = stepped _ _ c.step_on-s.ensures c.point_due-due.ensures c.count_step.ensures in
    let p = passes _ _ s (c.push_due.ensures lc) c.in_ok-push_due.was in
    let u = passes _ _ p (c.look.ensures lc _) c.in_ok-under.was in
    let b = passes _ _ u (rw c.put_down.ensures at (c.test.ensures (course_of c.args.course.now) lc c.push_due.new.points)) c.in_ok-b.was in
    ended (passes _ _ (not_taken _ _ _ b c.held.ensures c.if-held.true) (c.push_point.ensures lc) c.in_ok-push_point.was)

pub returns : goal.returns
returns c lc =
    let s = stepped _ _ c.step_on-s.ensures c.point_due-due.ensures c.count_step.ensures in
    let p = passes _ _ s (c.push_due.ensures lc) c.in_ok-push_due.was in
    let u = passes _ _ p (c.look.ensures lc _) c.in_ok-under.was in
    let b = passes _ _ u (rw c.put_down.ensures at (c.test.ensures (course_of c.args.course.now) lc c.push_due.new.points)) c.in_ok-b.was in
    rw c.next_after.ensures (ended (not_left _ _ _ b c.held.ensures c.if-held.false))
