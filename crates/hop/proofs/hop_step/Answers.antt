-- One pass of a hop: how far it has come at each place, and what it comes to where it ends.
use Rattle.std.proofs.Common.{List, [], arith}
use Rattle.std.specs.Prelude.{Float}
use Rattle.refusal.proofs.Failed.{failed}
use Rattle.course.specs.Sheet.{course_of}
use Rattle.tally.specs.Inner.{place, Reached}
use Rattle.tally.proofs.Reached.{ended, passes, fails}
use Rattle.arrival.proofs.Ways.{arrived, arrive_off}
use Rattle.hop.specs.Hop.{air_with, hop_next, hop_step}
use Rattle.hop.proofs.Pass.{stepped, searching, met, not_met}
use Rattle.hop.proofs.hop_step.Goals.{In_ok-met}
use Rattle.hop.proofs.hop_step.Goals as goal

pub returns-in_err-b : goal.returns-in_err-b
returns-in_err-b c lc =
    rw (failed _ c.from_residual.ensures.1)
    (ended (fails _ _ (stepped _ _ c.args.f.now c.step_arc-arc.ensures c.step_end-end_state.ensures c.count_step.ensures)
    (c.test.ensures _ lc _) c.in_err-b.was))

pub returns-in_err-end : goal.returns-in_err-end
returns-in_err-end c lc =
    rw (failed _ c.from_residual-in_err-end.ensures.1) (ended (fails _ _
    (passes _ _ (stepped _ _ c.args.f.now c.step_arc-arc.ensures c.step_end-end_state.ensures c.count_step.ensures) (c.test.ensures _ lc _) c.in_ok-b.was)
    (c.clear.ensures lc _) c.in_err-end.was))

pub arrive-requires : goal.arrive-requires
arrive-requires c = omega (arith, c.count_step.ensures.work, (c.test.ensures (course_of []) [] []).work, (c.clear.ensures [] []).work)

pub returns-in_err-met : goal.returns-in_err-met
returns-in_err-met c lc =
    rw (failed _ c.from_residual-in_err-met.ensures.1) (ended (arrive_off _ _ _ _ (hop_next c.args.f.now c.in_ok-b.b)
    (searching _ _ c.args.f.now c.step_arc-arc.ensures c.step_end-end_state.ensures c.count_step.ensures c.test.ensures c.in_ok-b.was c.clear.ensures
    c.in_ok-end.was)
    (omega (arith, c.count_step.ensures.work, (c.test.ensures (course_of []) [] []).work, (c.clear.ensures [] []).work)) c.arrive.ensures c.in_err-met.was))

-- the search was made; no evaluation was made before it
came_met : (c : In_ok-met) (lc : List Float) → let a = c.args in
    Reached (course_of a.course.now) (hop_step a.c.now (air_with a.c.now a.aero) a.f.now) (place a.t.now lc a.points.now) 1
    (hop_next a.f.now c.in_ok-b.b c.in_ok-met.met) (place c.arrive.new.tally lc a.points.now)
came_met c lc =
    arrived _ _ _ _ (hop_next c.args.f.now c.in_ok-b.b)
    (searching _ _ c.args.f.now c.step_arc-arc.ensures c.step_end-end_state.ensures c.count_step.ensures c.test.ensures c.in_ok-b.was c.clear.ensures
    c.in_ok-end.was)
    (omega (arith, c.count_step.ensures.work, (c.test.ensures (course_of []) [] []).work, (c.clear.ensures [] []).work)) c.arrive.ensures c.in_ok-met.was

pub returns-in_err-s : goal.returns-in_err-s
returns-in_err-s c lc =
    rw (failed _ c.from_residual-in_err-s.ensures.1)
    (ended (fails _ _ (met c.args.f.now c.in_ok-b.b (came_met (goal.at.returns-in_err-s c).In_ok-met lc) c.in-Some.is)
    (c.test-in-Some.ensures _ lc _) c.in_err-s.was))

pub returns-in-Some : goal.returns-in-Some
returns-in-Some c lc =
    ended (passes _ _ (met c.args.f.now c.in_ok-b.b (came_met (goal.at.returns-in-Some c).In_ok-met lc) c.in-Some.is)
    (c.test-in-Some.ensures _ lc _) c.in_ok-s.was)

pub returns-in_err-push_due : goal.returns-in_err-push_due
returns-in_err-push_due c lc =
    rw (failed _ c.from_residual-in_err-push_due.ensures.1)
    (ended (fails _ _ (not_met c.args.f.now c.in_ok-b.b (came_met (goal.at.returns-in_err-push_due c).In_ok-met lc) c.in_default.not-Some)
    (rw c.has_come-due.ensures at (c.push_due.ensures lc)) c.in_err-push_due.was))

pub returns : goal.returns
returns c lc =
    rw (c.next_after-next_sample.ensures, c.has_come-due.ensures)
    (ended (passes _ _ (not_met c.args.f.now c.in_ok-b.b (came_met (goal.at.returns c).In_ok-met lc) c.in_default.not-Some)
    (rw c.has_come-due.ensures at (c.push_due.ensures lc)) c.in_ok-push_due.was))
