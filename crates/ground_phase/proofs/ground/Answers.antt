-- The ground, to rest or t_end, or until a step is due that step_limit does not allow.
use Rattle.std.proofs.Common.{◌∙◌, sym}
use Rattle.refusal.proofs.Failed.{failed}
use Rattle.tally.proofs.Reached.{on}
use Rattle.tally.proofs.Loop.{starts, ends_late, ends_due, continues, breaks, stops_by}
use Rattle.ground_phase.specs.GroundPhase.{ground_from}
use Rattle.ground_phase.proofs.ground.Goals as goal

pub loop-g-init : goal.loop-g-init
loop-g-init c lc = starts _ _ _ _ _ _ _

pub returns-then-t-c : goal.returns-then-t-c
unfolding ground_from
returns-then-t-c c lc = (sym c.has_come.ensures ∙ c.loop-g-test.true, ends_due (c.loop-g.invariant lc) c.if-t-c.true)

pub returns-in_err-next : goal.returns-in_err-next
unfolding ground_from
returns-in_err-next c lc = rw (failed _ c.from_residual.ensures.1)
    (stops_by (c.loop-g.invariant lc) (sym c.has_come.ensures ∙ c.loop-g-test.true) c.if-t-c.false (c.ground_step.ensures lc) c.in_err-next.was)

pub loop-g-preserved : goal.loop-g-preserved
loop-g-preserved c lc =
    continues (c.loop-g.invariant lc) (sym c.has_come.ensures ∙ c.loop-g-test.true) c.if-t-c.false (c.ground_step.ensures lc) c.in_ok-next.was c.in-Continue.is

pub returns-in-Break : goal.returns-in-Break
unfolding ground_from
returns-in-Break c lc =
    breaks (c.loop-g.invariant lc) (sym c.has_come.ensures ∙ c.loop-g-test.true) c.if-t-c.false (c.ground_step.ensures lc) c.in_ok-next.was c.in-Break.is

pub returns-in_err-end : goal.returns-in_err-end
unfolding ground_from
returns-in_err-end c lc = rw (failed _ c.from_residual-in_err-end.ensures.1)
    (ends_late (c.loop-g.invariant lc) (sym c.has_come.ensures ∙ c.loop-g-test.false)
    (on (rw (c.last_phase.ensures, c.in_err-end.was) at (c.time_up.ensures lc))))

pub returns : goal.returns
unfolding ground_from
returns c lc =
    ends_late (c.loop-g.invariant lc) (sym c.has_come.ensures ∙ c.loop-g-test.false)
    (on (rw (c.last_phase.ensures, c.in_ok-end.was) at (c.time_up.ensures lc)))
