use Rattle.refusal.proofs.Failed.{failed}
use Rattle.tally.proofs.Reached.{begun, ended, passes, fails}
use Rattle.ground_phase.specs.GroundPhase.{time_up}
use Rattle.ground_phase.proofs.time_up.Goals as goal

pub returns-in_err-push_point : goal.returns-in_err-push_point
unfolding time_up
returns-in_err-push_point c lc = rw (failed _ c.from_residual.ensures.1) (ended (fails _ _ begun (c.push_point.ensures lc) c.in_err-push_point.was))

pub returns : goal.returns
unfolding time_up
returns c lc = ended (passes _ _ begun (c.push_point.ensures lc) c.in_ok-push_point.was)
