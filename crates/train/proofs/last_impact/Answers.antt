use Rattle.refusal.proofs.Failed.{failed}
use Rattle.tally.proofs.Reached.{begun, ended, passes, fails}
use Rattle.train.specs.Train.{last_impact}
use Rattle.train.proofs.last_impact.Goals as goal

pub returns-in_err-push_contact : goal.returns-in_err-push_contact
unfolding last_impact
returns-in_err-push_contact c =
    rw (failed _ c.from_residual.ensures.1) (ended (fails _ _ begun (c.push_contact.ensures _ _) c.in_err-push_contact.was))

pub returns-in_err-push_point : goal.returns-in_err-push_point
unfolding last_impact
returns-in_err-push_point c =
    rw (failed _ c.from_residual-in_err-push_point.ensures.1)
    (ended (fails _ _ (passes _ _ begun (c.push_contact.ensures _ _) c.in_ok-push_contact.was) (c.push_point.ensures _) c.in_err-push_point.was))

pub returns : goal.returns
unfolding last_impact
returns c =
    ended (passes _ _ (passes _ _ begun (c.push_contact.ensures _ _) c.in_ok-push_contact.was) (c.push_point.ensures _) c.in_ok-push_point.was)
