use Rattle.refusal.proofs.Failed.{failed}
use Rattle.tally.proofs.Reached.{begun, ended, passes, fails}
use Rattle.strike.specs.Strike.{drop}
use Rattle.strike.proofs.drop_to_ground.Goals as goal

pub returns-in_err-leave : goal.returns-in_err-leave
unfolding drop
returns-in_err-leave c o lp =
    rw (failed _ c.from_residual.ensures.1)
    (ended (fails _ _ begun (rw c.leave_of-dropped.ensures at (c.test.ensures o c.args.contacts.now lp)) c.in_err-leave.was))

pub returns-in_err-push_contact : goal.returns-in_err-push_contact
unfolding drop
returns-in_err-push_contact c o lp =
    rw (failed _ c.from_residual-in_err-push_contact.ensures.1)
    (ended (fails _ _ (passes _ _ begun (rw c.leave_of-dropped.ensures at (c.test.ensures o c.args.contacts.now lp)) c.in_ok-leave.was)
    (c.push_contact.ensures o lp)
    c.in_err-push_contact.was))

pub returns : goal.returns
unfolding drop
returns c o lp =
    ended (passes _ _ (passes _ _ begun (rw c.leave_of-dropped.ensures at (c.test.ensures o c.args.contacts.now lp)) c.in_ok-leave.was)
    (c.push_contact.ensures o lp)
    c.in_ok-push_contact.was)
