use Rattle.refusal.proofs.Failed.{failed}
use Rattle.tally.proofs.Word.{contact_pushed, no_contact, had_room, had_none}
use Rattle.tally.proofs.Tally.push_contact.Goals as goal

pub returns-in_err-self : goal.returns-in_err-self
returns-in_err-self c =
    let n = had_none _ _ (rw c.ok_or.ensures.value at c.in_err-self.was) in
    rw (failed _ c.from_residual.ensures.1, n.1) (no_contact _ _ _ c.write_contact-pushed.ensures n.0)

pub returns : goal.returns
returns c = contact_pushed _ _ _ c.write_contact-pushed.ensures c.write_contact-pushed.auto.contacts
    (had_room _ _ (rw c.ok_or.ensures.value at c.in_ok-self.was))
