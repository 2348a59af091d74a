use Rattle.std.proofs.Common.{arith}
use Rattle.card.proofs.Written.{lines_none, lines_more}
use Rattle.card.proofs.put_contacts.Goals as goal

pub loop-i-init : goal.loop-i-init
loop-i-init c = lines_none _ _ _ (omega arith)

pub loop-i-preserved : goal.loop-i-preserved
loop-i-preserved c = lines_more _ c.loop-i.i c.loop-i.invariant c.put_contact-here.ensures
