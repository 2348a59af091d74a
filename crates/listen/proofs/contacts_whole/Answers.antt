use Rattle.listen.specs.Listen.{contacts_whole}
use Rattle.listen.proofs.Laws.{counted}
use Rattle.listen.proofs.contacts_whole.Goals as goal

pub returns : goal.returns
unfolding contacts_whole
returns c = rw (counted c.args.len c.args.n)
