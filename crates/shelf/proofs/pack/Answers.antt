use Rattle.shelf.proofs.Walks.{whole}
use Rattle.shelf.proofs.pack.Goals as goal

pub returns : goal.returns
returns c = whole c.args.name.now c.copy_from_slice.ensures.after
