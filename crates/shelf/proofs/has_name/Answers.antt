use Rattle.std.proofs.Common.{◌∙◌}
use Rattle.shelf.proofs.Walks.{same_is}
use Rattle.shelf.proofs.has_name.Goals as goal

pub returns : goal.returns
returns c = c.eq.ensures ∙ same_is c.args.p.now.name c.args.name.now
