use Rattle.std.proofs.Common.{sym, ◌∙◌}
use Rattle.shelf.specs.Shelf.{replaced}
use Rattle.shelf.proofs.Walks.{is_there, is_not, put_there}
use Rattle.shelf.proofs.Shelf.replace.Goals as goal

pub returns-in-Some : goal.returns-in-Some
unfolding replaced
returns-in-Some c = let f = sym c.find.ensures ∙ c.in-Some.is in rw (is_there _ _ f, put_there _ _ f c.args.q)

pub returns-in-None : goal.returns-in-None
unfolding replaced
returns-in-None c = rw (is_not _ _ (sym c.find.ensures ∙ c.in-None.is))
