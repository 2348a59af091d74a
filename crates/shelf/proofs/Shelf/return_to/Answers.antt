use Rattle.std.proofs.Common.{ap, sym, ◌∙◌}
use Rattle.shelf.specs.Shelf.{given, return_of}
use Rattle.shelf.proofs.Walks.{name_short, there, not_there}
use Rattle.shelf.proofs.Shelf.return_to.Goals as goal

pub pack-requires : goal.pack-requires
pack-requires c = name_short _ (sym c.name_ok.ensures ∙ c.if-not-name_ok.false)

pub returns-in-Some : goal.returns-in-Some
unfolding return_of given
returns-in-Some c =
    let f = sym c.find.ensures ∙ c.in-Some.is in
    rw (sym c.name_ok.ensures ∙ c.if-not-name_ok.false, ← c.pack.ensures) (sym (ap given (there _ _ f _)))

pub returns-in-None : goal.returns-in-None
unfolding return_of given
returns-in-None c =
    let f = sym c.find.ensures ∙ c.in-None.is in
    rw (sym c.name_ok.ensures ∙ c.if-not-name_ok.false, ← c.pack.ensures, not_there _ _ f)
