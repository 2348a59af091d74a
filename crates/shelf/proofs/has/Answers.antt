use Rattle.std.proofs.Common.{refl, rules}
use Rattle.std.proofs.lemmas.List.Recursion.{or_is}
use Rattle.shelf.specs.Map.{same}
use Rattle.shelf.specs.Shelf.{has, empty_place}
use Rattle.shelf.proofs.has.Goals as goal

pub returns : goal.returns
unfolding has
returns c =
    or_is (has c.args.name.now) (λ p. same p.name c.args.name.now) refl (λ _ _. refl) c.args.places.now empty_place _ (search rules) (search rules)
