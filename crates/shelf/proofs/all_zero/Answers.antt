use Rattle.std.proofs.Common.{eqb, refl, rules}
use Rattle.std.proofs.lemmas.List.Recursion.{and_is}
use Rattle.shelf.specs.Shelf.{padded}
use Rattle.shelf.proofs.all_zero.Goals as goal

pub returns : goal.returns
unfolding padded
returns c = and_is (padded 0) (λ b. eqb b 0) refl (λ _ _. refl) c.args.bytes.now 0 _ (search rules) (search rules)
