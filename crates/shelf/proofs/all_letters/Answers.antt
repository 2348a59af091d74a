use Rattle.std.proofs.Common.{refl, rules}
use Rattle.std.proofs.lemmas.List.Recursion.{and_is}
use Rattle.shelf.specs.Map.{is_letter, letters}
use Rattle.shelf.proofs.all_letters.Goals as goal

pub returns : goal.returns
unfolding letters
returns c = and_is letters is_letter refl (λ _ _. refl) c.args.bytes.now 0 _ (search rules) (search rules)
