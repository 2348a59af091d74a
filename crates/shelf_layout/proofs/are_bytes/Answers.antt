use Rattle.std.proofs.Common.{refl, rules}
use lib.Ieee.{nan}
use Rattle.std.proofs.lemmas.List.Recursion.{and_is}
use Rattle.fields.specs.Fields.{is_whole}
use Rattle.shelf_layout.specs.Layout.{are_bytes}
use Rattle.shelf_layout.proofs.are_bytes.Goals as goal

pub returns : goal.returns
unfolding are_bytes
returns c = and_is are_bytes (is_whole 0 255) refl (λ _ _. refl) c.args.l.now nan _ (search rules) (search rules)
