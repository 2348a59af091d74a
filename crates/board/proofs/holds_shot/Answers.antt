use Rattle.std.proofs.Common.{eqb, refl, rules}
use Rattle.std.proofs.lemmas.List.Recursion.{or_is}
use Rattle.board.specs.Rules.{holds}
use Rattle.board.specs.Inner.{none}
use Rattle.board.proofs.holds_shot.Goals as goal

pub returns : goal.returns
unfolding holds
returns c = or_is (holds c.args.shot) (λ e. eqb e.shot c.args.shot) refl (λ _ _. refl) c.args.listed.now none _ (search rules) (search rules)
