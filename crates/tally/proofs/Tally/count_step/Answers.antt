use Rattle.std.proofs.Common.{refl, arith}
use Rattle.look.specs.Tree.{exec}
use Rattle.tally.specs.Language.{make_step}
use Rattle.tally.specs.Lists.{stay}
use Rattle.tally.proofs.Tally.count_step.Goals as goal

pub returns : goal.returns
unfolding make_step exec
returns c = record {
  work = refl;
  runs = λ o s e lc lp. record { same = rw (← e); count = refl; work = omega arith; contacts = stay _ _ _; points = stay _ _ _ };
}
