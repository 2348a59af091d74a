use Rattle.std.proofs.Common.{refl, sym, ◌∙◌, subst}
use lib.Ieee.{of_bits, round}
use Rattle.exponential.specs.Exp.{exp_of}
use Rattle.exponential.proofs.Magnitudes.{Known, known}
use Rattle.aero.specs.Crisis.{sigma_of}
use Rattle.aero.proofs.Crisis.{sigma_slight}
use Rattle.aero.proofs.sigma_at.Goals as goal

pub returns-in-Slight : goal.returns-in-Slight
unfolding sigma_of of_bits round
returns-in-Slight c =
    let k = subst (λ m. Known m (exp_of c.args.x)) (sym c.requires ∙ c.in-Slight.is) (known c.args.x) in
    sym (sigma_slight (exp_of c.args.x) k.0 k.1)

pub returns-in_default : goal.returns-in_default
unfolding sigma_of of_bits round
returns-in_default c = rw (c.exp.ensures) refl
