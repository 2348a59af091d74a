use Rattle.std.proofs.Common.{refl, sym, ◌∙◌, subst}
use Rattle.exponential.specs.Exp.{exp_of}
use Rattle.exponential.proofs.Magnitudes.{Known, known}
use Rattle.aero.specs.Crisis.{crisis_of, sigma_of}
use Rattle.aero.proofs.Crisis.{sigma_vast}
use Rattle.aero.proofs.BallModel.at_crisis.Goals as goal

pub returns-in-Vast : goal.returns-in-Vast
unfolding crisis_of sigma_of
returns-in-Vast c =
    let k = subst (λ m. Known m (exp_of c.args.x)) (sym c.how_large-size.ensures ∙ c.in-Vast.is) (known c.args.x) in
    let s = sigma_vast (exp_of c.args.x) k in
    let b = c.keeps_both.ensures c.if-keeps_both.true in
    rw (b.0 _ s, b.1 _ s) refl

pub returns-in_default : goal.returns-in_default
unfolding crisis_of
returns-in_default c = rw (c.sigma_at-sigma.ensures) refl
