use Rattle.std.proofs.Common.{sym, subst}
use lib.Dec.{T}
use lib.Ieee.{of_bits, round}
use lib.Ieee.Fits.{and_l, and_r}
use Rattle.aero.proofs.Crisis.{kept}
use Rattle.aero.proofs.keeps.Goals as goal

pub returns : goal.returns
unfolding of_bits round
returns c e =
    let t = subst T (sym e) tt in
    let u = and_l _ _ t in
    kept c.args.sub c.args.sup (subst T (sym c.well_formed.0.1) tt) (and_l _ _ u) (subst T c.is_finite.ensures (and_r _ _ u)) (and_r _ _ t)
