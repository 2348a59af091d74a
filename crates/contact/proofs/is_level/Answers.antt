use mathlib.Core.Path.{sym, subst}
use native.Mathlib.Omega.{arith}
use lib.Dec.{T}
use Rattle.std.proofs.lemmas.Bool.Decides.{nat_tests}
use Rattle.contact.proofs.Level.{level}
use Rattle.contact.proofs.is_level.Goals as goal

pub returns : goal.returns
returns c = λ e.
    let w = c.well_formed in
    level _ _ _ (subst T (sym w.0.1) tt) (subst T (sym w.1.0.1) tt) (subst T (sym w.1.1.0.1) tt)
    (grind (arith, nat_tests, e)) (grind (arith, nat_tests, e)) (grind (arith, nat_tests, e))
