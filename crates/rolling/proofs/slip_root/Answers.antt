use mathlib.Core.Path.{sym, subst}
use mathlib.Core.Bool.{true≢false}
use lib.Dec.{T}
use lib.Ieee.{of_bits, round, lt}
use Rattle.rolling.proofs.Slow.{slow, no}
use Rattle.rolling.proofs.slip_root.Goals as goal

pub returns-then-s : goal.returns-then-s
unfolding of_bits round lt
returns-then-s c =
    let f = no _ (slow _ (subst T (sym c.well_formed.0.1) tt) (subst T (sym c.if-s.true) tt)) in
    (sym f, λ e. absurd (true≢false (sym e)))
