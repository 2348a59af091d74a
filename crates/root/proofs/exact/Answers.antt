use mathlib.Core.Bool.{true}
use mathlib.Core.Path.{◌≡◌, ◌∙◌, ap, sym, subst}
use native.Mathlib.Omega.{arith}
use lib.Dec.{T}
use lib.Ieee.{Float, binary64, fits, of_bits, div}
use lib.Ieee.Compare.{differs_from_itself}
use lib.Ieee.Bits.{of_bits-to_bits}
use Rattle.root.specs.Root.{root_of}
use Rattle.number.specs.Nan.{ne_self}
use Rattle.root.proofs.Special.{at_nan, at_zero, at_minus_zero, at_infinity, at_minus}
use Rattle.root.proofs.exact.Goals as goal

held : (x : Float) → fits binary64 x ≡ true → T (fits binary64 x)
held x h = subst T (sym h) tt

pub returns-then-is_nan : goal.returns-then-is_nan
returns-then-is_nan c = at_nan _ (differs_from_itself _ (rw (ne_self, ← c.is_nan.ensures.value, c.if-is_nan.true) tt))

pub returns-then-b-eq0 : goal.returns-then-b-eq0
returns-then-b-eq0 c = at_zero _ (held _ c.well_formed.0.1) c.if-b-eq0.true

pub returns-then-b-lt-INFINITY : goal.returns-then-b-lt-INFINITY
returns-then-b-lt-INFINITY c = c.positive.ensures.is ∙ ap root_of (of_bits-to_bits binary64 _ (held _ c.well_formed.0.1))

pub returns-then-b-eq-INFINITY : goal.returns-then-b-eq-INFINITY
returns-then-b-eq-INFINITY c = at_infinity _ (held _ c.well_formed.0.1) c.if-b-eq-INFINITY.true

pub returns-then-b : goal.returns-then-b
returns-then-b c = at_minus_zero _ (held _ c.well_formed.0.1) c.if-b.true

pub returns-else-b : goal.returns-else-b
unfolding of_bits div
returns-else-b c = at_minus _ (held _ c.well_formed.0.1) (c.if-is_nan.ensures.not_nan) (omega arith) c.if-b-eq-INFINITY.false c.if-b.false
