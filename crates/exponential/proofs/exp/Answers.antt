use mathlib.Core.Path.{◌≡◌, refl, sym, ◌∙◌}
use mathlib.Core.Bool.{false}
use lib.Ieee.{binary64, fin, inf, of_bits, round}
use Rattle.number.specs.Nan.{ne_self}
use Rattle.exponential.proofs.Cases.{at_nan, above, below, between}
use Rattle.exponential.proofs.exp.Goals as goal

infinite : of_bits binary64 9218868437227405312 ≡ inf false
unfolding of_bits
infinite = refl

zero_is : of_bits binary64 0 ≡ fin false 0 (lib.IntN.pos 0)
unfolding of_bits
zero_is = refl

pub returns-then-is_nan : goal.returns-then-is_nan
returns-then-is_nan c = at_nan _ (ne_self _ ∙ sym c.is_nan.ensures.value ∙ c.if-is_nan.true)

pub returns-then-x : goal.returns-then-x
unfolding of_bits round
returns-then-x c = infinite ∙ above _ (ne_self _ ∙ sym c.is_nan.ensures.value ∙ c.if-is_nan.false) c.if-x.true

pub returns-then-x-2 : goal.returns-then-x-2
unfolding of_bits round
returns-then-x-2 c = zero_is ∙ below _ (ne_self _ ∙ sym c.is_nan.ensures.value ∙ c.if-is_nan.false) c.if-x.false c.if-x-2.true

pub reduce-a-requires : goal.reduce-a-requires
unfolding of_bits round
reduce-a-requires c = (sym c.is_nan.ensures.value ∙ c.if-is_nan.false, c.if-x.false, c.if-x-2.false)

pub power_at-requires : goal.power_at-requires
power_at-requires c = c.reduce-a.ensures.1

pub returns : goal.returns
unfolding of_bits round
returns c =
    rw (c.series.ensures, c.power_at.ensures, c.reduce-a.ensures.0, c.reduce-a.ensures.2)
    (between _ (ne_self _ ∙ sym c.is_nan.ensures.value ∙ c.if-is_nan.false) c.if-x.false c.if-x-2.false)
