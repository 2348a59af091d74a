use mathlib.Core.Path.{◌≡◌, refl, sym, ap, ◌∙◌}
use mathlib.Core.Bool.{true, false}
use lib.Ieee.{Float, is_nan, lt, neg, of_bits, round}
use Rattle.number.specs.Nan.{ne_self}
use Rattle.number.specs.Number.{within_of}
use Rattle.exponential.specs.Exp.{limit, exponent, reduced, two_to}
use Rattle.exponential.specs.Magnitude.{magnitude_of, by_power, most_r}
use Rattle.exponential.proofs.how_large.Goals as goal

pub returns-then-is_nan : goal.returns-then-is_nan
unfolding magnitude_of
returns-then-is_nan c = rw (ne_self, ← c.is_nan.ensures.value, c.if-is_nan.true)

pub returns-then-x : goal.returns-then-x
unfolding magnitude_of of_bits round
returns-then-x c = rw (ne_self, ← c.is_nan.ensures.value, c.if-is_nan.false, c.if-x.true)

pub returns-then-x-2 : goal.returns-then-x-2
unfolding magnitude_of of_bits round
returns-then-x-2 c = rw (ne_self, ← c.is_nan.ensures.value, c.if-is_nan.false, c.if-x.false, c.if-x-2.true)

pub reduce-a-requires : goal.reduce-a-requires
unfolding of_bits round
reduce-a-requires c = (sym c.is_nan.ensures.value ∙ c.if-is_nan.false, c.if-x.false, c.if-x-2.false)

pub returns-then-not-within : goal.returns-then-not-within
unfolding magnitude_of of_bits round
returns-then-not-within c =
    rw (ne_self, ← c.is_nan.ensures.value, c.if-is_nan.false, c.if-x.false, c.if-x-2.false)
    rw (ap (within_of (neg most_r) most_r) (sym c.reduce-a.ensures.0) ∙ sym c.within.ensures ∙ c.if-not-within.true) refl

-- what is known before the power is tested
reached : (x r q p : Float) → is_nan x ≡ false → lt limit x ≡ false → lt x (neg limit) ≡ false → within_of (neg most_r) most_r r ≡ true
    → r ≡ reduced x (exponent x) → p ≡ q → q ≡ two_to (exponent x) → by_power p ≡ magnitude_of x
unfolding magnitude_of
reached x r q p n a b w d e f = rw (ne_self, n, a, b, ap (within_of (neg most_r) most_r) (sym d) ∙ w) (ap by_power (e ∙ f))

pub returns-then-p : goal.returns-then-p
unfolding by_power of_bits round
returns-then-p c = rw c.if-p.true at
    (reached _ _ _ _ (sym c.is_nan.ensures.value ∙ c.if-is_nan.false) c.if-x.false c.if-x-2.false (sym c.within.ensures ∙ c.if-not-within.false)
    c.reduce-a.ensures.0 c.power_at-p.ensures c.reduce-a.ensures.2)

pub returns-then-p-2 : goal.returns-then-p-2
unfolding by_power of_bits round
returns-then-p-2 c = rw (c.if-p.false, c.if-p-2.true) at
    (reached _ _ _ _ (sym c.is_nan.ensures.value ∙ c.if-is_nan.false) c.if-x.false c.if-x-2.false (sym c.within.ensures ∙ c.if-not-within.false)
    c.reduce-a.ensures.0 c.power_at-p.ensures c.reduce-a.ensures.2)

pub returns : goal.returns
unfolding by_power of_bits round
returns c = rw (c.if-p.false, c.if-p-2.false) at
    (reached _ _ _ _ (sym c.is_nan.ensures.value ∙ c.if-is_nan.false) c.if-x.false c.if-x-2.false (sym c.within.ensures ∙ c.if-not-within.false)
    c.reduce-a.ensures.0 c.power_at-p.ensures c.reduce-a.ensures.2)
