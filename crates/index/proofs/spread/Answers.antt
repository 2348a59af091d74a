use Rattle.std.proofs.Common.{arith, ap, ◌∙◌, refl, sym, ◌-◌}
use Rattle.std.specs.Float.Ieee.{of_bits, round}
use lib.ListN.{length-set}
use Rattle.number.specs.Number.{min_of, max_of}
use Rattle.index.proofs.Cuts.{least_next, greatest_next, least_last, greatest_last, steps_next, steps_last, spread_is}
use Rattle.index.proofs.spread.Goals as goal

pub loop-i-preserved : goal.loop-i-preserved
loop-i-preserved c = (
  least_next _ _ _ _ _ _ (omega arith) (c.min-lo.ensures ∙ ap (min_of c.loop-i.lo) c.patch_number.ensures) ∙ c.loop-i.invariant.0,
  greatest_next _ _ _ _ _ _ (omega arith) (c.max-hi.ensures ∙ ap (max_of c.loop-i.hi) c.patch_number-in-loop-i.ensures) ∙ c.loop-i.invariant.1,
)

pub loop-k-preserved : goal.loop-k-preserved
loop-k-preserved c =
    (simp length-set c.loop-k.invariant.0, steps_next _ _ _ _ _ _ _ (omega arith) (omega arith) c.bits_of-in-loop-k.ensures.bits ∙ c.loop-k.invariant.1)

pub returns : goal.returns
unfolding of_bits round
returns c =
    let lo = sym (least_last _ _ _ _ _ (omega arith)) ∙ c.loop-i.invariant.0 in
    let hi = sym (greatest_last _ _ _ _ _ (omega arith)) ∙ c.loop-i.invariant.1 in
    rw (← c.number-d.ensures.number)
    (spread_is _ _ _ _ _ _ refl refl lo hi c.bits_of.ensures.bits c.bits_of-2.ensures.bits
    (sym (steps_last _ (16 - c.loop-k.k) _ _ _ (omega arith)) ∙ c.loop-k.invariant.1))
