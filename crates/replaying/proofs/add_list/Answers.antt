use Rattle.std.proofs.Common.{ap, arith, refl, drop_of_length-le, ℕ, ◌+◌, ◌%◌, ◌^◌, ◌∙◌}
use Rattle.replaying.specs.Replaying.{sums_of}
use Rattle.replaying.proofs.Laws.{sums_next}
use Rattle.replaying.proofs.add_list.Goals as goal

pub loop-v-preserved : goal.loop-v-preserved
loop-v-preserved c =
    let l = c.loop-v in
    l.invariant ∙ sums_next l.s _ l.v-index (omega arith) (ap (λ (w : ℕ). (l.s.a + w) % 2 ^ 64) c.bits.ensures) refl

pub returns : goal.returns
unfolding sums_of
returns c = rw (c.loop-v.invariant, drop_of_length-le _ c.loop-v-test.false)
