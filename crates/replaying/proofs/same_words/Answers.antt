use Rattle.std.proofs.Common.{arith, sym, ◌∙◌, drop_of_length-le, eq-eqb, ne_eqb}
use Rattle.replaying.specs.Replaying.{holds}
use Rattle.replaying.proofs.Laws.{holds_next}
use Rattle.replaying.proofs.same_words.Goals as goal

pub returns-then-w-whole : goal.returns-then-w-whole
returns-then-w-whole c =
    let a = c.args in
    rw (
      c.loop-k.invariant,
      holds_next a.entry.now a.i a.words.now c.loop-k.k (omega arith),
      ne_eqb _ _ (λ q. c.if-w-whole.true (q ∙ sym c.whole.ensures)),
    )

pub loop-k-preserved : goal.loop-k-preserved
loop-k-preserved c =
    let a = c.args in
    rw (c.loop-k.invariant, holds_next a.entry.now a.i a.words.now c.loop-k.k (omega arith), eq-eqb _ _ (c.if-w-whole.false ∙ c.whole.ensures))

pub returns : goal.returns
unfolding holds
returns c = rw (c.loop-k.invariant, drop_of_length-le _ c.loop-k-test.false)
