use Rattle.std.proofs.Common.{arith, drop_of_length-le}
use Rattle.replaying.specs.Replaying.{no_nan, holds}
use Rattle.replaying.proofs.Laws.{agrees_next}
use Rattle.replaying.proofs.same_doubles.Goals as goal

pub returns-then-not-same_double : goal.returns-then-not-same_double
returns-then-not-same_double c =
    let a = c.args in
    rw (
      c.loop-k.invariant,
      agrees_next a.entry.now a.i a.doubles.now c.loop-k.k (omega arith),
      ← c.whole.ensures,
      ← c.same_double.ensures,
      c.if-not-same_double.true,
    )

pub loop-k-preserved : goal.loop-k-preserved
loop-k-preserved c =
    let a = c.args in
    rw (
      c.loop-k.invariant,
      agrees_next a.entry.now a.i a.doubles.now c.loop-k.k (omega arith),
      ← c.whole.ensures,
      ← c.same_double.ensures,
      c.if-not-same_double.false,
    )

pub returns : goal.returns
unfolding no_nan holds
returns c = rw (c.loop-k.invariant, drop_of_length-le _ c.loop-k-test.false)
