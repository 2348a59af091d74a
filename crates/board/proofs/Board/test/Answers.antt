use Rattle.std.proofs.Common.{lt-ltb, le-ltb}
use lib.Ieee.{of_bits, round, neg}
use Rattle.board.specs.Rules.{near, answer_of}
use Rattle.board.proofs.Board.test.Goals as goal

pub returns-then-e-gt7 : goal.returns-then-e-gt7
unfolding answer_of
returns-then-e-gt7 c = rw (lt-ltb _ _ c.if-e-gt7.true)

pub returns-then-not-within : goal.returns-then-not-within
unfolding answer_of near of_bits round neg
returns-then-not-within c = simp (le-ltb _ _ c.if-e-gt7.false, ← c.within.ensures, ← c.within-2.ensures, c.if-not-within.true)

pub returns-then-holds_shot : goal.returns-then-holds_shot
unfolding answer_of near of_bits round neg
returns-then-holds_shot c =
    simp (
      le-ltb _ _ c.if-e-gt7.false,
      ← c.within.ensures,
      ← c.within-2.ensures,
      c.if-not-within.false,
      ← c.listing-listed.ensures,
      ← c.holds_shot.ensures,
      c.if-holds_shot.true,
    )

pub returns-then-used-listed : goal.returns-then-used-listed
unfolding answer_of near of_bits round neg
returns-then-used-listed c =
    simp (
      le-ltb _ _ c.if-e-gt7.false,
      ← c.within.ensures,
      ← c.within-2.ensures,
      c.if-not-within.false,
      ← c.listing-listed.ensures,
      ← c.holds_shot.ensures,
      c.if-holds_shot.false,
      ← c.used.ensures,
      c.if-used-listed.true,
    )

pub returns : goal.returns
unfolding answer_of near of_bits round neg
returns c =
    simp (
      le-ltb _ _ c.if-e-gt7.false,
      ← c.within.ensures,
      ← c.within-2.ensures,
      c.if-not-within.false,
      ← c.listing-listed.ensures,
      ← c.holds_shot.ensures,
      c.if-holds_shot.false,
      ← c.used.ensures,
      c.if-used-listed.false,
    )
