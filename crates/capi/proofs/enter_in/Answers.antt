use Rattle.std.proofs.Common.{refl, sym, ◌∙◌}
use borrow.Author.Tests.{eq-eqb, ne_eqb}
use Rattle.capi.specs.Boards.{enter_door_of}
use Rattle.capi.proofs.enter_in.Goals as goal

pub returns-in_default : goal.returns-in_default
unfolding enter_door_of
returns-in_default c = rw (ne_eqb _ _ c.in_default.ensures.cases)

pub returns-then-not-board_ok : goal.returns-then-not-board_ok
unfolding enter_door_of
returns-then-not-board_ok c =
    rw (eq-eqb _ _ (c.in-Some.ensures.variant.0 refl), ← c.in-Some.ensures.cases.same, sym c.board_ok.ensures ∙ c.if-not-board_ok.true)

pub returns : goal.returns
unfolding enter_door_of
returns c =
    rw (eq-eqb _ _ (c.in-Some.ensures.variant.0 refl), ← c.in-Some.ensures.cases.same, sym c.board_ok.ensures ∙ c.if-not-board_ok.false)
    c.enter_sent.ensures
