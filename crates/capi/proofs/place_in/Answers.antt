use Rattle.std.proofs.Common.{refl, sym, ◌∙◌}
use borrow.Author.Tests.{eq-eqb, ne_eqb}
use Rattle.capi.specs.Boards.{place_door_of}
use Rattle.capi.proofs.place_in.Goals as goal

pub returns-in_default : goal.returns-in_default
unfolding place_door_of
returns-in_default c = rw (ne_eqb _ _ c.in_default.ensures.cases)

pub returns-in_default-as_mut_array : goal.returns-in_default-as_mut_array
unfolding place_door_of
returns-in_default-as_mut_array c = rw (eq-eqb _ _ (c.in-Some.ensures.variant.0 refl), ne_eqb _ _ c.in_default-as_mut_array.ensures.cases)

pub returns-then-not-board_ok : goal.returns-then-not-board_ok
unfolding place_door_of
returns-then-not-board_ok c =
    rw (
      eq-eqb _ _ (c.in-Some.ensures.variant.0 refl),
      eq-eqb _ _ c.in-Some-as_mut_array.ensures.cases.long,
      ← c.in-Some.ensures.cases.same,
      sym c.board_ok.ensures ∙ c.if-not-board_ok.true,
      ← c.in-Some-as_mut_array.ensures.cases.same,
    )

pub returns-in-Ok : goal.returns-in-Ok
unfolding place_door_of
returns-in-Ok c =
    rw (
      eq-eqb _ _ (c.in-Some.ensures.variant.0 refl),
      eq-eqb _ _ c.in-Some-as_mut_array.ensures.cases.long,
      ← c.in-Some.ensures.cases.same,
      sym c.board_ok.ensures ∙ c.if-not-board_ok.false,
      ← c.board_at.ensures,
      ← c.in-Ok.ensures,
      ← c.in-Some-as_mut_array.ensures.cases.same,
      c.put.ensures,
      c.whole.ensures,
    )

pub returns-in-Err : goal.returns-in-Err
unfolding place_door_of
returns-in-Err c =
    rw (
      eq-eqb _ _ (c.in-Some.ensures.variant.0 refl),
      eq-eqb _ _ c.in-Some-as_mut_array.ensures.cases.long,
      ← c.in-Some.ensures.cases.same,
      sym c.board_ok.ensures ∙ c.if-not-board_ok.false,
      ← c.board_at.ensures,
      ← c.in-Err.ensures,
      ← c.in-Some-as_mut_array.ensures.cases.same,
      c.put-in-Err.ensures,
      c.whole-in-Err.ensures,
    )
