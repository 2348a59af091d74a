use Rattle.std.proofs.Common.{refl}
use borrow.Author.Tests.{eq-eqb, ne_eqb}
use lib.Ieee.{of_bits, round}
use Rattle.capi.specs.Boards.{new_door_of}
use Rattle.capi.proofs.new_in.Goals as goal

pub returns-in_default : goal.returns-in_default
unfolding new_door_of
returns-in_default c = rw (ne_eqb _ _ c.in_default.ensures.cases)

pub returns-in-Ok : goal.returns-in-Ok
unfolding new_door_of
returns-in-Ok c = rw (eq-eqb _ _ (c.in-Some.ensures.variant.0 refl), ← c.in-Ok.ensures, c.write_board.ensures)

pub returns-in-Err : goal.returns-in-Err
unfolding new_door_of of_bits round
returns-in-Err c =
    rw (eq-eqb _ _ (c.in-Some.ensures.variant.0 refl), ← c.in-Err.ensures, c.write_board-in-Err.ensures, c.empty.ensures)
