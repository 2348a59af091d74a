use Rattle.std.proofs.Common.{refl}
use borrow.Author.Tests.{eq-eqb, ne_eqb}
use Rattle.shelf_layout.specs.Doors.{shelf_new_door_of}
use Rattle.shelf_layout.proofs.new_in.Goals as goal

pub returns-in_default : goal.returns-in_default
unfolding shelf_new_door_of
returns-in_default c = rw (ne_eqb _ _ c.in_default.ensures.cases)

pub returns : goal.returns
unfolding shelf_new_door_of
returns c = rw (eq-eqb _ _ (c.in-Some.ensures.variant.0 refl), c.write_shelf.ensures, c.new.ensures)
