use Rattle.std.proofs.Common.{refl}
use borrow.Author.Tests.{eq-eqb, ne_eqb}
use lib.Ieee.{of_bits, round}
use Rattle.refusal.specs.Refusal.{number_of}
use Rattle.refusal.proofs.Failed.{failed}
use Rattle.shelf.specs.Map.{zero_state}
use Rattle.shelf_layout.specs.Doors.{shelf_return_door_of}
use Rattle.shelf_layout.proofs.Laws.{return_none, return_handed}
use Rattle.shelf_layout.proofs.return_in.Goals as goal

pub returns-in_default : goal.returns-in_default
unfolding shelf_return_door_of
returns-in_default c = rw (ne_eqb _ _ c.in_default.ensures.cases)

pub returns-then-state-ne10 : goal.returns-then-state-ne10
unfolding shelf_return_door_of
returns-then-state-ne10 c = rw (eq-eqb _ _ (c.in-Some.ensures.variant.0 refl), ne_eqb _ _ c.if-state-ne10.true)

pub returns-in_err-held : goal.returns-in_err-held
returns-in_err-held c =
    rw (failed c.from_residual.result c.from_residual.ensures.1)
    (return_none _ _ (c.in-Some.ensures.variant.0 refl) c.in-Some.ensures.cases.same c.args.name.now _ c.if-state-ne10.false c.in_err-held.ensures)

pub returns-in-Ok : goal.returns-in-Ok
returns-in-Ok c =
    return_handed _ _ (c.in-Some.ensures.variant.0 refl) c.in-Some.ensures.cases.same c.args.name.now _ c.if-state-ne10.false 0 c.in-Ok.s
    c.in_ok-held.ensures c.in-Ok.ensures c.put_state.ensures

pub returns-in-Err : goal.returns-in-Err
unfolding of_bits round
returns-in-Err c =
    return_handed _ _ (c.in-Some.ensures.variant.0 refl) c.in-Some.ensures.cases.same c.args.name.now _ c.if-state-ne10.false (number_of c.in-Err.refusal)
    zero_state c.in_ok-held.ensures c.in-Err.ensures c.put.ensures
