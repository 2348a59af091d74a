use Rattle.std.proofs.Common.{refl}
use borrow.Author.Tests.{ne_eqb}
use Rattle.refusal.proofs.Failed.{failed}
use Rattle.shelf_layout.specs.Doors.{shelf_drop_door_of}
use Rattle.shelf_layout.proofs.Laws.{drop_none, drop_back, drop_taken}
use Rattle.shelf_layout.proofs.drop_in.Goals as goal

pub returns-in_default : goal.returns-in_default
unfolding shelf_drop_door_of
returns-in_default c = rw (ne_eqb _ _ c.in_default.ensures.cases)

pub returns-in_err-held : goal.returns-in_err-held
returns-in_err-held c =
    rw (failed c.from_residual.result c.from_residual.ensures.1)
    (drop_none _ _ (c.in-Some.ensures.variant.0 refl) c.in-Some.ensures.cases.same c.args.name.now c.in_err-held.ensures)

pub returns-in_err-drop : goal.returns-in_err-drop
returns-in_err-drop c =
    rw (failed c.from_residual-in_err-drop.result c.from_residual-in_err-drop.ensures.1)
    (drop_back _ _ (c.in-Some.ensures.variant.0 refl) c.in-Some.ensures.cases.same c.args.name.now c.in_err-drop.field-0.0 c.in_ok-held.ensures
    c.in_err-drop.ensures)

pub returns : goal.returns
returns c =
    drop_taken _ _ (c.in-Some.ensures.variant.0 refl) c.in-Some.ensures.cases.same c.args.name.now c.in_ok-held.ensures c.in_ok-drop.ensures
    c.write_shelf.ensures
