use Rattle.std.proofs.Common.{refl}
use borrow.Author.Tests.{eq-eqb, ne_eqb}
use Rattle.refusal.proofs.Failed.{failed}
use Rattle.shelf_layout.specs.Doors.{shelf_save_door_of}
use Rattle.shelf_layout.proofs.Laws.{save_none, save_back, save_taken}
use Rattle.shelf_layout.proofs.save_in.Goals as goal

pub returns-in_default : goal.returns-in_default
unfolding shelf_save_door_of
returns-in_default c = rw (ne_eqb _ _ c.in_default.ensures.cases)

pub returns-then-state-ne10 : goal.returns-then-state-ne10
unfolding shelf_save_door_of
returns-then-state-ne10 c = rw (c.in-Some.ensures.cases.same, eq-eqb _ _ (c.in-Some.ensures.variant.0 refl), ne_eqb _ _ c.if-state-ne10.true)

pub returns-in_err-held : goal.returns-in_err-held
returns-in_err-held c =
    rw (failed c.from_residual.result c.from_residual.ensures.1)
    (save_none _ _ (c.in-Some.ensures.variant.0 refl) c.in-Some.ensures.cases.same c.args.name.now c.args.state.now c.if-state-ne10.false c.in_err-held.ensures)

pub returns-in_err-save : goal.returns-in_err-save
returns-in_err-save c =
    rw (failed c.from_residual-in_err-save.result c.from_residual-in_err-save.ensures.1)
    (save_back _ _ (c.in-Some.ensures.variant.0 refl) c.in-Some.ensures.cases.same c.args.name.now c.args.state.now c.if-state-ne10.false
    c.in_err-save.field-0.0 c.in_ok-held.ensures
    (rw c.state_at.ensures at c.in_err-save.ensures))

pub returns : goal.returns
returns c =
    save_taken _ _ (c.in-Some.ensures.variant.0 refl) c.in-Some.ensures.cases.same c.args.name.now c.args.state.now c.if-state-ne10.false
    c.in_ok-held.ensures (rw c.state_at.ensures at c.in_ok-save.ensures)
    c.write_shelf.ensures
