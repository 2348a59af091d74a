use Rattle.std.proofs.Common.{sym}
use Rattle.std.specs.Prelude.{◌≡◌, Some}
use Rattle.refusal.proofs.Failed.{failed}
use Rattle.ground.specs.Passed.{settle_sheet}
use Rattle.aim.specs.Passed.{aim_accepted}
use Rattle.aim.proofs.Laws.{turned_back, found, nothing_found, found_rests}
use Rattle.aim.proofs.aim.Goals as goal

pub returns-in_err-aim_refusal-clause-given : goal.returns-in_err-aim_refusal-clause-given
returns-in_err-aim_refusal-clause-given c = rw (failed _ c.from_residual.ensures.1) (turned_back _ _ _ _ _ _ _ _ c.in_err-aim_refusal.ensures)

pub indexed-course-requires : goal.indexed-course-requires
indexed-course-requires c = settle_sheet _ _ _ _ (aim_accepted _ _ _ _ _ _ _ (sym c.in_ok-aim_refusal.ensures)).settles

pub try_grid-requires : goal.try_grid-requires
try_grid-requires c =
    let a = aim_accepted _ _ _ _ _ _ _ (sym c.in_ok-aim_refusal.ensures) in
    rw c.indexed-course.ensures (a.settles, a.rows_fit, a.columns_fit)

pub returns-in_default-clause-given : goal.returns-in_default-clause-given
returns-in_default-clause-given c =
    rw (c.zero_from.ensures, c.zero_from-in_default.ensures)
    (nothing_found _ _ _ _ _ _ _ (sym c.in_ok-aim_refusal.ensures) _ _ (rw (c.indexed-course.ensures, c.in_default.is) at c.try_grid.ensures)
    c.try_grid.auto.contacts c.try_grid.auto.points)

pub returns-clause-given : goal.returns-clause-given
returns-clause-given c =
    found _ _ _ _ _ _ _ (sym c.in_ok-aim_refusal.ensures) _ _ c.in-Some.found (rw (c.indexed-course.ensures, c.in-Some.is) at c.try_grid.ensures)

pub returns-clause-rests : goal.returns-clause-rests
returns-clause-rests c a h =
    let q : c.try_grid.result ≡ Some a = cc in
    found_rests _ c.args.shot.now _ c.args.contacts.now c.args.points.now _ a (rw (c.indexed-course.ensures, q) at c.try_grid.ensures)
