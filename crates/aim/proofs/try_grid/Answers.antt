use Rattle.std.proofs.Common.{[], arith}
use Rattle.aim.proofs.Laws.{rows_next, rows_end, goes_on, ends_hit, ends_missed}
use Rattle.aim.proofs.try_grid.Goals.{else-loop-i-test, then-loop-i-test+in_default+else-i-i-end}
use Rattle.aim.proofs.try_grid.Goals as goal

pub returns-in-Some : goal.returns-in-Some
returns-in-Some c =
    ends_hit c.loop-i.invariant _ _ _ _ (rows_next _ _ _ _ c.loop-i-test.true) c.loop-i.auto.contacts c.loop-i.auto.points _
    (rw c.in-Some.is at c.try_row.ensures)

pub loop-i-preserved : goal.loop-i-preserved
loop-i-preserved c =
    goes_on c.loop-i.invariant _ _ [] [] (rows_next _ _ _ _ c.loop-i-test.true) c.loop-i.auto.contacts c.loop-i.auto.points
    (rw c.in_default.is at c.try_row.ensures)

pub returns : goal.returns
returns c =
    elim c.loop-i-test.branch [
      | else-loop-i-test w ↦ ends_missed c.loop-i.invariant (rows_end _ _ _ _ w.loop-i-test.false) [] []
      | then-loop-i-test+in_default+else-i-i-end w ↦
          ends_missed
          (goes_on c.loop-i.invariant _ _ [] [] (rows_next _ _ _ _ w.loop-i-test.true) c.loop-i.auto.contacts c.loop-i.auto.points
          (rw w.in_default.is at w.try_row.ensures)) (rows_end _ _ _ _ (omega arith)) [] []
    ]
