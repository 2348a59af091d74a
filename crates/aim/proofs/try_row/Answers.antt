use Rattle.std.proofs.Common.{[], arith}
use Rattle.aim.specs.Passed.{from_speeds}
use Rattle.aim.proofs.Laws.{row_next, row_end, goes_on, ends_hit, ends_missed}
use Rattle.aim.proofs.try_row.Goals.{else-loop-j-test, then-loop-j-test+in_default+else-j-downward}
use Rattle.aim.proofs.try_row.Goals as goal

pub try_at-requires : goal.try_at-requires
try_at-requires c =
    rw (c.with_speeds-landing.ensures, c.loop-j.auto.contacts, c.loop-j.auto.points)
    (from_speeds _ _ _ _ _ _ c.requires.1 (omega (arith, c.loop-j-test.true, c.requires.2)) c.requires.0)

pub returns-in-Some : goal.returns-in-Some
returns-in-Some c =
    ends_hit c.loop-j.invariant _ _ _ _ (row_next _ _ _ _ c.loop-j-test.true c.with_speeds-landing.ensures) c.loop-j.auto.contacts
    c.loop-j.auto.points _ (rw c.in-Some.is at c.try_at.ensures)

pub loop-j-preserved : goal.loop-j-preserved
loop-j-preserved c =
    goes_on c.loop-j.invariant _ _ [] [] (row_next _ _ _ _ c.loop-j-test.true c.with_speeds-landing.ensures) c.loop-j.auto.contacts
    c.loop-j.auto.points (rw c.in_default.is at c.try_at.ensures)

pub returns : goal.returns
returns c =
    elim c.loop-j-test.branch [
      | else-loop-j-test w ↦ ends_missed c.loop-j.invariant (row_end _ _ _ _ w.loop-j-test.false) [] []
      | then-loop-j-test+in_default+else-j-downward w ↦
          ends_missed
          (goes_on c.loop-j.invariant _ _ [] [] (row_next _ _ _ _ w.loop-j-test.true w.with_speeds-landing.ensures) c.loop-j.auto.contacts
          c.loop-j.auto.points (rw w.in_default.is at w.try_at.ensures)) (row_end _ _ _ _ (omega arith)) [] []
    ]
