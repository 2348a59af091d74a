-- The landings from j on are left of the row, and none before them fits.
use Rattle.std.specs.Prelude.{◌+◌, ◌-◌, length}
use Rattle.aim.specs.Aim.{row}
use Rattle.aim.proofs.Laws.{Along}
use Rattle.aim.proofs.try_row.Given as goal

abbrev pub invariant-loop-j : goal.invariant-loop-j
invariant-loop-j l =
    Along l.course l.shot l.target (length l.initial.contacts) (length l.initial.points) (row l.shot.landing l.i l.downward 1)
    (row l.shot.landing l.i (l.downward + 1 - l.j) l.j)
