-- The rows from i on are left of the grid, and no landing before them fits.
use Rattle.std.specs.Prelude.{◌+◌, ◌-◌, length}
use Rattle.aim.specs.Aim.{rows}
use Rattle.aim.proofs.Laws.{Along}
use Rattle.aim.proofs.try_grid.Given as goal

abbrev pub invariant-loop-i : goal.invariant-loop-i
invariant-loop-i l =
    Along l.course l.shot l.target (length l.initial.contacts) (length l.initial.points) (rows l.shot.landing l.grid.downward l.grid.forward 1)
    (rows l.shot.landing l.grid.downward (l.grid.forward + 1 - l.i) l.i)
