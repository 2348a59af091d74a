use Rattle.std.proofs.Common.{refl}
use Rattle.probe.specs.Doors.{wrong_input, wrong_out, right}
use Rattle.probe.proofs.door.Goals as goal
use Rattle.probe.proofs.door.Goals.{then-input-n-via-then-input-n, then-input-n-via-else-input-n+then-out-m}

pub returns-then-input-n : goal.returns-then-input-n
returns-then-input-n g c f h =
    elim c.then-input-n.branch [
      | then-input-n-via-then-input-n w ↦ wrong_input _ _ _ _ _ w.if-input-n.true
      | then-input-n-via-else-input-n+then-out-m w ↦ wrong_out _ _ _ _ _ w.if-input-n.false w.if-out-m.true
    ]

pub returns : goal.returns
returns g c f h = right _ _ _ _ _ c.if-input-n.false c.if-out-m.false _ (h _ _ _ refl c.if-out-m.false c.row.ensures)
