use Rattle.std.proofs.Common.{arith, refl}
use Rattle.shelf_layout.proofs.Laws.{write_on, write_end}
use Rattle.shelf_layout.proofs.write_shelf.Goals as goal

pub loop-i-init : goal.loop-i-init
loop-i-init c = (c.told-out, refl)

pub loop-i-preserved : goal.loop-i-preserved
loop-i-preserved c =
    let w = write_on _ _ _ _ _ _ c.loop-i-test.true (omega arith) c.loop-i.invariant.0 c.write_place.ensures c.loop-i.invariant.1 in
    (w.0, w.1)

pub returns : goal.returns
returns c =
    write_end _ _ _ _ c.loop-i-test.false c.told-places c.loop-i.invariant.0 c.loop-i.invariant.1
