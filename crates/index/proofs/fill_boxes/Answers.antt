use Rattle.std.proofs.Common.{arith, refl}
use Rattle.index.specs.Index.{Boxed}
use Rattle.index.proofs.Boxes.{made}
use Rattle.index.proofs.fill_boxes.Goals as goal

pub loop-b-init : goal.loop-b-init
loop-b-init c = record { boxes = λ a h. absurd (omega arith); cuts = λ j. refl }

pub loop-b-preserved : goal.loop-b-preserved
loop-b-preserved c = made _ _ _ _ _ (omega arith) c.loop-b.invariant c.make_box.ensures.elsewhere (c.make_box.ensures.around, c.make_box.ensures.numbers)

pub returns-clause-boxes : goal.returns-clause-boxes
unfolding Boxed
returns-clause-boxes c = λ b l. c.loop-b.invariant.boxes b (omega arith)
