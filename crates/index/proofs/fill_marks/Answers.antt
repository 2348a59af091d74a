use Rattle.std.proofs.Common.{arith, ◌≡◌, ◌/◌}
use Rattle.index.specs.Index.{Indexed, axis_number}
use Rattle.index.proofs.Marks.{filled, entered}
use Rattle.index.proofs.fill_marks.Goals.{then-k-lt128, else-k-lt128}
use Rattle.index.proofs.fill_marks.Goals as goal

pub loop-k-preserved : goal.loop-k-preserved
loop-k-preserved c =
    let d : axis_number c.if-k-lt128.axis ≡ c.loop-k.k / 128 = elim c.if-k-lt128.branch [
      | then-k-lt128 w ↦ rw w.axis-is
          (omega arith)
      | else-k-lt128 w ↦ rw w.axis-is (omega arith)
    ] in
    filled c.loop-k.invariant (omega arith) _
    (entered _ _ _ _ _ d c.word_start-from.ensures c.word_start-end.ensures c.cut_at-lo.ensures c.cut_at-hi.ensures c.mark.ensures)

pub returns-clause-marks : goal.returns-clause-marks
unfolding Indexed
returns-clause-marks c = λ i h. c.loop-k.invariant.words i (omega arith)
