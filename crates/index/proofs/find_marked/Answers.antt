use Rattle.std.proofs.Common.{arith, refl, sym}
use Rattle.index.proofs.Marks.{both_marked, scan_start, scan_end, in_part, past_part}
use Rattle.index.proofs.find_marked.Goals as goal

pub loop-w-init : goal.loop-w-init
loop-w-init c = scan_start _ _ _ _ (omega arith)

pub first_marked-requires-clause-marks : goal.first_marked-requires-clause-marks
first_marked-requires-clause-marks c =
    both_marked _ _ _ _ _ _ _ _ c.word_start-from.ensures c.word_start-end.ensures (omega arith) c.requires.row.0 c.requires.row.1

pub returns-in-Some : goal.returns-in-Some
returns-in-Some c =
    let h = rw c.in-Some.is at c.first_marked.ensures in
    in_part _ _ _ _ _ c.word_start-from.ensures c.word_start-end.ensures (omega arith) (omega arith) h.1 c.loop-w.invariant (omega arith) h.0

pub loop-w-preserved : goal.loop-w-preserved
loop-w-preserved c =
    past_part _ _ _ _ _ c.word_start-from.ensures c.word_start-end.ensures (omega arith) (omega arith) refl c.loop-w.invariant
    (rw c.in_default.is at c.first_marked.ensures)

pub returns : goal.returns
returns c = sym (scan_end _ _ _ _ (omega arith) c.loop-w.invariant)
