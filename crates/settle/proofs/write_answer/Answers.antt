use Rattle.std.proofs.Common.{◌≡◌, refl, ap, ◌∙◌, ℕ, ◌*◌, List, replicate}
use lib.Ieee.{Float, of_bits, round, binary64}
use Rattle.number.specs.Ops.{dec}
use Rattle.tally.specs.Language.{point_width, contact_width}
use Rattle.ground.specs.Settle.{Result, Settled, result_of}
use Rattle.input.specs.Input.{settle_input_of, program_of}
use Rattle.line.specs.Line.{Wrote, shown_of, written_line}
use Rattle.settle.proofs.write_answer.Goals as goal

zero : of_bits binary64 0 ≡ dec 0 1
unfolding of_bits round
zero = refl

program : (input : List ℕ) {s : Settled} {cs ps : List Float}
    → result_of s cs ps ≡ settle_input_of input (replicate (64 * contact_width) (of_bits binary64 0)) (replicate (640 * point_width) (of_bits binary64 0))
    → s ≡ program_of input
unfolding program_of
program input e = ap (λ (w : Result). w.settled) e ∙ rw zero

written : (l : List ℕ) {s s' : Settled} {w : Wrote} → w ≡ written_line (shown_of s) l → s ≡ s' → w ≡ written_line (shown_of s') l
written l e h = rw (← h) e

pub returns : goal.returns
returns c = written _ c.write_line.ensures (c.told.ensures ∙ program _ c.settle_input-s.ensures)
