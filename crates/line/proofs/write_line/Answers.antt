use Rattle.std.proofs.Common.{◌≡◌, ℕ, List, zero-add}
use Rattle.text.specs.Text.{Puts}
use Rattle.line.specs.Line.{wrote, written_line}
use Rattle.line.proofs.write_line.Goals as goal

written : (l m : List ℕ) (r : ℕ) {t : List ℕ} → Puts 128 l 0 t r m → wrote r m ≡ written_line t l
unfolding written_line
written l m r x = rw (x.adds.same, x.adds.next, zero-add)

pub returns : goal.returns
returns c = written _ _ _ c.put_told.ensures
