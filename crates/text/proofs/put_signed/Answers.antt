use Rattle.std.proofs.Common.{arith}
use Rattle.text.specs.Text.{signed_of}
use Rattle.text.specs.Laws.{before, wide}
use Rattle.text.proofs.put_signed.Goals as goal

pub returns-then-minus : goal.returns-then-minus
unfolding signed_of
returns-then-minus c = rw c.if-minus.true (before c.put-k.ensures c.put_number.ensures)

pub returns : goal.returns
unfolding signed_of
returns c = rw c.if-minus.false (wide {w = 20} (omega arith) c.put_number-2.ensures)
