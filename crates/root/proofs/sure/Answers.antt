use mathlib.Core.Path.{sym, ◌∙◌}
use mathlib.Core.Bool.{true≢false}
use borrow.Author.Tests.{eq-eqb, ne_eqb}
use Rattle.root.specs.Guess.{is_sure}
use Rattle.root.proofs.Rooted.{tested_bits}
use Rattle.root.proofs.sure.Goals as goal

pub returns-then-w-v : goal.returns-then-w-v
unfolding is_sure
returns-then-w-v c = (
  λ e. tested_bits _ _ _ c.requires.0 c.requires.1 c.radicand.ensures c.if-w-v.true (c.is_near.ensures.0 e),
  rw (eq-eqb _ _ c.if-w-v.true, ← c.radicand.ensures.is) c.is_near.ensures.1,
)

pub returns-else-w-v : goal.returns-else-w-v
unfolding is_sure
returns-else-w-v c = (λ e. absurd (true≢false (sym e ∙ ne_eqb _ _ c.if-w-v.false)), rw (ne_eqb _ _ c.if-w-v.false))
