use mathlib.Core.Path.{sym}
use mathlib.Core.Bool.{true≢false}
use native.Mathlib.Omega.{arith}
use borrow.Author.Tests.{ltb-true, lt-ltb, le-ltb, le-leb, lt-leb}
use Rattle.root.specs.Guess.{is_near}
use Rattle.root.proofs.Testing.{tested}
use Rattle.root.proofs.is_near.Goals as goal
use Rattle.root.proofs.is_near.Goals.{then-n-k-via-then-n-k, then-n-k-via-else-n-k+then-n-k-2}

pub returns-then-n-k : goal.returns-then-n-k
unfolding is_near
returns-then-n-k c = (
  λ e. absurd (true≢false (sym e)),
  elim c.then-n-k.branch [
    | then-n-k-via-then-n-k w ↦ rw (lt-ltb _ _ w.if-n-k.true)
    | then-n-k-via-else-n-k+then-n-k-2 w ↦ rw (le-ltb _ _ w.if-n-k.false, le-leb _ _ w.if-n-k-2.true)
  ],
)

pub returns-then-p-h : goal.returns-then-p-h
unfolding is_near
returns-then-p-h c = (
  λ e. absurd (true≢false (sym e)),
  rw (le-ltb _ _ c.if-n-k.false, lt-leb _ _ c.if-n-k-2.false, lt-ltb _ _ c.if-p-h.true),
)

pub returns : goal.returns
unfolding is_near
returns c = (
  λ e. tested c.args.m c.args.r _ c.requires.1.0 c.requires.1.1 (omega arith) c.if-p-h.false (ltb-true _ _ e),
  rw (le-ltb _ _ c.if-n-k.false, lt-leb _ _ c.if-n-k-2.false, le-ltb _ _ c.if-p-h.false),
)
