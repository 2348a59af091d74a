use Rattle.std.proofs.Common.{◌≡◌, ◌∙◌, ap, sym, subst}
use lib.Dec.{T}
use lib.Ieee.{binary64, to_bits}
use lib.Ieee.Bits.{of_bits-to_bits}
use borrow.Author.Tests.{lt-ltb, le-ltb, le-leb, lt-leb}
use Rattle.root.specs.Root.{root_of}
use Rattle.root.specs.Inner.{SureBits}
use Rattle.root.specs.Guess.{guess_of}
use Rattle.number.specs.Nan.{ne_self}
use Rattle.root.proofs.guess.Goals as goal
use Rattle.root.proofs.guess.Goals.{then-b-lt-FIELD-via-then-b-lt-FIELD, then-b-lt-FIELD-via-else-b-lt-FIELD+then-b-ge-INFINITY}

pub returns-then-is_nan-clause-bits : goal.returns-then-is_nan-clause-bits
unfolding guess_of
returns-then-is_nan-clause-bits c = rw (ne_self, ← c.is_nan.ensures.value, c.if-is_nan.true)

pub returns-then-b-lt-FIELD-clause-bits : goal.returns-then-b-lt-FIELD-clause-bits
unfolding guess_of
returns-then-b-lt-FIELD-clause-bits c = rw (ne_self, ← c.is_nan.ensures.value, c.if-is_nan.false) (elim c.then-b-lt-FIELD.branch [
  | then-b-lt-FIELD-via-then-b-lt-FIELD w ↦ rw (lt-ltb _ _ w.if-b-lt-FIELD.true)
  | then-b-lt-FIELD-via-else-b-lt-FIELD+then-b-ge-INFINITY w ↦ rw (le-ltb _ _ w.if-b-lt-FIELD.false, le-leb _ _ w.if-b-ge-INFINITY.true)
])

pub returns-then-is_nan-2-clause-bits : goal.returns-then-is_nan-2-clause-bits
unfolding guess_of
returns-then-is_nan-2-clause-bits c = rw (
  ← c.estimate-w.ensures,
  ne_self c.args.x,
  ← c.is_nan.ensures.value,
  c.if-is_nan.false,
  le-ltb _ _ c.if-b-lt-FIELD.false,
  lt-leb _ _ c.if-b-ge-INFINITY.false,
  ne_self,
  ← c.is_nan-2.ensures.value,
  c.if-is_nan-2.true,
)

pub returns-then-sure-clause-sure : goal.returns-then-sure-clause-sure
returns-then-sure-clause-sure c r h =
    let s = c.sure.ensures.0 c.if-sure.true in
    let e : to_bits binary64 c.estimate-w.result ≡ r = cc in
    subst (SureBits c.args.x) e
    (record { finite = s.finite; is = s.is ∙ ap root_of (of_bits-to_bits binary64 _ (subst T (sym c.well_formed.0.1) tt)) })

pub returns-then-sure-clause-bits : goal.returns-then-sure-clause-bits
unfolding guess_of
returns-then-sure-clause-bits c = rw (
  ← c.estimate-w.ensures,
  ne_self c.args.x,
  ← c.is_nan.ensures.value,
  c.if-is_nan.false,
  le-ltb _ _ c.if-b-lt-FIELD.false,
  lt-leb _ _ c.if-b-ge-INFINITY.false,
  ne_self,
  ← c.is_nan-2.ensures.value,
  c.if-is_nan-2.false,
  ← c.sure.ensures.1,
  c.if-sure.true,
)

pub returns-else-sure-clause-bits : goal.returns-else-sure-clause-bits
unfolding guess_of
returns-else-sure-clause-bits c = rw (
  ← c.estimate-w.ensures,
  ne_self c.args.x,
  ← c.is_nan.ensures.value,
  c.if-is_nan.false,
  le-ltb _ _ c.if-b-lt-FIELD.false,
  lt-leb _ _ c.if-b-ge-INFINITY.false,
  ne_self,
  ← c.is_nan-2.ensures.value,
  c.if-is_nan-2.false,
  ← c.sure.ensures.1,
  c.if-sure.false,
)
