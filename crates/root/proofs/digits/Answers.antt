use native.Mathlib.Omega.{arith}
use Rattle.std.proofs.Common.{◌<◌}
use Rattle.root.proofs.Steps.{Whole, step_without, step_with, small, end, no_more, one_more}
use Rattle.root.proofs.digits.Goals as goal
use Rattle.root.proofs.digits.Goals.{After-loop, then-c-t, else-c-t}

whole : (c : After-loop) → Whole c.args.m c.loop.root c.loop.rem
whole c = end _ _ _ _ _ c.requires.0 c.loop-test.false c.loop.invariant

-- in the loop the root has at most 52 digits
short : (c : goal.In-loop) → c.loop.root < 4503599627370496
short c = small _ _ _ _ _ c.loop-test.true c.loop.invariant

pub overflow_mul-c : goal.overflow_mul-c
overflow_mul-c c = omega (arith, short c)

pub overflow_add-c : goal.overflow_add-c
overflow_add-c c = omega (arith, short c)

pub overflow_mul-t : goal.overflow_mul-t
overflow_mul-t c = omega (arith, short c)

pub overflow_add-t : goal.overflow_add-t
overflow_add-t c = omega (arith, short c)

pub loop-preserved : goal.loop-preserved
loop-preserved c = elim c.if-c-t.branch [
  | then-c-t w ↦ rw (w.root-is, w.rem-is) (step_without _ _ _ _ _ c.loop-test.true c.loop.invariant w.if-c-t.true)
  | else-c-t w ↦ rw (w.root-is, w.rem-is) (step_with _ _ _ _ _ c.loop-test.true c.loop.invariant w.if-c-t.false)
]

pub returns-then-root-rem : goal.returns-then-root-rem
returns-then-root-rem c = one_more _ _ _ c.requires.1 (whole c.before) c.if-root-rem.true

pub returns-else-root-rem : goal.returns-else-root-rem
returns-else-root-rem c = no_more _ _ _ (whole c.before) c.if-root-rem.false
