use native.Mathlib.Omega.{arith}
use Rattle.std.proofs.Common.{◌-◌, ◌*◌, ◌%◌, ◌^◌}
use Rattle.root.proofs.Aligning.{Moved, normal, place, moved, subnormal}
use Rattle.root.proofs.aligned.Goals as goal
use Rattle.root.proofs.aligned.Goals.{After-ilog2-j}

pub returns-then-b-ge-FIELD : goal.returns-then-b-ge-FIELD
returns-then-b-ge-FIELD c = normal _ c.if-b-ge-FIELD.true c.requires.1

up : (c : After-ilog2-j) → Moved c.args.b (c.args.b * 2 ^ (52 - c.ilog2-j.result) % 18446744073709551616) (52 - c.ilog2-j.result)
up c = moved _ _ c.ilog2-j.ensures.power_le c.ilog2-j.ensures.next_power_gt (omega arith)

pub overflow_sub-j : goal.overflow_sub-j
overflow_sub-j c = omega (arith, place _ _ c.ilog2-j.ensures.power_le (omega arith))

pub overflow_sub-result : goal.overflow_sub-result
overflow_sub-result c = omega (arith, up c)

pub overflow_add-result-2 : goal.overflow_add-result-2
overflow_add-result-2 c = omega (arith, up c)

pub returns : goal.returns
returns c = subnormal _ _ _ (omega arith) (up c)
