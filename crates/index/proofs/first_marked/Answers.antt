use Rattle.std.proofs.Common.{arith}
use Rattle.index.proofs.Marks.{far, hit, after, empty}
use Rattle.index.proofs.first_marked.Goals as goal

pub returns-then-end-j : goal.returns-then-end-j
returns-then-end-j c = let h = far c.loop-m.invariant.1 (omega arith) c.if-end-j.true in omega (arith, h)

pub returns-then-spot_in : goal.returns-then-spot_in
returns-then-spot_in c = (omega arith, hit c.loop-m.invariant.1 c.if-end-j.false c.spot_in.ensures c.if-spot_in.true)

pub loop-m-preserved : goal.loop-m-preserved
loop-m-preserved c = (omega arith, after c.loop-m.invariant.1 c.if-end-j.false c.spot_in.ensures c.if-spot_in.false)

pub returns : goal.returns
returns c = let h = empty c.loop-m.invariant.1 (omega arith) (omega arith) in omega (arith, h)
