use Rattle.std.proofs.Common.{arith}
use Rattle.index.specs.Index.{Around}
use Rattle.index.proofs.Boxes.{around_none, around_more}
use Rattle.index.proofs.is_around.Goals as goal

pub loop-k-init : goal.loop-k-init
loop-k-init c = around_none _ _ _ _ _ (omega arith)

pub loop-k-preserved : goal.loop-k-preserved
loop-k-preserved c = around_more _ _ _ _ _ c.loop-k.invariant c.encloses.ensures c.if-not-encloses.false

pub returns : goal.returns
unfolding Around
returns c e i l m = c.loop-k.invariant i l (omega arith)
