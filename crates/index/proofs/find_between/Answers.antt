use Rattle.std.proofs.Common.{arith, sym, ◌∙◌}
use Rattle.sheet.specs.Scan.{first_next, first_stop, first_end}
use Rattle.index.proofs.find_between.Goals as goal

pub returns-then-spot_in : goal.returns-then-spot_in
returns-then-spot_in c = (omega arith, first_stop _ _ _ (omega arith) (sym c.spot_in.ensures ∙ c.if-spot_in.true) ∙ c.loop-i.invariant)

pub loop-i-preserved : goal.loop-i-preserved
loop-i-preserved c = first_next _ _ _ (omega arith) (sym c.spot_in.ensures ∙ c.if-spot_in.false) ∙ c.loop-i.invariant

pub returns : goal.returns
returns c = sym (first_end _ _ _ (omega arith) ∙ c.loop-i.invariant) ∙ omega arith
