use mathlib.Core.Path.{◌∙◌}
use native.Mathlib.Omega.{arith}
use Rattle.slide.proofs.Stages.{begun, goes_on, found, ended_at}
use Rattle.slide.proofs.SlopeSlide.time_at_threshold.Goals as goal

pub loop-made-init : goal.loop-made-init
loop-made-init c = begun _ _ _ c.start_search-s.ensures

pub loop-made-preserved : goal.loop-made-preserved
loop-made-preserved c =
    goes_on _ _ _ c.loop-made-test.true c.in_bracket-x.ensures c.above.ensures c.narrow.ensures c.in-Continue.is ∙ c.loop-made.invariant

pub returns-in-Break : goal.returns-in-Break
returns-in-Break c =
    found _ _ _ c.loop-made-test.true c.in_bracket-x.ensures c.above.ensures c.narrow.ensures c.in-Break.is ∙ c.loop-made.invariant

pub returns : goal.returns
returns c = ended_at _ _ _ (omega arith) c.loop-made.invariant
