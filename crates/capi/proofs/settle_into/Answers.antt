use Rattle.capi.proofs.Settling.{settles}
use Rattle.capi.proofs.settle_into.Goals as goal

pub returns : goal.returns
returns c = rw c.answer-answer.ensures (settles c.args.fading _ _ _ _ c.settle_input-s.ensures (rw c.answer-answer.ensures at c.write_result.ensures))
