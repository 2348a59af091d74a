use Rattle.tally.proofs.Word.{tested_good, tested_bad}
use Rattle.tally.proofs.Tally.test.Goals as goal

pub returns-then-not-state_ok : goal.returns-then-not-state_ok
returns-then-not-state_ok c = tested_bad _ c.state_ok.ensures c.if-not-state_ok.true

pub returns : goal.returns
returns c = tested_good _ c.state_ok.ensures c.if-not-state_ok.false
