use Rattle.std.proofs.Common.{arith}
use Rattle.text.specs.Text.{word_of}
use Rattle.text.proofs.put_termination.Goals as goal

pub returns-in_default : goal.returns-in_default
unfolding word_of
returns-in_default c = rw c.in_default.is (record { adds = c.put.ensures; most = omega arith })

pub returns-in-Rest : goal.returns-in-Rest
unfolding word_of
returns-in-Rest c = rw (c.in-Some.is, c.in-Rest.is) (record { adds = c.put-in-Rest.ensures; most = omega arith })

pub returns-in-MaxTime : goal.returns-in-MaxTime
unfolding word_of
returns-in-MaxTime c = rw (c.in-Some.is, c.in-MaxTime.is) (record { adds = c.put-in-MaxTime.ensures; most = omega arith })

pub returns-in-MaxImpacts : goal.returns-in-MaxImpacts
unfolding word_of
returns-in-MaxImpacts c = rw (c.in-Some.is, c.in-MaxImpacts.is) (record { adds = c.put-in-MaxImpacts.ensures; most = omega arith })
