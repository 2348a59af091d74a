-- The run of an accepted shot, and what the caller sees of it.
use Rattle.ground.proofs.Whole.{limit_of, settled_whole}
use Rattle.ground.proofs.settle_with.Goals as goal

pub run-run-requires : goal.run-run-requires
run-run-requires c = limit_of _ _ _ _ c.requires c.conditions-c.ensures

pub returns : goal.returns
returns c =
    rw c.report.ensures
    (settled_whole _ _ _ _ c.run-run.result c.requires c.conditions-c.ensures c.zero_from.ensures c.zero_from-2.ensures c.run-run.ensures
    c.run-run.auto.contacts
    c.run-run.auto.points)
