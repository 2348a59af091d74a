use Rattle.ground.specs.Settle.{told_by}
use Rattle.replaying.proofs.Laws.{joined}
use Rattle.replaying.proofs.gives_same.Goals as goal

pub returns : goal.returns
returns c =
    let s = c.settle_input-s in
    rw (← s.ensures, c.same_counts.ensures, c.same_end.ensures, c.same_lists.ensures)
    (joined c.args.head.now (told_by s.result) s.new.contacts s.new.points)
