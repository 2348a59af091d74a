use Rattle.refusal.proofs.Failed.{failed}
use Rattle.tally.specs.Language.{push_point}
use Rattle.tally.proofs.Reached.{begun, ended, passes, fails, last}
use Rattle.tally.proofs.Word.{point_pushed, no_point, had_room, had_none}
use Rattle.tally.proofs.Tally.push_point.Goals as goal

pub returns-in_err-under : goal.returns-in_err-under
unfolding push_point
returns-in_err-under c lc = rw (failed _ c.from_residual.ensures.1) (ended (fails _ _ begun (c.look.ensures lc _) c.in_err-under.was))

pub returns-in_err-self : goal.returns-in_err-self
unfolding push_point
returns-in_err-self c lc =
    let n = had_none _ _ (rw c.ok_or.ensures.value at c.in_err-self.was) in
    rw (failed _ c.from_residual-in_err-self.ensures.1, n.1)
    (last (passes _ _ begun (c.look.ensures lc _) c.in_ok-under.was) (no_point _ _ _ c.write_point-pushed.ensures n.0 _ lc))

pub returns : goal.returns
unfolding push_point
returns c lc = last (passes _ _ begun (c.look.ensures lc _) c.in_ok-under.was)
    (point_pushed _ _ _ c.write_point-pushed.ensures c.write_point-pushed.auto.points (had_room _ _ (rw c.ok_or.ensures.value at c.in_ok-self.was)) _ lc)
