use Rattle.listen.proofs.Laws.{times_and}
use Rattle.listen.proofs.all_times_ok.Goals as goal

pub returns : goal.returns
returns c = times_and _ _ _ c.times_ok.ensures c.times_ok-2.ensures
