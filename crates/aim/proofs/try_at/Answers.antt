use Rattle.std.proofs.Common.{sym}
use Rattle.aim.proofs.Laws.{hits, misses}
use Rattle.aim.proofs.try_at.Goals as goal

pub returns-then-fits : goal.returns-then-fits
returns-then-fits c =
    hits _ c.args.shot.now _ _ _ _ _ c.requires c.shot_from.ensures c.settle_with-settled.ensures (sym c.if-fits.ensures)

pub returns : goal.returns
returns c =
    misses _ c.args.shot.now _ _ _ _ _ c.requires c.shot_from.ensures c.settle_with-settled.ensures (sym c.if-fits.ensures)
