use Rattle.aim.specs.Aim.{fits_of}
use Rattle.aim.proofs.Laws.{at_rest}
use Rattle.aim.proofs.fits.Goals as goal

pub returns : goal.returns
unfolding fits_of
returns c = rw (c.eq.ensures, at_rest _ c.args.s.now.outcome)
