use Rattle.sheet.specs.Consts.{c0, c1}
use Rattle.sheet.specs.Sheet.{plain_sample}
use Rattle.course.proofs.plain_sample.Goals as goal

pub returns : goal.returns
unfolding plain_sample
returns c = simp (← c.surface.ensures, ← c0, ← c1)
