use Rattle.sheet.specs.Consts.{c1}
use Rattle.sheet.specs.Sheet.{patch_sample}
use Rattle.course.proofs.patch_sample.Goals as goal

pub returns : goal.returns
unfolding patch_sample
returns c = simp (
  ← c1,
  ← c.patch_number.ensures,
  ← c.patch_number-a.ensures,
  ← c.patch_number-b.ensures,
  ← c.surface.ensures,
  ← c.patch_surface-number.ensures.number,
)
