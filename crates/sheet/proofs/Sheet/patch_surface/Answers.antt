use Rattle.sheet.specs.Accepted.{number_below, patch_passed}
use Rattle.sheet.proofs.Sheet.patch_surface.Goals as goal

pub returns-clause-below : goal.returns-clause-below
returns-clause-below c =
    rw (c.whole.ensures, ← c.self.view_is)
    (number_below _ _ (patch_passed _ _ c.self.invariant.ok (rw c.self.view_is c.requires.patch.0) (rw c.self.view_is c.requires.patch.1)))
