use Rattle.sheet.proofs.Passed.{patch_numbers}
use Rattle.sheet.proofs.Sheet.patch_number.Goals as goal

pub number-requires-clause-number : goal.number-requires-clause-number
number-requires-clause-number c =
    patch_numbers _ _ c.self.invariant.ok _ (rw c.self.view_is c.requires.patch.0) (rw c.self.view_is c.requires.patch.1) c.requires.number
