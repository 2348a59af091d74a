use Rattle.sheet.proofs.Passed.{surface_2, surface_3, surface_6, surface_7}
use Rattle.sheet.proofs.Sheet.surface.Goals as goal

pub number-requires-clause-number : goal.number-requires-clause-number
number-requires-clause-number c = surface_2 _ _ c.self.invariant.ok (rw c.self.view_is c.requires)

pub number-requires-2-clause-number : goal.number-requires-2-clause-number
number-requires-2-clause-number c = surface_3 _ _ c.self.invariant.ok (rw c.self.view_is c.requires)

pub number-requires-3-clause-number : goal.number-requires-3-clause-number
number-requires-3-clause-number c = surface_6 _ _ c.self.invariant.ok (rw c.self.view_is c.requires)

pub number-requires-4-clause-number : goal.number-requires-4-clause-number
number-requires-4-clause-number c = surface_7 _ _ c.self.invariant.ok (rw c.self.view_is c.requires)
