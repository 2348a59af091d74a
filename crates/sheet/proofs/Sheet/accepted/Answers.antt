use Rattle.std.proofs.Common.{arith}
use Rattle.sheet.specs.Accepted.{accepted}
use Rattle.sheet.proofs.Sheet.accepted.Goals as goal

pub half-requires : goal.half-requires
half-requires c = let h = accepted _ c.requires in omega arith

pub half-requires-2 : goal.half-requires-2
half-requires-2 c = let h = accepted _ c.requires in omega arith

pub invariant_of-result : goal.invariant_of-result
invariant_of-result c = record { ok = c.requires; surface_count = cc; patch_count = cc; header = accepted _ c.requires }
