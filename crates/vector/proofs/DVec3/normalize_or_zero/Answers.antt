use lib.Ieee.{of_bits, round}
use Rattle.vector.specs.Vec.{vnormalize_or_zero}
use Rattle.vector.proofs.DVec3.normalize_or_zero.Goals as goal
use Rattle.vector.proofs.DVec3.normalize_or_zero.Goals.{else-is_finite-via-then-is_finite+else-rcp, else-is_finite-via-else-is_finite}

pub returns-then-rcp : goal.returns-then-rcp
unfolding vnormalize_or_zero of_bits round
returns-then-rcp c = simp (← c.length-rcp.ensures, ← c.is_finite.ensures, c.if-is_finite.true, c.if-rcp.true, c.mul.ensures)

pub returns-else-is_finite : goal.returns-else-is_finite
unfolding vnormalize_or_zero of_bits round
returns-else-is_finite c = elim c.else-is_finite.branch [
  | else-is_finite-via-then-is_finite+else-rcp w ↦ simp (← c.length-rcp.ensures, ← c.is_finite.ensures, w.if-is_finite.true, w.if-rcp.false)
  | else-is_finite-via-else-is_finite w ↦ simp (← c.length-rcp.ensures, ← c.is_finite.ensures, w.if-is_finite.false)
]
