-- Lemmas. A vector's length is never below 0: it is a NaN, or from 0 on. Assumes nothing.
use Rattle.number.specs.Against0.{NotBelow}
use Rattle.root.specs.Finite.{root_not_below}
use Rattle.vector.specs.declared.DVec3.{DVec3}
use Rattle.vector.specs.Vec.{vdot, vlength}

pub length_not_below : (v : DVec3) → NotBelow (vlength v)
unfolding vlength
length_not_below v = root_not_below (vdot v v)
