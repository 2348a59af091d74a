-- Definitions. Vectors of three doubles: what each operation of `DVec3` gives, in the order of its operations (document 01, Arithmetic).
-- Assumes nothing.
use Rattle.std.specs.Prelude.{Float, Bool, cond, ◌&&◌}
use Rattle.std.specs.Float.Ieee.{neg, lt, eq}
use Rattle.number.specs.Ops.{◌⊕◌, ◌⊖◌, ◌⊗◌, ◌⊘◌, dec}
use Rattle.number.specs.Number.{finite_of}
use Rattle.root.specs.Root.{root_of}
use Rattle.vector.specs.declared.DVec3.{DVec3}

-- DVec3::new
abbrev pub vec : Float → Float → Float → DVec3
vec a b c = record { x = a; y = b; z = c }

-- DVec3::ZERO, DVec3::Z
abbrev pub zero3 : DVec3
zero3 = vec (dec 0 1) (dec 0 1) (dec 0 1)

abbrev pub unit_z : DVec3
unit_z = vec (dec 0 1) (dec 0 1) (dec 1 1)

unfoldable pub vadd : DVec3 → DVec3 → DVec3
vadd v w = vec (v.x ⊕ w.x) (v.y ⊕ w.y) (v.z ⊕ w.z)

unfoldable pub vsub : DVec3 → DVec3 → DVec3
vsub v w = vec (v.x ⊖ w.x) (v.y ⊖ w.y) (v.z ⊖ w.z)

-- v × s and s × v
unfoldable pub vscale : DVec3 → Float → DVec3
vscale v s = vec (v.x ⊗ s) (v.y ⊗ s) (v.z ⊗ s)

-- v / s: each component is divided
unfoldable pub vdivs : DVec3 → Float → DVec3
vdivs v s = vec (v.x ⊘ s) (v.y ⊘ s) (v.z ⊘ s)

unfoldable pub vneg : DVec3 → DVec3
vneg v = vec (neg v.x) (neg v.y) (neg v.z)

-- 01: "dot = (x×x' + y×y') + z×z'"
unfoldable pub vdot : DVec3 → DVec3 → Float
vdot v w = (v.x ⊗ w.x ⊕ v.y ⊗ w.y) ⊕ v.z ⊗ w.z

-- 01: "cross x = y×z' − z×y', cyclic"
unfoldable pub vcross : DVec3 → DVec3 → DVec3
vcross v w = vec (v.y ⊗ w.z ⊖ v.z ⊗ w.y) (v.z ⊗ w.x ⊖ v.x ⊗ w.z) (v.x ⊗ w.y ⊖ v.y ⊗ w.x)

unfoldable pub vlength_squared : DVec3 → Float
vlength_squared v = vdot v v

-- 01: "length = root(dot)"
unfoldable pub vlength : DVec3 → Float
vlength v = root_of (vdot v v)

-- each component × (1 / length)
unfoldable pub vnormalize : DVec3 → DVec3
vnormalize v = vscale v (dec 1 1 ⊘ vlength v)

-- the same if 1 / length is finite and positive, else zero
unfoldable pub vnormalize_or_zero : DVec3 → DVec3
vnormalize_or_zero v =
    let rcp = dec 1 1 ⊘ vlength v in
    cond (finite_of rcp && lt (dec 0 1) rcp) (vscale v rcp) zero3

-- equality by value, Rust's `==`
unfoldable pub same_vec : DVec3 → DVec3 → Bool
same_vec v w = (eq v.x w.x && eq v.y w.y) && eq v.z w.z
