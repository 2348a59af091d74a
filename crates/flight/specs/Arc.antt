-- Definitions. The path of a ball within one step of a hop, and the time of its fall (ground.rs).
-- Assumes nothing.
use Rattle.std.specs.Prelude.{T, Float, false, cond, ◌&&◌}
use Rattle.std.specs.Float.{binary64}
use Rattle.std.specs.Float.Ieee.{fits, le}
use Rattle.std.specs.Float.Ieee.Fits.{cond-fits, round-fits, div-fits}
use Rattle.number.specs.Ops.{◌⊕◌, ◌⊖◌, ◌⊗◌, ◌⊘◌, dec}
use Rattle.number.specs.Number.{max_of}
use Rattle.root.specs.Root.{root_of}
use Rattle.vector.specs.Vec.{vadd, vsub, vscale}
use Rattle.vector.specs.declared.DVec3.{DVec3}
use Rattle.aero.specs.Aero.{gravity, g_of}
use Rattle.rk4.specs.declared.State.{State}

-- fn hermite, `pos`: position and velocity at the start, chord, velocity at the end, h, u = tau / h
unfoldable pub hermite_pos : DVec3 → DVec3 → DVec3 → DVec3 → Float → Float → DVec3
hermite_pos pos vel chord end_vel h u =
    let u2 = u ⊗ u in
    let u3 = u ⊗ u ⊗ u in
    vadd
    (vadd (vadd pos (vscale vel ((u3 ⊖ dec 2 1 ⊗ u2 ⊕ u) ⊗ h))) (vscale chord (dec 3 1 ⊗ u2 ⊖ dec 2 1 ⊗ u3)))
    (vscale end_vel ((u3 ⊖ u2) ⊗ h))

-- fn hermite, `vel`: velocity at the start, chord, velocity at the end, h, u = tau / h
unfoldable pub hermite_vel : DVec3 → DVec3 → DVec3 → Float → Float → DVec3
hermite_vel vel chord end_vel h u =
    let u2 = u ⊗ u in
    vadd
    (vadd (vscale vel (dec 3 1 ⊗ u2 ⊖ dec 4 1 ⊗ u ⊕ dec 1 1)) (vscale chord ((dec 6 1 ⊗ u ⊖ dec 6 1 ⊗ u2) ⊘ h)))
    (vscale end_vel (dec 3 1 ⊗ u2 ⊖ dec 2 1 ⊗ u))

-- fn hermite: the states a and b a time h apart, at tau
unfoldable pub hermite_of : State → State → Float → Float → State
hermite_of a b h tau =
    let u = tau ⊘ h in
    let chord = vsub b.pos a.pos in
    record { pos = hermite_pos a.pos a.vel chord b.vel h u; vel = hermite_vel a.vel chord b.vel h u }

-- GroundPhysics::hop, the arc without air: `s.pos + s.vel * tau + 0.5 * GRAVITY * tau * tau`, `s.vel + GRAVITY * tau`
unfoldable pub parabola_of : State → Float → State
parabola_of s tau =
    record {
      pos = vadd (vadd s.pos (vscale s.vel tau)) (vscale (vscale (vscale gravity (dec 5 10)) tau) tau);
      vel = vadd s.vel (vscale gravity tau);
    }

-- fn drop_time
unfoldable pub drop_time : Float → Float → Float
drop_time height vy =
    let above = max_of height (dec 0 1) in
    let disc = root_of (vy ⊗ vy ⊕ dec 2 1 ⊗ g_of ⊗ above) in
    cond (le height (dec 0 1) && le vy (dec 0 1)) (dec 0 1)
    (cond (le (dec 0 1) vy) ((vy ⊕ disc) ⊘ g_of) (dec 2 1 ⊗ above ⊘ (disc ⊖ vy)))

-- it is a double, or a NaN
pub drop_fits : (height vy : Float) → T (fits binary64 (drop_time height vy))
unfolding drop_time
drop_fits height vy =
    let above = max_of height (dec 0 1) in
    let disc = root_of (vy ⊗ vy ⊕ dec 2 1 ⊗ g_of ⊗ above) in
    let rising = le (dec 0 1) vy in
    let up = (vy ⊕ disc) ⊘ g_of in
    let down = dec 2 1 ⊗ above ⊘ (disc ⊖ vy) in
    cond-fits binary64 (le height (dec 0 1) && le vy (dec 0 1)) (dec 0 1) (cond rising up down) (round-fits binary64 false 0 1)
    (cond-fits binary64 rising up down (div-fits binary64 (vy ⊕ disc) g_of) (div-fits binary64 (dec 2 1 ⊗ above) (disc ⊖ vy)))
