-- Definitions. A ball on the ground: slip, rolling, gravity along the slope, rest, and whether hops die out (ground.rs).
-- Assumes nothing.
use Rattle.std.specs.Prelude.{Float, Bool, true, cond, ◌&&◌, ◌||◌}
use Rattle.std.specs.Float.Ieee.{neg, le, eq, ne}
use Rattle.number.specs.Ops.{◌⊕◌, ◌⊖◌, ◌⊗◌, ◌⊘◌, dec}
use Rattle.number.specs.Number.{signum_of}
use Rattle.vector.specs.Vec.{vec, zero3, vadd, vsub, vscale, vdivs, vdot, vcross, vlength, vlength_squared, vnormalize, same_vec}
use Rattle.vector.specs.declared.DVec3.{DVec3}
use Rattle.state.specs.declared.BallState.{BallState}
use Rattle.surface.specs.declared.GroundSample.{GroundSample}
use Rattle.surface.specs.declared.Surface.{Surface}
use Rattle.aero.specs.Aero.{gravity, g_of, radius_of}
use Rattle.aero.specs.declared.BallModel.{BallModel}
use Rattle.contact.specs.declared.Locked.{Locked}

-- the part of v along the plane with unit normal n: `v - v.dot(n) * n`
unfoldable pub tangent : DVec3 → DVec3 → DVec3
tangent v n = vsub v (vscale n (vdot v n))

-- fn slip: `(vel - vel.dot(n) * n) + spin.cross(-radius * n)`
unfoldable pub slip_of : DVec3 → DVec3 → DVec3 → Float → DVec3
slip_of vel spin n radius = vadd (tangent vel n) (vcross spin (vscale n (neg radius)))

-- fn lock_rolling
unfoldable pub locked_of : DVec3 → DVec3 → DVec3 → Float → Float → Locked
locked_of vel spin n radius k =
    let u = slip_of vel spin n radius in
    record {
      vel = vsub vel (vscale u (k ⊘ (dec 1 1 ⊕ k)));
      spin = vadd spin (vdivs (vcross n u) ((dec 1 1 ⊕ k) ⊗ radius));
    }

-- fn saturate_pivot: `w0 == 0.0 || w0.signum() != w1.signum()`
unfoldable pub saturated : DVec3 → DVec3 → DVec3 → DVec3
saturated start end n =
    let w0 = vdot start n in
    let w1 = vdot end n in
    cond (eq w0 (dec 0 1) || ne (signum_of w0) (signum_of w1)) (vsub end (vscale n w1)) end

-- fn tangential_gravity: `GRAVITY - GRAVITY.dot(n) * n`
unfoldable pub tangential_gravity : DVec3 → DVec3
tangential_gravity n = tangent gravity n

-- fn onto_surface, its spin where the ball rolls: `n.cross(out.vel) / radius + w_n * n`
unfoldable pub relocked : DVec3 → DVec3 → DVec3 → DVec3 → Float → DVec3
relocked spin vel n prev radius = vadd (vdivs (vcross n vel) radius) (vscale n (vdot spin (vnormalize prev)))

-- fn onto_surface: state, sample, normal that the step was taken on, whether the ball rolls, radius
unfoldable pub onto_of : BallState → GroundSample → DVec3 → Bool → Float → BallState
onto_of state at prev rolling radius =
    let n = vnormalize at.normal in
    let vel = tangent state.vel n in
    cond (same_vec at.normal prev && eq state.pos.y at.height) state
    (record {
      time = state.time;
      pos = vec state.pos.x at.height state.pos.z;
      vel = vel;
      spin = cond rolling (relocked state.spin vel n prev radius) state.spin;
    })

-- fn holds_at_rest, for a unit normal n
unfoldable pub holds_at_rest : DVec3 → Surface → Bool
holds_at_rest n surface = le (vlength (tangential_gravity n)) (surface.mu_roll ⊗ g_of ⊗ n.y)

-- GroundSample::holds_at_rest
unfoldable pub sample_holds : GroundSample → Bool
sample_holds at = holds_at_rest (vnormalize at.normal) at.surface

-- fn hops_die_out, `returned`: the energy per mass that the hop gives back
unfoldable pub returned_by : BallState → BallState → Float
returned_by rebound next = dec 5 10 ⊗ (vlength_squared next.vel ⊖ vlength_squared rebound.vel)

-- fn hops_die_out, `spin_inertia`
unfoldable pub spin_inertia : BallModel → Float
spin_inertia ball = ball.inertia_factor ⊗ radius_of ball ⊗ radius_of ball

-- fn hops_die_out, its closure energy, at a spin inertia
unfoldable pub energy_of : Float → BallState → Float
energy_of inertia s = dec 5 10 ⊗ vlength_squared s.vel ⊕ dec 5 10 ⊗ inertia ⊗ vlength_squared s.spin

-- fn hops_die_out: arrival, rebound, next arrival, unit normal, ball, min_hop_height
unfoldable pub hops_die_out : BallState → BallState → BallState → DVec3 → BallModel → Float → Bool
hops_die_out arrival rebound next n ball least =
    let returned = returned_by rebound next in
    let inertia = spin_inertia ball in
    let removed = energy_of inertia arrival ⊖ energy_of inertia rebound in
    cond (same_vec (tangential_gravity n) zero3) true
    (cond (le returned (dec 0 1)) true (le (g_of ⊗ least) (removed ⊖ returned)))
