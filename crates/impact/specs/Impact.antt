-- Definitions. One ball-turf impact, in the Rust's order of operations (ground.rs, fn impact). Each part is named in that order.
-- Assumes nothing.
use Rattle.std.specs.Prelude.{Float, cond}
use Rattle.std.specs.Float.Ieee.{neg, lt, le}
use Rattle.number.specs.Ops.{◌⊕◌, ◌⊗◌, ◌⊘◌, dec}
use Rattle.number.specs.Number.{min_of, abs_of, signum_of}
use Rattle.trigonometry.specs.Trig.{cosine_of, sine_of}
use Rattle.vector.specs.declared.DVec3.{DVec3}
use Rattle.vector.specs.Vec.{zero3, vadd, vsub, vscale, vdivs, vdot, vcross, vlength, vnormalize}
use Rattle.surface.specs.declared.Surface.{Surface}
use Rattle.surface.specs.declared.GroundSample.{GroundSample}
use Rattle.state.specs.declared.BallState.{BallState}
use Rattle.surface.specs.Surface.{contact_angle, coefficient_at}
use Rattle.aero.specs.declared.BallModel.{BallModel}
use Rattle.aero.specs.Aero.{radius_of}

-- t_hat: v / len if len > 0, else zero
unfoldable pub unit_or_zero : DVec3 → Float → DVec3
unit_or_zero v len = cond (lt (dec 0 1) len) (vdivs v len) zero3

-- n_eff, Penner's effective contact plane, from v_dot_n
unfoldable pub effective_normal : Surface → DVec3 → DVec3 → Float → DVec3
effective_normal surface n v v_dot_n =
    let v_t_vec = vsub v (vscale n v_dot_n) in
    let v_t = vlength v_t_vec in
    let beta = contact_angle surface v_t (neg v_dot_n) in
    let t_hat = unit_or_zero v_t_vec v_t in
    vsub (vscale n (cosine_of beta)) (vscale t_hat (sine_of beta))

-- j_t_vec, from the slip and the Coulomb limit mu_slide * j_n
unfoldable pub friction_impulse : DVec3 → Float → Float → DVec3
friction_impulse slip k limit =
    let slip_speed = vlength slip in
    let j_t = min_of (slip_speed ⊗ k ⊘ (dec 1 1 ⊕ k)) limit in
    cond (lt (dec 0 1) slip_speed) (vscale slip (neg j_t ⊘ slip_speed)) zero3

-- the spin after pivot friction about n, of at most the limit pivot * j_n / inertia
unfoldable pub pivoted : DVec3 → DVec3 → Float → DVec3
pivoted spin n limit =
    let w_n = vdot spin n in
    let dw = min_of (abs_of w_n) limit in
    vsub spin (vscale n (signum_of w_n ⊗ dw))

-- the state from n_eff and v_n_eff on, for a ball of this radius and inertia factor k
unfoldable pub struck : BallState → Surface → Float → Float → DVec3 → DVec3 → Float → BallState
struck state surface radius k n n_eff v_n_eff =
    let e = coefficient_at surface.restitution v_n_eff in
    let j_n = (dec 1 1 ⊕ e) ⊗ neg v_n_eff in
    let r = vscale n_eff (neg radius) in
    let slip = vadd (vsub state.vel (vscale n_eff v_n_eff)) (vcross state.spin r) in
    let j_t_vec = friction_impulse slip k (surface.mu_slide ⊗ j_n) in
    let inertia = k ⊗ radius ⊗ radius in
    record {
      time = state.time;
      pos = state.pos;
      vel = vadd (vadd state.vel (vscale n_eff j_n)) j_t_vec;
      spin = pivoted (vadd state.spin (vdivs (vcross r j_t_vec) inertia)) n (surface.pivot ⊗ j_n ⊘ inertia);
    }

-- GRAZING
abbrev pub grazing : Float
grazing = dec 1 1000000000000

-- fn impact: the given state if v·n ≥ -GRAZING × |v|, and if v·n_eff ≥ 0
unfoldable pub impact_of : BallState → GroundSample → BallModel → BallState
impact_of state at ball =
    let n = vnormalize at.normal in
    let v = state.vel in
    let v_dot_n = vdot v n in
    let n_eff = effective_normal at.surface n v v_dot_n in
    let v_n_eff = vdot v n_eff in
    cond (le (neg grazing ⊗ vlength v) v_dot_n) state
    (cond (le (dec 0 1) v_n_eff) state
    (struck state at.surface (radius_of ball) ball.inertia_factor n n_eff v_n_eff))
