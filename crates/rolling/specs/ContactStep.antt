-- Definitions. One ground step: ground.rs, fn contact_step. Assumes nothing.
use Rattle.std.specs.Prelude.{Float, Bool, true, cond, ◌&&◌}
use Rattle.std.specs.Float.Ieee.{neg, lt, le, eq}
use Rattle.number.specs.Ops.{◌⊕◌, ◌⊖◌, ◌⊗◌, ◌⊘◌, dec}
use Rattle.number.specs.Number.{max_of, signum_of}
use Rattle.vector.specs.declared.DVec3.{DVec3}
use Rattle.vector.specs.Vec.{zero3, vadd, vsub, vscale, vdivs, vdot, vcross, vlength, vnormalize, vnormalize_or_zero}
use Rattle.surface.specs.declared.Surface.{Surface}
use Rattle.surface.specs.declared.GroundSample.{GroundSample}
use Rattle.state.specs.declared.BallState.{BallState}
use Rattle.surface.specs.Surface.{rolling_friction}
use Rattle.aero.specs.declared.BallModel.{BallModel}
use Rattle.aero.specs.Aero.{radius_of, g_of}
use Rattle.rk4.specs.declared.Motion.{Motion}
use Rattle.rk4.specs.Rk4.{step_state_of}
use Rattle.contact.specs.declared.Locked.{Locked}
use Rattle.contact.specs.Contact.{slip_of, locked_of, saturated, tangential_gravity, holds_at_rest}
use Rattle.slide.specs.declared.Patch.{Patch}
use Rattle.rolling.specs.declared.Stepped.{Stepped}
use Rattle.slide.specs.declared.Slid.{Slid}
use Rattle.state.specs.declared.Phase.TheVariants.{Slide, Roll}
use Rattle.slide.specs.Slide.{slip_eps, slide_of}

-- `pivot_accel`: pivot friction against the spin w about the normal
unfoldable pub pivot_accel : Float → Float → Float → Float → DVec3 → DVec3
pivot_accel w pivot g_n inertia n = cond (eq w (dec 0 1)) zero3 (vscale n (neg (signum_of w) ⊗ pivot ⊗ g_n ⊘ inertia))

-- ---- sliding

-- `patch`, for a ball of radius and inertia factor k with the spin w about the normal
unfoldable pub patch_of : DVec3 → Surface → Float → Float → Float → Patch
patch_of n surface radius k w =
    let g_n = g_of ⊗ n.y in
    record {
      n = n;
      g_t = tangential_gravity n;
      friction = surface.mu_slide ⊗ g_n;
      radius = radius;
      k = k;
      pivot_accel = pivot_accel w surface.pivot g_n (k ⊗ radius ⊗ radius) n;
    }

-- velocity and spin after a slide: a ball whose slip reached zero is locked to rolling
unfoldable pub slid_to : Patch → DVec3 → Slid → Locked
slid_to p spin end =
    let w = saturated spin end.motion.spin p.n in
    cond end.rolls (locked_of end.motion.vel w p.n p.radius p.k) (record { vel = end.motion.vel; spin = w })

-- the step of a ball that slides, with its velocity along the ground
unfoldable pub slide_step : Patch → BallState → DVec3 → Float → Float → Stepped
slide_step p state vel dt roll_threshold =
    let end = slide_of p (record { pos = state.pos; vel = vel; spin = state.spin }) state.time dt roll_threshold in
    let out = slid_to p state.spin end in
    record {
      state = record { time = state.time ⊕ end.time; pos = end.motion.pos; vel = out.vel; spin = out.spin };
      phase = Slide;
      rolling = end.rolls;
      evaluations = end.evaluations;
    }

-- ---- rolling

-- what stays the same over a step of a ball that rolls
pub record RollPatch : Type 0 where
  pub n : DVec3
  pub surface : Surface
  pub g_n : Float
  pub slope : DVec3
  pub downhill : DVec3
  pub radius : Float
  pub k : Float
  pub pivot_accel : DVec3

unfoldable pub roll_patch_of : Patch → Surface → RollPatch
roll_patch_of p surface =
    let slope = vdivs p.g_t (dec 1 1 ⊕ p.k) in
    record {
      n = p.n;
      surface = surface;
      g_n = g_of ⊗ p.n.y;
      slope = slope;
      downhill = vnormalize_or_zero slope;
      radius = p.radius;
      k = p.k;
      pivot_accel = p.pivot_accel;
    }

-- the closure `decel`
unfoldable pub decel_of : RollPatch → Float → Float
decel_of q v = rolling_friction q.surface v ⊗ q.g_n ⊘ (dec 1 1 ⊕ q.k)

-- `heading`: the direction of motion, or the way the slope pulls
unfoldable pub heading_of : RollPatch → DVec3 → Float → DVec3
heading_of q vel speed = cond (lt slip_eps speed) (vdivs vel speed) q.downhill

-- `stops`
unfoldable pub stops_of : RollPatch → Float → Float → Float → Float → Bool
stops_of q speed a₀ dt stop_speed =
    cond (le speed slip_eps) (holds_at_rest q.n q.surface) (le (dec 0 1) a₀ && le speed (max_of stop_speed (a₀ ⊗ dt)))

-- `t_stop`: it may be longer than dt
unfoldable pub stop_time : Float → Float → Float
stop_time speed a₀ = cond (lt (dec 0 1) a₀) (speed ⊘ a₀) (dec 0 1)

-- `rest`, after the time t: the slope's pull across the motion bends the last stretch
unfoldable pub rest_pos : RollPatch → DVec3 → DVec3 → DVec3 → Float → DVec3
rest_pos q pos vel heading t =
    let across = vsub q.slope (vscale heading (vdot q.slope heading)) in
    vadd (vadd pos (vscale vel (dec 1 2 ⊗ t))) (vscale across (dec 1 2 ⊗ t ⊗ t))

-- `spin_rest`, from the spin w about the normal
unfoldable pub rest_spin : RollPatch → Float → Float → DVec3
rest_spin q w t =
    let spin_n = vscale q.n w in
    saturated spin_n (vadd spin_n (vscale q.pivot_accel t)) q.n

unfoldable pub rest_of : RollPatch → BallState → DVec3 → DVec3 → Float → Float → Stepped
rest_of q state vel heading w t =
    record {
      state = record { time = state.time ⊕ t; pos = rest_pos q state.pos vel heading t; vel = zero3; spin = rest_spin q w t };
      phase = Roll;
      rolling = true;
      evaluations = 0;
    }

-- the derivative of a ball that rolls
unfoldable pub resistance_of : RollPatch → DVec3 → DVec3
resistance_of q vel =
    let v = vlength vel in
    cond (lt slip_eps v) (vdivs (vscale vel (neg (decel_of q v))) v) (vscale q.downhill (neg (decel_of q (dec 0 1))))

unfoldable pub roll_rate : RollPatch → Motion → Motion
roll_rate q s =
    let dv = vadd (resistance_of q s.vel) q.slope in
    record { pos = s.vel; vel = dv; spin = vadd (vdivs (vcross q.n dv) q.radius) q.pivot_accel }

-- one RK4 step of a ball that rolls
unfoldable pub roll_by : RollPatch → Motion → Float → Float → Motion
roll_by q s t dt = step_state_of (λ s _. roll_rate q s) s t dt

-- the spin after it: locked to the velocity, with the spin about the normal that pivot friction leaves
unfoldable pub rolled_spin : RollPatch → DVec3 → Motion → DVec3
rolled_spin q spin m =
    let spin_n = vscale q.n (vdot (saturated spin m.spin q.n) q.n) in
    vadd (vdivs (vcross q.n m.vel) q.radius) spin_n

-- the step of a ball that rolls on, from the velocity and spin locked to rolling
unfoldable pub roll_on : RollPatch → BallState → Locked → Float → Stepped
roll_on q state locked dt =
    let m = roll_by q (record { pos = state.pos; vel = locked.vel; spin = locked.spin }) state.time dt in
    record {
      state = record { time = state.time ⊕ dt; pos = m.pos; vel = m.vel; spin = rolled_spin q locked.spin m };
      phase = Roll;
      rolling = true;
      evaluations = 0;
    }

-- the step of a ball that rolls, with the spin w about the normal
unfoldable pub roll_step : RollPatch → BallState → Locked → Float → Float → Float → Stepped
roll_step q state locked w dt stop_speed =
    let speed = vlength locked.vel in
    let heading = heading_of q locked.vel speed in
    let a₀ = decel_of q speed ⊖ vdot q.slope heading in
    cond (stops_of q speed a₀ dt stop_speed) (rest_of q state locked.vel heading w (stop_time speed a₀)) (roll_on q state locked dt)

-- ---- the step

-- ground.rs, fn contact_step: the ball slides where `slip_speed > SLIP_EPS`, and rolls elsewhere
unfoldable pub contact_step_of : BallState → GroundSample → BallModel → Float → Float → Float → Stepped
contact_step_of state at ball dt stop_speed roll_threshold =
    let n = vnormalize at.normal in
    let radius = radius_of ball in
    let k = ball.inertia_factor in
    let vel = vsub state.vel (vscale n (vdot state.vel n)) in
    let w = vdot state.spin n in
    let p = patch_of n at.surface radius k w in
    cond (lt slip_eps (vlength (slip_of vel state.spin n radius))) (slide_step p state vel dt roll_threshold)
    (roll_step (roll_patch_of p at.surface) state (locked_of vel state.spin n radius k) w dt stop_speed)
