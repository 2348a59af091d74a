-- Definitions. A ball that slides on one ground sample: ground.rs, Patch and fn slide. Assumes nothing.
use Rattle.std.specs.Prelude.{Float, true, false, cond}
use Rattle.std.specs.Float.{inf}
use Rattle.std.specs.Float.Ieee.{neg, lt, le}
use Rattle.number.specs.Ops.{◌⊕◌, ◌⊖◌, ◌⊗◌, ◌⊘◌, dec}
use Rattle.number.specs.Number.{min_of, max_of}
use Rattle.vector.specs.declared.DVec3.{DVec3}
use Rattle.vector.specs.Vec.{zero3, vadd, vscale, vdivs, vdot, vcross, vlength, same_vec}
use Rattle.rk4.specs.declared.Motion.{Motion}
use Rattle.rk4.specs.Rk4.{step_state_of}
use Rattle.contact.specs.Contact.{slip_of}
use Rattle.search.specs.Search.{find_root, Counted, counting, counted}
use Rattle.slide.specs.declared.Patch.{Patch}
use Rattle.slide.specs.declared.Slid.{Slid}
use Rattle.slide.specs.declared.Turning.{Turning}

-- `SLIP_EPS`
abbrev pub slip_eps : Float
slip_eps = dec 1 1000000000

-- `MIN_SWITCH_SLIP`
abbrev pub min_switch_slip : Float
min_switch_slip = dec 1 1000000

-- `-self.friction * u_hat + self.g_t`
unfoldable pub slide_accel : Patch → DVec3 → DVec3
slide_accel p u_hat = vadd (vscale u_hat (neg p.friction)) p.g_t

-- `self.friction * self.n.cross(u_hat) / (self.k * self.radius) + self.pivot_accel`
unfoldable pub slide_spin_accel : Patch → DVec3 → DVec3
slide_spin_accel p u_hat = vadd (vdivs (vscale (vcross p.n u_hat) p.friction) (p.k ⊗ p.radius)) p.pivot_accel

-- Patch::slide_rate
unfoldable pub slide_rate : Patch → Motion → DVec3 → Motion
slide_rate p s u_hat = record { pos = s.vel; vel = slide_accel p u_hat; spin = slide_spin_accel p u_hat }

-- the derivative in Patch::slide_fixed: both accelerations are worked out once
unfoldable pub fixed_rate : DVec3 → DVec3 → Motion → Motion
fixed_rate accel spin_accel s = record { pos = s.vel; vel = accel; spin = spin_accel }

-- Patch::slide_fixed
unfoldable pub slide_fixed : Patch → Motion → Float → Float → DVec3 → Motion
slide_fixed p s t h u_hat = step_state_of (λ s _. fixed_rate (slide_accel p u_hat) (slide_spin_accel p u_hat) s) s t h

-- the contact slip of a motion
unfoldable pub patch_slip : Patch → Motion → DVec3
patch_slip p s = slip_of s.vel s.spin p.n p.radius

-- the derivative in Patch::slide_turning: the slip direction of the stage, or the fallback where the slip vanishes
unfoldable pub turning_rate : Patch → DVec3 → Motion → Motion
turning_rate p fallback s =
    let u = patch_slip p s in
    let len = vlength u in
    slide_rate p s (cond (lt slip_eps len) (vdivs u len) fallback)

-- Patch::slide_turning
unfoldable pub slide_turning : Patch → Motion → Float → Float → DVec3 → Motion
slide_turning p s t h fallback = step_state_of (λ s _. turning_rate p fallback s) s t h

-- Patch::slip_speed
unfoldable pub slip_speed : Patch → Motion → Float
slip_speed p s = vlength (patch_slip p s)

-- fn slide, `c`: `(1.0 + patch.k) / patch.k * patch.friction`
unfoldable pub slip_decay : Patch → Float
slip_decay p = (dec 1 1 ⊕ p.k) ⊘ p.k ⊗ p.friction

-- fn slide, `rate` and `rate0`: c less the slope's pull along the slip
unfoldable pub slip_rate : Patch → DVec3 → Float
slip_rate p u_hat = slip_decay p ⊖ vdot p.g_t u_hat

-- fn slide, `to_roll`: the time to zero slip from the slip speed len
unfoldable pub time_to_roll : Float → Float → Float
time_to_roll len rate = cond (lt (dec 0 1) rate) (len ⊘ rate) (inf false)

-- fn slide, its closure `finish`
unfoldable pub finish_of : Patch → Motion → Float → Float → Slid
finish_of p s t left =
    let u = patch_slip p s in
    let len = vlength u in
    let u_hat = vdivs u len in
    let to_roll = time_to_roll len (slip_rate p u_hat) in
    let h = min_of left to_roll in
    cond (le len slip_eps)
    (record { motion = s; time = dec 0 1; rolls = true; evaluations = 0 })
    (record { motion = slide_fixed p s t h u_hat; time = h; rolls = le to_roll left; evaluations = 0 })

-- a slide on a slope, whose slip direction turns: from where, when and in what slip direction it starts
abbrev pub turning : Patch → Motion → Float → DVec3 → Turning
turning p start t u_hat₀ = record { patch = p; start = start; t = t; u_hat0 = u_hat₀ }

-- fn slide, `patch.slide_turning(&start, t, tau, u_hat0)`
abbrev pub turned_at : Turning → Float → Motion
turned_at q tau = slide_turning q.patch q.start q.t tau q.u_hat0

-- fn slide, its closure `above`: the slip speed at tau less the threshold
unfoldable pub above_of : Turning → Float → Float → Float
above_of q threshold tau = slip_speed q.patch (turned_at q tau) ⊖ threshold

-- fn slide, `guess`
unfoldable pub guess_of : Float → Float → Float → Float
guess_of over rate dt = cond (lt (dec 0 1) rate) (over ⊘ rate) dt

-- fn slide, `tau`: where the slip speed, s₀ at 0 and s_full at dt, reaches the threshold, and the evaluations made
abbrev pub time_at_threshold : Turning → Float → Float → Float → Float → Counted Float
time_at_threshold q dt s₀ threshold s_full =
    find_root counting (counted (above_of q threshold))
    (record { lo = dec 0 1; f_lo = s₀ ⊖ threshold; hi = dt; f_hi = s_full ⊖ threshold })
    (guess_of (s₀ ⊖ threshold) (slip_rate q.patch q.u_hat0) dt)

-- fn slide, from `let tau` on: slide to tau with the direction turning, then finish along the direction there
unfoldable pub finish_from : Turning → Float → Counted Float → Slid
finish_from q dt root =
    let tau = root.0 in
    let end = finish_of q.patch (turned_at q tau) (q.t ⊕ tau) (dt ⊖ tau) in
    record { motion = end.motion; time = tau ⊕ end.time; rolls = end.rolls; evaluations = root.1 }

-- fn slide, from `let full` on: a full step, or the step to the threshold and on from there
unfoldable pub slide_to_threshold : Turning → Float → Float → Float → Slid
slide_to_threshold q dt s₀ threshold =
    let full = turned_at q dt in
    let s_full = slip_speed q.patch full in
    cond (lt threshold s_full)
    (record { motion = full; time = dt; rolls = false; evaluations = 0 })
    (finish_from q dt (time_at_threshold q dt s₀ threshold s_full))

-- fn slide, on a slope and above the threshold: at the rate `fastest` the slip may not reach the threshold within dt
unfoldable pub slide_on_slope : Turning → Float → Float → Float → Slid
slide_on_slope q dt s₀ threshold =
    cond (lt ((slip_decay q.patch ⊕ vlength q.patch.g_t) ⊗ dt) (s₀ ⊖ threshold))
    (record { motion = turned_at q dt; time = dt; rolls = false; evaluations = 0 })
    (slide_to_threshold q dt s₀ threshold)

-- fn slide
unfoldable pub slide_of : Patch → Motion → Float → Float → Float → Slid
slide_of p start t dt roll_threshold =
    let threshold = max_of roll_threshold min_switch_slip in
    let u₀ = patch_slip p start in
    let s₀ = vlength u₀ in
    cond (same_vec p.g_t zero3) (finish_of p start t dt)
    (cond (le s₀ threshold) (finish_of p start t dt)
    (slide_on_slope (turning p start t (vdivs u₀ s₀)) dt s₀ threshold))
