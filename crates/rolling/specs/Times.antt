-- Statements. No ground step turns time back: a slide, a roll and a stop each take a time that is not below 0. A slide reaches its threshold within the step
-- (RootSearch), and from there takes at most what is left of it; the sum of the two, rounded, may lie above the step's length (`sum-above`). Assumes nothing.
use Rattle.std.specs.Prelude.{◌≡◌, refl, Bool, true, false, cond, negsuc, Float}
use Rattle.std.proofs.Math.Path.{subst}
use Rattle.std.proofs.Math.Dec.{T}
use Rattle.std.specs.Float.{fin, binary64}
use Rattle.std.specs.Float.Ieee.{fits, round, add, sub, neg, lt, le}
use Rattle.number.specs.Ops.{◌⊕◌, ◌⊖◌, ◌⊗◌, dec}
use Rattle.number.specs.Number.{min_of, max_of, finite_of}
use Rattle.number.specs.Order.{le_self, lt-le, within_of_lem, within_lo, within_hi, between_finite}
use Rattle.number.specs.Rounding.{add_mono}
use Rattle.number.specs.Against0.{NotBelow, not_below, Onward, sub_from_0, sub_shrinks, quotient_not_below, below_from_0, min_either}
use Rattle.vector.specs.declared.DVec3.{DVec3}
use Rattle.vector.specs.Vec.{zero3, vsub, vscale, vdivs, vdot, vlength, vnormalize, same_vec}
use Rattle.vector.specs.Length.{length_not_below}
use Rattle.surface.specs.declared.GroundSample.{GroundSample}
use Rattle.state.specs.declared.BallState.{BallState}
use Rattle.aero.specs.declared.BallModel.{BallModel}
use Rattle.aero.specs.Aero.{radius_of}
use Rattle.rk4.specs.declared.Motion.{Motion}
use Rattle.contact.specs.Contact.{slip_of, locked_of}
use Rattle.search.specs.Search.{Counted}
use Rattle.search.proofs.Evaluations.{Within, largest}
use Rattle.slide.specs.declared.Patch.{Patch}
use Rattle.rolling.specs.declared.Stepped.{Stepped}
use Rattle.slide.specs.declared.Slid.{Slid}
use Rattle.slide.specs.Slide.{slip_eps, min_switch_slip, patch_slip, slip_speed, slip_decay, slip_rate, time_to_roll, finish_of, turning, turned_at}
use Rattle.slide.specs.Slide.{finish_from, time_at_threshold, slide_to_threshold, slide_on_slope, slide_of}
use Rattle.rolling.specs.ContactStep.{patch_of, roll_patch_of, slide_step, heading_of, decel_of, stops_of, stop_time, rest_of, roll_on, roll_step, contact_step_of}
use Rattle.slide.specs.RootSearch.{slide_time_within}

either : {A : Type 0} (P : A → Type 0) (c : Bool) {a b : A} → (T c → P a) → P b → P (cond c a b)
either P true p q = p tt
either P false p q = q

0-finite : T (finite_of (dec 0 1))
unfolding round
0-finite = tt

zeros : dec 0 1 ⊕ dec 0 1 ≡ dec 0 1
unfolding add round
zeros = refl

0-not-below : NotBelow (dec 0 1)
0-not-below = not_below (dec 0 1) (le_self (dec 0 1) 0-finite)

-- ---- a stop

-- 01: "time is speed/a0". Not below 0 for every speed that is a length and every a0, ±0, below 0, an infinity and a NaN among them
pub stop_time_not_below : (v : DVec3) (a₀ : Float) → NotBelow (stop_time (vlength v) a₀)
unfolding stop_time
stop_time_not_below v a₀ = either NotBelow (lt (dec 0 1) a₀) (λ h. quotient_not_below (vlength v) a₀ (length_not_below v) h) 0-not-below

-- ---- a slide
abbrev From0 : Slid → Type 0
From0 r = T (le (dec 0 1) r.time)

module _ (p : Patch) where
  to_roll_lem : (v : DVec3) (rate : Float) → NotBelow (time_to_roll (vlength v) rate)
  unfolding time_to_roll
  to_roll_lem v rate = either NotBelow (lt (dec 0 1) rate) (λ h. quotient_not_below (vlength v) rate (length_not_below v) h) (unfold round in unfold lt in tt)

  lesser_within : (left y : Float) → T (finite_of left) → T (le (dec 0 1) left) → NotBelow y → Within (dec 0 1) left (min_of left y)
  lesser_within left y i h k =
      min_either (Within (dec 0 1) left) left y i (within_of_lem (dec 0 1) left left h (le_self left i))
      (λ l. within_of_lem (dec 0 1) left y (below_from_0 y left i k l) (lt-le y left l))

  -- fn slide, its closure `finish`: within what is left of the step
  pub finish_within : (s : Motion) (t left : Float) → T (finite_of left) → T (le (dec 0 1) left) → Within (dec 0 1) left (finish_of p s t left).time
  unfolding finish_of
  finish_within s t left i h =
      let u = patch_slip p s in
      either (λ (r : Slid). Within (dec 0 1) left r.time) (le (vlength u) slip_eps) (λ _. within_of_lem (dec 0 1) left (dec 0 1) (le_self (dec 0 1) 0-finite) h)
      (lesser_within left (time_to_roll (vlength u) (slip_rate p (vdivs u (vlength u)))) i h (to_roll_lem u (slip_rate p (vdivs u (vlength u)))))

  module _ (start : Motion) (t dt : Float) (f : T (fits binary64 dt)) (h : T (le (dec 0 1) dt)) (k : T (le dt largest)) where
    dt_finite : T (finite_of dt)
    dt_finite = between_finite (dec 0 1) largest dt 0-finite (unfold round in tt) h k

    finish_from_lem : (u_hat₀ : DVec3) (root : Counted Float) → Within (dec 0 1) dt root.0 → T (le (dec 0 1) (finish_from (turning p start t u_hat₀) dt root).time)
    unfolding finish_from
    finish_from_lem u_hat₀ root w =
        let tau = root.0 in
        let a = within_lo (dec 0 1) dt tau w in
        let b = within_hi (dec 0 1) dt tau w in
        let tf = between_finite (dec 0 1) dt tau 0-finite dt_finite a b in
        let l = sub_from_0 tau dt tf dt_finite b in
        let lf = between_finite (dec 0 1) dt (dt ⊖ tau) 0-finite dt_finite l (sub_shrinks dt tau f dt_finite tf a) in
        let mid = turned_at (turning p start t u_hat₀) tau in
        let e = finish_within mid (t ⊕ tau) (dt ⊖ tau) lf l in
        let y = (finish_of p mid (t ⊕ tau) (dt ⊖ tau)).time in
        let c = within_lo (dec 0 1) (dt ⊖ tau) y e in
        let yf = between_finite (dec 0 1) (dt ⊖ tau) y 0-finite lf c (within_hi (dec 0 1) (dt ⊖ tau) y e) in
        subst (λ (z : Float). T (le z (tau ⊕ y))) zeros (add_mono (dec 0 1) tau (dec 0 1) y 0-finite tf 0-finite yf a c)

    -- fn slide
    pub slide_time_from_0 : (roll_threshold : Float) → T (le (dec 0 1) (slide_of p start t dt roll_threshold).time)
    unfolding slide_of slide_on_slope slide_to_threshold
    slide_time_from_0 roll_threshold =
        let threshold = max_of roll_threshold min_switch_slip in
        let u₀ = patch_slip p start in
        let s₀ = vlength u₀ in
        let q = turning p start t (vdivs u₀ s₀) in
        let s_full = slip_speed p (turned_at q dt) in
        let flat = within_lo (dec 0 1) dt (finish_of p start t dt).time (finish_within start t dt dt_finite h) in
        either From0 (same_vec p.g_t zero3) (λ _. flat)
        (either From0 (le s₀ threshold) (λ _. flat)
        (either From0 (lt ((slip_decay p ⊕ vlength p.g_t) ⊗ dt) (s₀ ⊖ threshold)) (λ _. h)
        (either From0 (lt threshold s_full) (λ _. h)
        (finish_from_lem (vdivs u₀ s₀) (time_at_threshold q dt s₀ threshold s_full) (slide_time_within q dt s₀ threshold s_full f h k)))))

-- with dt = (2^52 + 5) / 2^59, about 0.0078, and tau = 3 / 2^60: tau ⊕ (dt ⊖ tau) is the next double above dt
pub sum_above : T (lt (fin false 4503599627370501 (negsuc 58)) (fin false 3 (negsuc 59) ⊕ (fin false 4503599627370501 (negsuc 58) ⊖ fin false 3 (negsuc 59))))
unfolding sub neg add round lt
sum_above = tt

-- ---- the step

-- the new time is the old one with what is not below 0 added
abbrev pub StepsOn : BallState → Stepped → Type 0
StepsOn state s = Onward state.time s.state.time

pub contact_step_onward : (state : BallState) (at : GroundSample) (ball : BallModel) (dt stop_speed roll_threshold : Float) → T (fits binary64 dt)
    → T (le (dec 0 1) dt) → T (le dt largest)
    → StepsOn state (contact_step_of state at ball dt stop_speed roll_threshold)
unfolding contact_step_of slide_step roll_step rest_of roll_on
contact_step_onward state at ball dt stop_speed roll_threshold f h k =
    let n = vnormalize at.normal in
    let radius = radius_of ball in
    let κ = ball.inertia_factor in
    let vel = vsub state.vel (vscale n (vdot state.vel n)) in
    let p = patch_of n at.surface radius κ (vdot state.spin n) in
    let q = roll_patch_of p at.surface in
    let locked = locked_of vel state.spin n radius κ in
    let speed = vlength locked.vel in
    let a₀ = decel_of q speed ⊖ vdot q.slope (heading_of q locked.vel speed) in
    let start : Motion = record { pos = state.pos; vel = vel; spin = state.spin } in
    let slid = (slide_of p start state.time dt roll_threshold).time in
    either (StepsOn state) (lt slip_eps (vlength (slip_of vel state.spin n radius)))
    (λ _. record { by = slid; forth = not_below slid (slide_time_from_0 p start state.time dt f h k roll_threshold); is = refl })
    (either (StepsOn state) (stops_of q speed a₀ dt stop_speed)
    (λ _. record { by = stop_time speed a₀; forth = stop_time_not_below locked.vel a₀; is = refl })
    (record { by = dt; forth = not_below dt h; is = refl }))
