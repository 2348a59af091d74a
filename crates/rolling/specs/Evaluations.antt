-- Statements. A ground step makes at most 200 evaluations. Assumes nothing.
use Rattle.std.specs.Prelude.{◌≤◌, Bool, true, false, cond, Float}
use Rattle.std.proofs.Common.{arith}
use Rattle.std.specs.Float.Ieee.{lt}
use Rattle.number.specs.Ops.{◌⊖◌}
use Rattle.vector.specs.Vec.{vsub, vscale, vdot, vlength, vnormalize}
use Rattle.surface.specs.declared.GroundSample.{GroundSample}
use Rattle.state.specs.declared.BallState.{BallState}
use Rattle.aero.specs.declared.BallModel.{BallModel}
use Rattle.aero.specs.Aero.{radius_of}
use Rattle.contact.specs.Contact.{slip_of, locked_of}
use Rattle.slide.specs.Slide.{slip_eps}
use Rattle.slide.specs.RootSearch.{slide_at_most_200}
use Rattle.rolling.specs.declared.Stepped.{Stepped}
use Rattle.rolling.specs.ContactStep.{patch_of, roll_patch_of, slide_step, heading_of, decel_of, stops_of, rest_of, roll_on, roll_step, contact_step_of}

either : (P : Stepped → Type 0) (c : Bool) {a b : Stepped} → P a → P b → P (cond c a b)
either P true p q = p
either P false p q = q

abbrev Few : Stepped → Type 0
Few s = s.evaluations ≤ 200

-- those of its slide, if it slides
pub step_at_most_200 : (state : BallState) (at : GroundSample) (ball : BallModel) (dt stop_speed roll_threshold : Float)
    → (contact_step_of state at ball dt stop_speed roll_threshold).evaluations ≤ 200
unfolding contact_step_of slide_step roll_step rest_of roll_on
step_at_most_200 state at ball dt stop_speed roll_threshold =
    let n = vnormalize at.normal in
    let radius = radius_of ball in
    let k = ball.inertia_factor in
    let vel = vsub state.vel (vscale n (vdot state.vel n)) in
    let q = roll_patch_of (patch_of n at.surface radius k (vdot state.spin n)) at.surface in
    let locked = locked_of vel state.spin n radius k in
    let speed = vlength locked.vel in
    let a₀ = decel_of q speed ⊖ vdot q.slope (heading_of q locked.vel speed) in
    either Few (lt slip_eps (vlength (slip_of vel state.spin n radius))) (slide_at_most_200 _ _ _ _ _)
    (either Few (stops_of q speed a₀ dt stop_speed) (omega arith) (omega arith))
