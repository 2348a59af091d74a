-- Definitions. Surfaces of the ground and what their laws give, in the Rust's order of operations (ground.rs).
-- Assumes nothing.
use Rattle.std.specs.Prelude.{Float, cond}
use Rattle.std.specs.Float.Ieee.{le}
use Rattle.number.specs.Ops.{◌⊕◌, ◌⊗◌, ◌⊘◌, dec, pi}
use Rattle.number.specs.Number.{abs_of, min_of, finite_of}
use Rattle.root.specs.Root.{hypot_of}
use Rattle.exponential.specs.Exp.{exp_of}
use Rattle.trigonometry.specs.Trig.{arctangent_of}
use Rattle.surface.specs.declared.Restitution.{Restitution}
use Rattle.surface.specs.declared.RollLaw.{RollLaw}
use Rattle.surface.specs.declared.Surface.{Surface}
use Rattle.surface.specs.Penner.{quadratic, doubles}

-- Surface::FAIRWAY
abbrev pub fairway : Surface
fairway = record {
  restitution = Restitution.Penner2002;
  mu_slide = dec 40 100;
  mu_roll = dec 12 100;
  roll_law = RollLaw.Quadratic (dec 25 10);
  compliance = dec 1 1;
  pivot = dec 1 1000;
}

-- Surface::GREEN
abbrev pub green : Surface
green = record {
  restitution = Restitution.Penner2002;
  mu_slide = dec 40 100;
  mu_roll = dec 55 1000;
  roll_law = RollLaw.Quadratic (dec 25 10);
  compliance = dec 1 1;
  pivot = dec 1 1000;
}

-- Restitution::coefficient_at, Penner's law at the magnitude v of the normal speed: the quadratic up to 20 m/s, 0.120 above
unfoldable pub penner : Float → Float
penner v = cond (le v (dec 20 1)) (quadratic doubles v) (dec 120 1000)

-- Restitution::coefficient_at
unfoldable pub coefficient_at : Restitution → Float → Float
coefficient_at (Restitution.Constant e) normal_speed = e
coefficient_at Restitution.Penner2002 normal_speed = penner (abs_of normal_speed)

-- RollLaw::speed_factor
unfoldable pub speed_factor : RollLaw → Float → Float
speed_factor RollLaw.Constant speed = dec 1 1
speed_factor (RollLaw.Quadratic v_ref) speed = let s = speed ⊘ v_ref in cond (finite_of s) (dec 1 1 ⊕ s ⊗ s) (dec 1 1)
speed_factor (RollLaw.Exponential v_ref) speed = let s = speed ⊘ v_ref in cond (finite_of s) (exp_of s) (dec 1 1)

-- Surface::rolling_friction
unfoldable pub rolling_friction : Surface → Float → Float
rolling_friction s speed = s.mu_roll ⊗ speed_factor s.roll_law speed

-- PENNER_THETA_C = 15.4 * PI / 180.0
unfoldable pub penner_theta_c : Float
penner_theta_c = dec 154 10 ⊗ pi ⊘ dec 180 1

-- PENNER_REF_ANGLE = 44.4 * PI / 180.0
unfoldable pub penner_ref_angle : Float
penner_ref_angle = dec 444 10 ⊗ pi ⊘ dec 180 1

-- PENNER_REF_SPEED, MIN_TILT_SPEED, TILT_ONSET_SPEED
abbrev pub penner_ref_speed : Float
penner_ref_speed = dec 186 10

abbrev pub min_tilt_speed : Float
min_tilt_speed = dec 1 100

abbrev pub tilt_onset_speed : Float
tilt_onset_speed = dec 2 1

-- Surface::contact_angle at the tangential speed v_t and the normal approach speed v_n, past the test of v_t
unfoldable pub tilted_angle : Surface → Float → Float → Float
tilted_angle s v_t v_n =
    let speed = hypot_of v_t v_n in
    let incidence = arctangent_of v_t v_n in
    let theta_c = penner_theta_c ⊗ (speed ⊘ penner_ref_speed) ⊗ (incidence ⊘ penner_ref_angle) in
    let fade = min_of (v_n ⊘ tilt_onset_speed) (dec 1 1) in
    min_of (s.compliance ⊗ theta_c ⊗ fade) incidence

-- Surface::contact_angle: 0 for a tangential speed of at most MIN_TILT_SPEED
unfoldable pub contact_angle : Surface → Float → Float → Float
contact_angle s v_t v_n = cond (le v_t min_tilt_speed) (dec 0 1) (tilted_angle s v_t v_n)
