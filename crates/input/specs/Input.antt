-- Definitions. The input of the program settle (01, "Lists and the rest of the shop"): 8 bytes a field, little-endian, dt, stop_speed, roll_threshold,
-- min_hop_height, max_time, max_impacts and step_limit (u64), ball (12), density, landing (time, pos, vel, spin), 240 bytes; then the sheet.
use Rattle.std.specs.Prelude.{ℕ, ◌+◌, ◌*◌, Bool, true, false, ◌&&◌, cond, List, leb, length, drop, replicate, Float}
use Rattle.std.specs.Float.Ieee.{of_bits}
use Rattle.std.specs.Float.{binary64}
use Rattle.number.specs.Ops.{dec}
use Rattle.vector.specs.Vec.{vec}
use Rattle.vector.specs.declared.DVec3.{DVec3}
use Rattle.state.specs.declared.BallState.{BallState}
use Rattle.aero.specs.declared.BallModel.{BallModel}
use Rattle.octets.specs.Octets.{little}
use Rattle.shot.specs.declared.GroundPhysics.{GroundPhysics}
use Rattle.shot.specs.declared.Shot.{Shot}
use Rattle.tally.specs.Language.{contact_width, point_width}
use Rattle.ground.specs.Settle.{Result, Settled, result_of, refusal, settle_of}

-- field i of 8 bytes, as a u64 and as an f64
abbrev pub whole_at : List ℕ → ℕ → ℕ
whole_at s i = little 8 s (8 * i)

unfoldable pub real_at : List ℕ → ℕ → Float
real_at s i = of_bits binary64 (little 8 s (8 * i))

unfoldable pub vec_at : List ℕ → ℕ → DVec3
vec_at s i = vec (real_at s i) (real_at s (i + 1)) (real_at s (i + 2))

-- the fields 0 to 5
unfoldable pub physics_at : List ℕ → GroundPhysics
physics_at s =
    record {
      dt = real_at s 0;
      stop_speed = real_at s 1;
      roll_threshold = real_at s 2;
      min_hop_height = real_at s 3;
      max_time = real_at s 4;
      max_impacts = whole_at s 5;
    }

-- the fields 7 to 18
unfoldable pub ball_at : List ℕ → BallModel
ball_at s =
    record {
      mass_kg = real_at s 7;
      diameter_m = real_at s 8;
      inertia_factor = real_at s 9;
      cd_sub = real_at s 10;
      cd_super = real_at s 11;
      cd_spin = real_at s 12;
      sr_sat = real_at s 13;
      cl_sub = real_at s 14;
      cl_super = real_at s 15;
      sr_scale = real_at s 16;
      re_crit = real_at s 17;
      re_width = real_at s 18;
    }

-- the fields 20 to 29: time, pos, vel, spin
unfoldable pub landing_at : List ℕ → BallState
landing_at s = record { time = real_at s 20; pos = vec_at s 21; vel = vec_at s 24; spin = vec_at s 27 }

-- all fields: field 6 is step_limit, field 19 the density; whether the spin fades is no field of the input
unfoldable pub shot_by : Bool → List ℕ → Shot
shot_by fading s = record {
  physics = physics_at s;
  step_limit = whole_at s 6;
  ball = ball_at s;
  air_density = real_at s 19;
  landing = landing_at s;
  fading = fading;
}

-- the first settle's
abbrev pub shot_at : List ℕ → Shot
shot_at = shot_by false

abbrev pub sheet_at : List ℕ → List ℕ
sheet_at s = drop 240 s

-- 12 for under 240 or over 34,048 bytes, lists untouched; else the settle
unfoldable pub settle_input_by : Bool → List ℕ → List Float → List Float → Result
settle_input_by fading s contacts points =
    cond (leb 240 (length s) && leb (length s) 34048)
    (settle_of (sheet_at s) (shot_by fading s) contacts points)
    (result_of (refusal 12) contacts points)

-- by the first settle, and by the second (02, paper 13)
abbrev pub settle_input_of : List ℕ → List Float → List Float → Result
settle_input_of = settle_input_by false

abbrev pub settle_fading_input_of : List ℕ → List Float → List Float → Result
settle_fading_input_of = settle_input_by true

-- what the program settle gives of its input: the first settle, with 64 contacts and 640 points lent, all +0 before
unfoldable pub program_of : List ℕ → Settled
program_of input = (settle_input_of input (replicate (64 * contact_width) (dec 0 1)) (replicate (640 * point_width) (dec 0 1))).settled
