-- Definitions. The groups of doubles that the doors read and write (compare/DOORS.md): samples, states of a flight, motions, truth values.
-- Assumes nothing.
use Rattle.std.specs.Prelude.{ℕ, ◌+◌, Bool, cond, List, [], ◌∷◌, ◌++◌, Float}
use Rattle.std.specs.Float.Ieee.{eq, ne}
use Rattle.number.specs.Ops.{dec}
use Rattle.vector.specs.declared.DVec3.{DVec3}
use Rattle.surface.specs.Surface.{green}
use Rattle.surface.specs.declared.Restitution.{Restitution}
use Rattle.surface.specs.declared.RollLaw.{RollLaw}
use Rattle.surface.specs.declared.Surface.{Surface}
use Rattle.surface.specs.declared.GroundSample.{GroundSample}
use Rattle.rk4.specs.declared.State.{State}
use Rattle.rk4.specs.declared.Motion.{Motion}
use Rattle.slide.specs.declared.Patch.{Patch}
use Rattle.fields.specs.Fields.{double_at, vec_at}

-- kind 1 is Penner2002, any other double Constant
unfoldable pub restitution_of : Float → Float → Restitution
restitution_of kind e = cond (eq kind (dec 1 1)) Restitution.Penner2002 (Restitution.Constant e)

-- law 1 is Quadratic, 2 Exponential, any other double Constant
unfoldable pub roll_law_of : Float → Float → RollLaw
roll_law_of law v_ref =
    cond (eq law (dec 1 1)) (RollLaw.Quadratic v_ref) (cond (eq law (dec 2 1)) (RollLaw.Exponential v_ref) RollLaw.Constant)

-- kind, e, mu_slide, mu_roll, law, v_ref, compliance, pivot
unfoldable pub surface_at : List Float → ℕ → Surface
surface_at l o =
    record {
      restitution = restitution_of (double_at l o) (double_at l (o + 1));
      mu_slide = double_at l (o + 2);
      mu_roll = double_at l (o + 3);
      roll_law = roll_law_of (double_at l (o + 4)) (double_at l (o + 5));
      compliance = double_at l (o + 6);
      pivot = double_at l (o + 7);
    }

-- height, normal, surface; its number is 0
unfoldable pub sample_at : List Float → ℕ → GroundSample
sample_at l o = record { height = double_at l o; normal = vec_at l (o + 1); surface = surface_at l (o + 4); number = 0 }

-- the surface GREEN with this compliance
unfoldable pub green_with : Float → Surface
green_with c =
    record {
      restitution = green.restitution;
      mu_slide = green.mu_slide;
      mu_roll = green.mu_roll;
      roll_law = green.roll_law;
      compliance = c;
      pivot = green.pivot;
    }

-- pos, vel
unfoldable pub flight_at : List Float → ℕ → State
flight_at l o = record { pos = vec_at l o; vel = vec_at l (o + 3) }

-- pos, vel, spin
unfoldable pub motion_at : List Float → ℕ → Motion
motion_at l o = record { pos = vec_at l o; vel = vec_at l (o + 3); spin = vec_at l (o + 6) }

-- n, g_t, friction, radius, k, pivot_accel
unfoldable pub patch_at : List Float → ℕ → Patch
patch_at l o =
    record {
      n = vec_at l o;
      g_t = vec_at l (o + 3);
      friction = double_at l (o + 6);
      radius = double_at l (o + 7);
      k = double_at l (o + 8);
      pivot_accel = vec_at l (o + 9);
    }

-- a truth value that is read: 0 of either sign is false, any other double true
abbrev pub truth_of : Float → Bool
truth_of x = ne x (dec 0 1)

-- a truth value that is written
unfoldable pub truth_number : Bool → Float
truth_number b = cond b (dec 1 1) (dec 0 1)

abbrev pub vec_fields : DVec3 → List Float
vec_fields v = v.x ∷ v.y ∷ v.z ∷ []

abbrev pub flight_fields : State → List Float
flight_fields s = vec_fields s.pos ++ vec_fields s.vel
