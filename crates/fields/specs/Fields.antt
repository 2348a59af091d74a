-- Definitions. Structs in a list of doubles, field after field, and a list with a run of doubles written at a place.
use Rattle.std.specs.Prelude.{ℕ, ◌+◌, Bool, ◌&&◌, List, [], ◌∷◌, ◌++◌, length, take, drop, pos, nat_le, slice_index_or, Float}
use Rattle.std.specs.Float.{nan, binary64}
use Rattle.std.specs.Float.Ieee.{of_int, eq, to_unsigned}
use Rattle.vector.specs.Vec.{vec}
use Rattle.vector.specs.declared.DVec3.{DVec3}
use Rattle.state.specs.declared.BallState.{BallState}
use Rattle.aero.specs.declared.BallModel.{BallModel}

-- a whole number as a double
abbrev pub whole_of : ℕ → Float
whole_of n = of_int binary64 (pos n)

-- Rust's `x as u32`: x without its fraction, the nearest end of 0 to 4294967295 where it is beyond, and 0 for a NaN
unfoldable pub nat_of : Float → ℕ
nat_of x = to_unsigned 32 x

-- x is, by value, a whole number from m to n: `whole-exactly`, WholeBack
unfoldable pub is_whole : ℕ → ℕ → Float → Bool
is_whole m n x = eq x (whole_of (nat_of x)) && (nat_le m (nat_of x) && nat_le (nat_of x) n)

-- the double at an index
abbrev pub double_at : List Float → ℕ → Float
double_at l i = slice_index_or l i nan

unfoldable pub vec_at : List Float → ℕ → DVec3
vec_at l o = vec (double_at l o) (double_at l (o + 1)) (double_at l (o + 2))

-- time, pos, vel, spin
unfoldable pub state_at : List Float → ℕ → BallState
state_at l o = record { time = double_at l o; pos = vec_at l (o + 1); vel = vec_at l (o + 4); spin = vec_at l (o + 7) }

-- aero.rs, BallModel: its fields in their order
unfoldable pub ball_at : List Float → ℕ → BallModel
ball_at l o =
    record {
      mass_kg = double_at l o;
      diameter_m = double_at l (o + 1);
      inertia_factor = double_at l (o + 2);
      cd_sub = double_at l (o + 3);
      cd_super = double_at l (o + 4);
      cd_spin = double_at l (o + 5);
      sr_sat = double_at l (o + 6);
      cl_sub = double_at l (o + 7);
      cl_super = double_at l (o + 8);
      sr_scale = double_at l (o + 9);
      re_crit = double_at l (o + 10);
      re_width = double_at l (o + 11);
    }

-- a state as ten doubles
abbrev pub state_fields : BallState → List Float
state_fields s =
    s.time ∷ s.pos.x ∷ s.pos.y ∷ s.pos.z ∷ s.vel.x ∷ s.vel.y ∷ s.vel.z ∷ s.spin.x ∷ s.spin.y ∷ s.spin.z ∷ []

-- the list with the record written from index o on
unfoldable pub written : List Float → ℕ → List Float → List Float
written l o r = take o l ++ (r ++ drop (o + length r) l)
