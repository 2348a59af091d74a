-- Definitions. What a door to a function of structs does (compare/DOORS.md), said once for all of them, and the function of each.
-- Assumes nothing.
use Rattle.std.specs.Prelude.{ℕ, cond, ◌&&◌, List, [], ◌∷◌, ◌++◌, ◌≡◌, eqb, length, Float}
use Rattle.std.proofs.Common.{append-nil, ap, ◌∙◌, zero-add}
use Rattle.std.proofs.Math.Seq.{drop-length}
use borrow.Author.Tests.{eq-eqb, ne_eqb}
use denote.Ref.{Bor, MutBor}
use Rattle.fields.specs.Fields.{double_at, vec_at, state_at, ball_at, state_fields, written}
use Rattle.surface.specs.Surface.{coefficient_at, speed_factor, contact_angle}
use Rattle.number.specs.Ops.{dec}
use Rattle.aero.specs.Aero.{from_spin_vector, acceleration_of, cd_cl_of}
use Rattle.aero.specs.declared.AeroParams.{AeroParams}
use Rattle.aero.specs.declared.CdCl.{CdCl}
use Rattle.flight.specs.Flight.{flight_step}
use Rattle.impact.specs.Impact.{impact_of}
use Rattle.contact.specs.Contact.{slip_of, locked_of, saturated, tangential_gravity, onto_of, sample_holds, hops_die_out}
use Rattle.flight.specs.Arc.{hermite_of, parabola_of, drop_time}
use Rattle.contact.specs.declared.Locked.{Locked}
use Rattle.slide.specs.Slide.{slide_of}
use Rattle.slide.specs.declared.Slid.{Slid}
use Rattle.rolling.specs.ContactStep.{contact_step_of}
use Rattle.rolling.specs.declared.Stepped.{Stepped}
use Rattle.state.specs.Numbers.{phase_number}
use Rattle.probe.specs.Rows.{restitution_of, roll_law_of, sample_at, green_with, flight_at, motion_at, patch_at, vec_fields, flight_fields, truth_of, truth_number}

-- the answer of a door, and what `out` holds afterwards
pub record Opened : Type 0 where
  pub answer : ℕ
  pub out : List Float

abbrev pub opened : ℕ → List Float → Opened
opened a l = record { answer = a; out = l }

-- the lengths in and out, the function on lists, the input and the old contents of `out`
unfoldable pub door_of : ℕ → ℕ → (List Float → List Float) → List Float → List Float → Opened
door_of n m f input out = cond (eqb (length input) n && eqb (length out) m) (opened 0 (f input)) (opened 100 out)

module _ (n m : ℕ) (f : List Float → List Float) (input out : List Float) where
  pub wrong_input : (length input ≡ n → ⊥) → opened 100 out ≡ door_of n m f input out
  unfolding door_of
  wrong_input h = simp (ne_eqb _ _ h)

  pub wrong_out : length input ≡ n → (length out ≡ m → ⊥) → opened 100 out ≡ door_of n m f input out
  unfolding door_of
  wrong_out h k = simp (eq-eqb _ _ h, ne_eqb _ _ k)

  pub right : length input ≡ n → length out ≡ m → (l : List Float) → l ≡ f input → opened 0 l ≡ door_of n m f input out
  unfolding door_of
  right h k l e = simp (eq-eqb _ _ h, eq-eqb _ _ k, e)

-- a record as long as the list, written at its start, is all of it
pub all_written : (l r : List Float) → length l ≡ length r → written l 0 r ≡ r
unfolding written
all_written l r e = ap (λ (t : List Float). r ++ t) (simp (zero-add, ← e, drop-length)) ∙ append-nil r

-- ---- the function as a closure over the input and `out`

-- it may be called there if each has the length that is named
abbrev pub MayRun : ℕ → ℕ → List Float → List Float → (Bor (List Float) → MutBor (List Float) → Type 0) → Type 0
MayRun n m input out pre =
    length input ≡ n → length out ≡ m → (p : Bor (List Float)) → (q : MutBor (List Float)) → p.now ≡ input → q.now ≡ out → pre p q

-- each call over this input, and over m doubles, leaves there what f gives of the input
abbrev pub Leaves : ℕ → List Float → (List Float → List Float) → (Bor (List Float) → MutBor (List Float) → Unit {0} → MutBor (List Float) → Type 0) → Type 0
Leaves m input f post =
    (p : Bor (List Float)) → (q : MutBor (List Float)) → (q' : MutBor (List Float)) → p.now ≡ input → length q.now ≡ m → post p q tt q' → q'.now ≡ f input

-- ---- the functions

-- state, sample, ball
unfoldable pub impact_row : List Float → List Float
impact_row l = state_fields (impact_of (state_at l 0) (sample_at l 10) (ball_at l 22))

abbrev pub stepped_fields : Stepped → List Float
stepped_fields s = state_fields s.state ++ (phase_number s.phase ∷ truth_number s.rolling ∷ [])

-- state, sample, ball, dt, stop_speed, roll_threshold
unfoldable pub contact_step_row : List Float → List Float
contact_step_row l =
    stepped_fields (contact_step_of (state_at l 0) (sample_at l 10) (ball_at l 22) (double_at l 34) (double_at l 35) (double_at l 36))

-- ball, spin, density, flight, t, h
unfoldable pub flight_step_row : List Float → List Float
flight_step_row l =
    flight_fields (flight_step (ball_at l 0) (from_spin_vector (vec_at l 12)) (double_at l 15) (flight_at l 16) (double_at l 22) (double_at l 23))

-- kind, e, normal_speed
unfoldable pub coefficient_at_row : List Float → List Float
coefficient_at_row l = coefficient_at (restitution_of (double_at l 0) (double_at l 1)) (double_at l 2) ∷ []

-- ball, vel, spin_axis, spin_rate, density; spin_decay is 0.04
unfoldable pub acceleration_row : List Float → List Float
acceleration_row l =
    vec_fields
    (acceleration_of
    (ball_at l 0)
    (vec_at l 12)
    (record { spin_axis = vec_at l 15; spin_rate = double_at l 18; spin_decay = dec 4 100 })
    (double_at l 19))

abbrev pub cd_cl_fields : CdCl → List Float
cd_cl_fields c = c.cd ∷ c.cl ∷ []

-- ball, spin_rate, speed, density
unfoldable pub cd_cl_row : List Float → List Float
cd_cl_row l = cd_cl_fields (cd_cl_of (ball_at l 0) (double_at l 12) (double_at l 13) (double_at l 14))

abbrev pub slid_fields : Slid → List Float
slid_fields s = vec_fields s.motion.pos ++ vec_fields s.motion.vel ++ vec_fields s.motion.spin ++ (s.time ∷ truth_number s.rolls ∷ [])

-- patch, motion, t, dt, roll_threshold
unfoldable pub slide_row : List Float → List Float
slide_row l = slid_fields (slide_of (patch_at l 0) (motion_at l 12) (double_at l 21) (double_at l 22) (double_at l 23))

-- state, sample, prev_normal, rolling, radius
unfoldable pub onto_surface_row : List Float → List Float
onto_surface_row l =
    state_fields (onto_of (state_at l 0) (sample_at l 10) (vec_at l 22) (truth_of (double_at l 25)) (double_at l 26))

-- a, b, h, tau
unfoldable pub hermite_row : List Float → List Float
hermite_row l = flight_fields (hermite_of (flight_at l 0) (flight_at l 6) (double_at l 12) (double_at l 13))

-- a, tau
unfoldable pub parabola_row : List Float → List Float
parabola_row l = flight_fields (parabola_of (flight_at l 0) (double_at l 6))

-- height, vy
unfoldable pub drop_time_row : List Float → List Float
drop_time_row l = drop_time (double_at l 0) (double_at l 1) ∷ []

-- arrival, rebound, next, n, ball, min_hop_height
unfoldable pub hops_die_out_row : List Float → List Float
hops_die_out_row l =
    truth_number (hops_die_out (state_at l 0) (state_at l 10) (state_at l 20) (vec_at l 30) (ball_at l 33) (double_at l 45)) ∷ []

-- law, v_ref, speed
unfoldable pub speed_factor_row : List Float → List Float
speed_factor_row l = speed_factor (roll_law_of (double_at l 0) (double_at l 1)) (double_at l 2) ∷ []

-- compliance, v_t, v_n
unfoldable pub contact_angle_row : List Float → List Float
contact_angle_row l = contact_angle (green_with (double_at l 0)) (double_at l 1) (double_at l 2) ∷ []

abbrev pub aero_fields : AeroParams → List Float
aero_fields a = vec_fields a.spin_axis ++ (a.spin_rate ∷ a.spin_decay ∷ [])

-- omega
unfoldable pub from_spin_vector_row : List Float → List Float
from_spin_vector_row l = aero_fields (from_spin_vector (vec_at l 0))

-- vel, spin, n, radius
unfoldable pub slip_row : List Float → List Float
slip_row l = vec_fields (slip_of (vec_at l 0) (vec_at l 3) (vec_at l 6) (double_at l 9))

abbrev pub locked_fields : Locked → List Float
locked_fields s = vec_fields s.vel ++ vec_fields s.spin

-- vel, spin, n, radius, k
unfoldable pub lock_rolling_row : List Float → List Float
lock_rolling_row l = locked_fields (locked_of (vec_at l 0) (vec_at l 3) (vec_at l 6) (double_at l 9) (double_at l 10))

-- start, end, n
unfoldable pub saturate_pivot_row : List Float → List Float
saturate_pivot_row l = vec_fields (saturated (vec_at l 0) (vec_at l 3) (vec_at l 6))

-- n
unfoldable pub tangential_gravity_row : List Float → List Float
tangential_gravity_row l = vec_fields (tangential_gravity (vec_at l 0))

-- sample
unfoldable pub sample_holds_row : List Float → List Float
sample_holds_row l = truth_number (sample_holds (sample_at l 0)) ∷ []
