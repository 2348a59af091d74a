-- Definitions. What each exported function gives: its answer and all that it was lent (include/dimple.h).
use Rattle.std.specs.Prelude.{ℕ, Bool, true, false, ◌&&◌, cond, List, [], ◌∷◌, ◌++◌, leb, eqb, length, Float}
use Rattle.number.specs.Ops.{dec}
use Rattle.look.specs.Rect.{sides_of}
use Rattle.course.specs.Sheet.{height_of}
use Rattle.state.specs.Numbers.{termination_number}
use Rattle.ground.specs.Step.{step_of, impact_answer}
use Rattle.ground.specs.Settle.{Settled}
use Rattle.ground.specs.Step.{StepOut}
use Rattle.ground.specs.Step.{ImpactOut}
use Rattle.fields.specs.Fields.{whole_of, double_at, state_at, ball_at, state_fields, written}
use Rattle.input.specs.Input.{settle_input_by}

-- answer; termination (0 none, 1 rest, 2 time, 3 impacts); contacts, points, steps; the final state (10); the rectangle (4); evaluations
abbrev pub result_fields : Settled → List Float
result_fields s =
    whole_of s.answer ∷ whole_of (termination_number s.termination) ∷ whole_of s.contacts ∷ whole_of s.points ∷ whole_of s.steps
    ∷ (state_fields s.rest ++ (sides_of s.rect ++ (whole_of s.evaluations ∷ [])))

-- how many they are
abbrev pub result_length : ℕ
result_length = 20

-- the same with another number
abbrev pub answered : ℕ → Settled → Settled
answered n s = record {
  answer = n;
  termination = s.termination;
  contacts = s.contacts;
  points = s.points;
  steps = s.steps;
  evaluations = s.evaluations;
  rest = s.rest;
  rect = s.rect;
}

-- a list with room for them gets the result and keeps its tail; a shorter one is untouched
unfoldable pub reported : Settled → List Float → List Float
reported s l = cond (leb result_length (length l)) (written l 0 (result_fields s)) l

-- ---- an answer and the lists as they are then

pub record SettleDoor : Type 0 where
  pub answer : ℕ
  pub contacts : List Float
  pub points : List Float
  pub result : List Float

abbrev pub settle_door : ℕ → List Float → List Float → List Float → SettleDoor
settle_door a c p r = record { answer = a; contacts = c; points = p; result = r }

pub record Door : Type 0 where
  pub answer : ℕ
  pub list : List Float

abbrev pub door : ℕ → List Float → Door
door a l = record { answer = a; list = l }

-- ---- dimple_settle, dimple_settle_fading: the settle of the input, by the first and by the second, and its result
unfoldable pub settle_door_by : Bool → List ℕ → List Float → List Float → List Float → SettleDoor
settle_door_by fading input c p l =
    let w = settle_input_by fading input c p in
    settle_door w.settled.answer w.contacts w.points (reported w.settled l)

abbrev pub settle_door_of : List ℕ → List Float → List Float → List Float → SettleDoor
settle_door_of = settle_door_by false

abbrev pub settle_fading_door_of : List ℕ → List Float → List Float → List Float → SettleDoor
settle_fading_door_of = settle_door_by true

-- ---- dimple_step: physics (3: dt, stop_speed, roll_threshold), ball (12), state (11: time, pos, vel, spin, phase)

-- the state is changed on answer 0 alone; on a number the phase is 0
unfoldable pub stepped : StepOut → List Float → Door
stepped r l = cond (eqb r.answer 0) (door 0 (written l 0 (state_fields r.state ++ (whole_of r.phase ∷ [])))) (door r.answer (written l 10 (dec 0 1 ∷ [])))

-- a state and its phase
abbrev pub state_length : ℕ
state_length = 11

-- 100 for a length that is not the one named
unfoldable pub step_door_of : List ℕ → List Float → List Float → List Float → Door
step_door_of sheet p b l =
    cond (eqb (length p) 3 && (eqb (length b) 12 && eqb (length l) state_length))
    (stepped (step_of sheet (double_at p 0) (double_at p 1) (double_at p 2) (ball_at b 0) (state_at l 0)) l)
    (door 100 l)

-- ---- dimple_impact: ball (12), state (10)

-- the state is changed on answer 0 alone
unfoldable pub struck : ImpactOut → List Float → Door
struck r l = cond (eqb r.answer 0) (door 0 (written l 0 (state_fields r.state))) (door r.answer l)

unfoldable pub impact_door_of : List ℕ → List Float → List Float → Door
impact_door_of sheet b l = cond (eqb (length b) 12 && eqb (length l) 10) (struck (impact_answer sheet (ball_at b 0) (state_at l 0)) l) (door 100 l)

-- ---- dimple_height: the height (1), +0 on a number
unfoldable pub height_door_of : List ℕ → Float → Float → List Float → Door
height_door_of sheet x z l =
    cond (eqb (length l) 1) (let h = height_of sheet x z in door h.answer (written l 0 (h.height ∷ []))) (door 100 l)
