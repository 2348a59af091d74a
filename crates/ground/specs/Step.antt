-- Definitions. `step` and `impact`, with 01's tests and refusals.
use Rattle.std.specs.Prelude.{ℕ, List, eqb, Float, Result, Ok, Err}
use Rattle.state.specs.declared.BallState.{BallState}
use Rattle.aero.specs.Aero.{radius_of}
use Rattle.aero.specs.declared.BallModel.{BallModel}
use Rattle.impact.specs.Impact.{impact_of}
use Rattle.contact.specs.Contact.{onto_of}
use Rattle.rolling.specs.ContactStep.{contact_step_of}
use Rattle.look.specs.Rect.{no_rect}
use Rattle.look.specs.Tree.{exec}
use Rattle.course.specs.Sheet.{course_of}
use Rattle.tally.specs.Language.{M, Outcome, goes, stops, ◌>>=◌, pure, look, test}
use Rattle.std.specs.Prelude.{if◌then◌else◌}
use Rattle.state.specs.Numbers.{whole_phase}
use Rattle.ground.specs.Tests.{step_test, impact_test}
use Rattle.ground.specs.Settle.{first_log}
use Rattle.refusal.specs.declared.Refusal.{Refusal}
use Rattle.refusal.specs.Refusal.{number_of}
use Rattle.ground.specs.declared.Moved.{Moved}

-- what `step` gives: the number, a state, the phase
pub record StepOut : Type 0 where
  pub answer : ℕ
  pub state : BallState
  pub phase : ℕ

-- what `impact` gives: the number, a state
pub record ImpactOut : Type 0 where
  pub answer : ℕ
  pub state : BallState

abbrev pub step_out : ℕ → BallState → ℕ → StepOut
step_out n s phase = record { answer = n; state = s; phase = phase }

-- the code's result, of the given state
abbrev pub stepped_by : BallState → Result Moved Refusal → StepOut
stepped_by state (Ok m) = step_out 0 m.state (whole_phase m.phase)
stepped_by state (Err r) = step_out (number_of r) state 0

-- ground.rs, GroundPhysics::step, with the tests of 01: 22 before each look, and of the state
unfoldable pub step_run : Float → Float → Float → BallModel → BallState → M StepOut
step_run dt stop threshold ball state = do
  s ← look state.pos.x state.pos.z
  let moved = contact_step_of state s ball dt stop threshold
  under ← look moved.state.pos.x moved.state.pos.z
  b ← test (onto_of moved.state under s.normal moved.rolling (radius_of ball))
  pure (step_out 0 b (whole_phase moved.phase))

-- "On a refusal `step` and `impact` return the given state (`step` with phase 0)"
abbrev pub step_by : BallState → Outcome StepOut → StepOut
step_by state (goes r) = r
step_by state (stops n) = step_out n state 0

unfoldable pub step_made : List ℕ → Float → Float → Float → BallModel → BallState → StepOut
step_made sheet dt stop threshold ball state = step_by state (exec (course_of sheet) no_rect (step_run dt stop threshold ball state (first_log state 0 0))).value.outcome

-- 01: "with the same input tests for what they take"; reading-01: "tests 1 to 3, 4 (its dt, stop_speed and roll_threshold), 5, 7", then the step
unfoldable pub step_of : List ℕ → Float → Float → Float → BallModel → BallState → StepOut
step_of sheet dt stop threshold ball state =
    let n = step_test sheet dt stop threshold ball state in
    if eqb n 0 then step_made sheet dt stop threshold ball state else step_out n state 0

abbrev pub impact_out : ℕ → BallState → ImpactOut
impact_out n s = record { answer = n; state = s }

abbrev pub struck_by : BallState → Result BallState Refusal → ImpactOut
struck_by state (Ok s) = impact_out 0 s
struck_by state (Err r) = impact_out (number_of r) state

-- "`impact` a sheet, ball and state, its sample being the look at the state's x and z"
unfoldable pub impact_run : BallModel → BallState → M BallState
impact_run ball state = do
  s ← look state.pos.x state.pos.z
  out ← test (impact_of state s ball)
  pure out

abbrev pub impact_by : BallState → Outcome BallState → ImpactOut
impact_by state (goes s) = impact_out 0 s
impact_by state (stops n) = impact_out n state

unfoldable pub impact_made : List ℕ → BallModel → BallState → ImpactOut
impact_made sheet ball state = impact_by state (exec (course_of sheet) no_rect (impact_run ball state (first_log state 0 0))).value.outcome

-- 01: "with the same input tests for what they take"; reading-01: "1 to 3, 5, 7, then 22"
unfoldable pub impact_answer : List ℕ → BallModel → BallState → ImpactOut
impact_answer sheet ball state =
    let n = impact_test sheet ball state in
    if eqb n 0 then impact_made sheet ball state else impact_out n state
