-- Contracts of inner functions: what the code makes of a run.
use Rattle.std.specs.Prelude.{ℕ, not, if◌then◌else◌, Float, Result}
use Rattle.refusal.specs.declared.Refusal.{Refusal}
use Rattle.state.specs.declared.BallState.{BallState}
use Rattle.aero.specs.declared.BallModel.{BallModel}
use Rattle.shot.specs.Tests.{step_physics_ok, ball_ok, landing_ok}
use Rattle.tally.specs.Inner.{outcome_by}
use Rattle.tally.specs.declared.Tally.{Tally}
use Rattle.roll.specs.declared.Ending.{Ending}
use Rattle.ground.specs.Settle.{Settled, answer_by, how_by, rest_by}

abbrev pub settled_by : Result Ending Refusal → Tally → Settled
settled_by r t = record {
  answer = answer_by (outcome_by r);
  termination = how_by (outcome_by r);
  contacts = t.contacts;
  points = t.points;
  steps = t.steps;
  evaluations = t.evaluations;
  rest = rest_by (outcome_by r) t.good;
  rect = t.rect;
}

-- 5, 7: with these tests both `step` and `impact` end theirs
abbrev pub ball_and_landing : BallModel → BallState → ℕ
ball_and_landing ball state = if not (ball_ok ball) then 5 else if not (landing_ok state) then 7 else 0

-- 4, and then 5 and 7: the tests of `step` beside the sheet's
abbrev pub after_sheet : Float → Float → Float → BallModel → BallState → ℕ
after_sheet dt stop roll ball state = if not (step_physics_ok dt stop roll) then 4 else ball_and_landing ball state
