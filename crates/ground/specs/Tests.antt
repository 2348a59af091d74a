-- Definitions. The tests of a call (01, "Numbers for what was handed in"): 8, 1 to 3 of the sheet, 4 to 7 of the shot.
use Rattle.std.specs.Prelude.{ℕ, ◌%◌, Bool, ◌&&◌, not, List, eqb, Float}
use Rattle.std.specs.Prelude.{if◌then◌else◌}
use Rattle.state.specs.declared.BallState.{BallState}
use Rattle.aero.specs.declared.BallModel.{BallModel}
use Rattle.shot.specs.Tests.{step_physics_ok, ball_ok, landing_ok, input_test}
use Rattle.shot.specs.declared.Shot.{Shot}
use Rattle.course.specs.Sheet.{answer_of}
use Rattle.tally.specs.Language.{point_width, contact_width}

-- 8: "a list length isn't whole records (0 is whole)"; 02, paper 12: "number 8 now counts points by twelve"
unfoldable pub wholes : ℕ → ℕ → Bool
wholes nc np = eqb (nc % contact_width) 0 && eqb (np % point_width) 0

-- the first test of a settle that fails, or 0: "in the order .. 8, 1 to 7"
unfoldable pub refusal_of : List ℕ → Shot → ℕ → ℕ → ℕ
refusal_of sheet shot nc np =
    if not (wholes nc np) then 8 else
    if not (eqb (answer_of sheet) 0) then answer_of sheet else
    input_test shot

-- of `step`: 1 to 3, 4, 5, 7
unfoldable pub step_test : List ℕ → Float → Float → Float → BallModel → BallState → ℕ
step_test sheet dt stop roll ball state =
    if not (eqb (answer_of sheet) 0) then answer_of sheet else
    if not (step_physics_ok dt stop roll) then 4 else
    if not (ball_ok ball) then 5 else
    if not (landing_ok state) then 7 else 0

-- of `impact`: 1 to 3, 5, 7
unfoldable pub impact_test : List ℕ → BallModel → BallState → ℕ
impact_test sheet ball state =
    if not (eqb (answer_of sheet) 0) then answer_of sheet else
    if not (ball_ok ball) then 5 else
    if not (landing_ok state) then 7 else 0
