-- Statements. The step of a pass of the ground makes at most 200 evaluations. Assumes nothing.
use Rattle.std.specs.Prelude.{◌≤◌}
use Rattle.rolling.specs.Evaluations.{step_at_most_200}
use Rattle.tally.specs.declared.Conditions.{Conditions}
use Rattle.roll.specs.Roll.{step_on}
use Rattle.roll.specs.declared.Roll.{Roll}

pub pass_at_most_200 : (c : Conditions) (g : Roll) → (step_on c g).evaluations ≤ 200
unfolding step_on
pass_at_most_200 c g = step_at_most_200 _ _ _ _ _ _
