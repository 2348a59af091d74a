-- Definitions. The ground phase: the second loop of ground.rs, fn settle, with the tests and the count of steps that 01 adds; and the end at t_end.
use Rattle.std.specs.Prelude.{ℕ, Option, Some, None}
use Rattle.state.specs.declared.BallState.{BallState}
use Rattle.surface.specs.declared.GroundSample.{GroundSample}
use Rattle.state.specs.declared.Phase.{Phase}
use Rattle.state.specs.declared.Phase.TheVariants.{Roll as InRoll}
use Rattle.tally.specs.Times.{is_late}
use Rattle.tally.specs.Language.{M, ◌>>=◌, ◌>>◌, pure, push_point, steps_left, loop}
use Rattle.tally.specs.declared.Conditions.{Conditions}
use Rattle.roll.specs.Roll.{ending, roll_from, ground_step}
use Rattle.roll.specs.declared.Roll.{Roll}
use Rattle.roll.specs.declared.Ending.{Ending}
use Rattle.state.specs.declared.Termination.TheVariants.{MaxTime}

-- `last_phase.unwrap_or(Phase::Roll)`
unfoldable pub last_phase : Option Phase → Phase
last_phase None = InRoll
last_phase (Some phase) = phase

-- t_end: push the point, end with that state
unfoldable pub time_up : BallState → Phase → M Ending
time_up s phase = do
  push_point s phase
  pure (ending MaxTime s)

module _ (c : Conditions) where
  -- at most n steps
  unfoldable pub ground_from : ℕ → Roll → M Ending
  ground_from n = loop n (λ g. is_late g.state.time c.t_end) (λ g. time_up g.state (last_phase g.last)) (ground_step c)

  -- from what the loop carries
  abbrev pub ground_on : Roll → M Ending
  ground_on g = do
    n ← steps_left c
    ground_from n g

  -- slide and roll, from the last sample on
  unfoldable pub ground : BallState → GroundSample → M Ending
  ground state s = ground_on (roll_from state s)
