-- Definitions. The train of impacts, and then the ground: ground.rs, fn settle, with the tests and the count of steps that 01 adds.
use Rattle.std.specs.Prelude.{ℕ, zero, suc, ◌-◌, not, Some, None}
use Rattle.state.specs.declared.BallState.{BallState}
use Rattle.state.specs.declared.Phase.TheVariants.{Hop as InHop}
use Rattle.tally.specs.Language.{M, ◌>>=◌, ◌>>◌, pure, push_point, push_contact}
use Rattle.std.specs.Prelude.{if◌then◌else◌}
use Rattle.tally.specs.declared.Conditions.{Conditions}
use Rattle.hop.specs.Hop.{hop}
use Rattle.hop.specs.declared.Way.{Way}
use Rattle.hop.specs.declared.Way.TheVariants.{Arrived, Late}
use Rattle.roll.specs.Roll.{ending}
use Rattle.roll.specs.declared.Ending.{Ending}
use Rattle.state.specs.declared.Termination.TheVariants.{MaxImpacts}
use Rattle.ground_phase.specs.GroundPhase.{time_up, ground}
use Rattle.strike.specs.Strike.{strike, rebounds, fly_by, drop}
use Rattle.strike.specs.declared.Struck.{Struck}

-- the last impact that max_impacts allows, with a rebound
unfoldable pub last_impact : BallState → Struck → M Ending
last_impact state hit = do
  push_contact state hit.«at» hit.out
  push_point hit.out InHop
  pure (ending MaxImpacts hit.out)

module _ (c : Conditions) where
  -- the drop, and from there the ground
  unfoldable pub to_ground : BallState → Struck → M Ending
  to_ground state hit = do
    leave ← drop c state hit
    ground c leave hit.«at»

  -- ---- the train

  -- n hops are left by max_impacts. 01: "A contact is pushed after its hop returns, not before." The hop is an argument
  unfoldable pub train_from_by : (BallState → M Way) → ℕ → BallState → M Ending
  train_from_by hop zero state = do
    hit ← strike c state
    if not (rebounds c hit) then to_ground state hit else last_impact state hit
  train_from_by hop (suc n) state = do
    hit ← strike c state
    flown ← fly_by c hop (rebounds c hit) state hit
    elim flown [
      | None ↦ to_ground state hit
      | Some way ↦ do
        push_contact state hit.«at» hit.out
        elim way [ Arrived b ↦ train_from_by hop n b | Late b ↦ time_up b InHop ]
    ]

  abbrev pub train_from : ℕ → BallState → M Ending
  train_from = train_from_by (hop c)

-- 01: "max_impacts 0 acts as 1"
abbrev pub train_by : (Conditions → BallState → M Way) → Conditions → BallState → M Ending
train_by hop c landing = train_from_by c (hop c) (c.physics.max_impacts - 1) landing

unfoldable pub train : Conditions → BallState → M Ending
train = train_by hop
