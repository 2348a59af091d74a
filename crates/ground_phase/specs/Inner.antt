-- Contracts of inner functions: that of the point at t_end, and that of the ground phase.
use Rattle.std.specs.Prelude.{List, Float, Result}
use Rattle.std.specs.declared.ops.ControlFlow.{ControlFlow}
use Rattle.refusal.specs.declared.Refusal.{Refusal}
use Rattle.state.specs.declared.BallState.{BallState}
use Rattle.state.specs.declared.Phase.{Phase}
use Rattle.look.specs.Tree.{Oracle}
use Rattle.tally.specs.Times.{is_late}
use Rattle.tally.specs.Inner.{place, Runs, outcome_by, back_by, Loops}
use Rattle.tally.specs.declared.Tally.{Tally}
use Rattle.tally.specs.declared.Conditions.{Conditions}
use Rattle.roll.specs.declared.Ending.{Ending}
use Rattle.roll.specs.declared.Roll.{Roll}
use Rattle.ground_phase.specs.GroundPhase.{time_up, ground_from, ground_on}

-- the point at t_end
abbrev pub TimesUp : Oracle → BallState → Phase → Tally → List Float → Result Ending Refusal → Tally → List Float → Type 0
TimesUp o s phase t l r t' m = (lc : List Float) → Runs o (time_up s phase) 0 (place t lc l) (outcome_by r) (place t' lc m)

-- the ground phase, from what its loop carries
abbrev pub Grounds : Oracle → Conditions → Roll → Tally → List Float → Result (ControlFlow Ending Roll) Refusal → Tally → List Float → Type 0
Grounds o c g t l r t' m = (lc : List Float) →
    Loops o (ground_on c g) (λ g. is_late g.state.time c.t_end) (ground_from c 0) (place t lc l) (back_by r) (place t' lc m)
