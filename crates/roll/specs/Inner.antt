-- Contracts of inner functions: that of a pass.
use Rattle.std.specs.Prelude.{List, Float, Result}
use Rattle.std.specs.declared.ops.ControlFlow.{ControlFlow}
use Rattle.refusal.specs.declared.Refusal.{Refusal}
use Rattle.look.specs.Tree.{Oracle}
use Rattle.tally.specs.Inner.{place, Runs, passes_by}
use Rattle.tally.specs.declared.Tally.{Tally}
use Rattle.tally.specs.declared.Conditions.{Conditions}
use Rattle.roll.specs.Roll.{ground_step}
use Rattle.roll.specs.declared.Roll.{Roll}
use Rattle.roll.specs.declared.Ending.{Ending}

-- one pass of the ground, which makes one step
abbrev pub RollPasses : Oracle → Conditions → Roll → Tally → List Float → Result (ControlFlow Ending Roll) Refusal → Tally → List Float → Type 0
RollPasses o c g t l r t' m = (lc : List Float) → Runs o (ground_step c g) 1 (place t lc l) (passes_by r) (place t' lc m)
