-- Contracts of inner functions: one pass of a hop, and a hop.
use Rattle.std.specs.Prelude.{List, Float, Result}
use Rattle.std.specs.declared.ops.ControlFlow.{ControlFlow}
use Rattle.aero.specs.declared.AeroParams.{AeroParams}
use Rattle.look.specs.Tree.{Oracle}
use Rattle.tally.specs.Times.{is_late}
use Rattle.tally.specs.Inner.{place, Runs, passes_by, back_by, Loops}
use Rattle.tally.specs.declared.Tally.{Tally}
use Rattle.tally.specs.declared.Conditions.{Conditions}
use Rattle.refusal.specs.declared.Refusal.{Refusal}
use Rattle.hop.specs.Hop.{air_with, air_of, hop_step, hop_from, hop_on}
use Rattle.hop.specs.declared.Flight.{Flight}
use Rattle.hop.specs.declared.Way.{Way}

-- one pass of a hop, which makes one step
abbrev pub HopPasses : Oracle → Conditions → AeroParams → Flight → Tally → List Float → Result (ControlFlow Way Flight) Refusal → Tally → List Float → Type 0
HopPasses o c aero f t l r t' m = (lc : List Float) → Runs o (hop_step c (air_with c aero) f) 1 (place t lc l) (passes_by r) (place t' lc m)

-- a hop, from what its loop carries
abbrev pub Hops : Oracle → Conditions → Flight → Tally → List Float → Result (ControlFlow Way Flight) Refusal → Tally → List Float → Type 0
Hops o c f t l r t' m = (lc : List Float) →
    Loops o (hop_on c f) (λ f. is_late f.state.time c.t_end) (hop_from c (air_of c f.state.spin) 0) (place t lc l) (back_by r) (place t' lc m)
