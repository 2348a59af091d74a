-- Contracts of inner functions: a strike, a rebound, and a drop.
use Rattle.std.specs.Prelude.{Bool, List, Float, Option, Result}
use Rattle.state.specs.declared.BallState.{BallState}
use Rattle.look.specs.Tree.{Oracle}
use Rattle.refusal.specs.declared.Refusal.{Refusal}
use Rattle.tally.specs.Inner.{place, Runs, RunsOn, outcome_by}
use Rattle.tally.specs.declared.Tally.{Tally}
use Rattle.tally.specs.declared.Conditions.{Conditions}
use Rattle.hop.specs.declared.Way.{Way}
use Rattle.strike.specs.Strike.{strike, fly, drop}
use Rattle.strike.specs.declared.Struck.{Struck}

abbrev pub Strikes : Oracle → Conditions → BallState → Tally → Result Struck Refusal → Tally → Type 0
Strikes o c state t r t' = (lc lp : List Float) → Runs o (strike c state) 0 (place t lc lp) (outcome_by r) (place t' lc lp)

abbrev pub Flies : Oracle → Conditions → Bool → BallState → Struck → Tally → List Float → Result (Option Way) Refusal → Tally → List Float → Type 0
Flies o c hops state hit t l r t' m = (lc : List Float) → RunsOn o (fly c hops state hit) (place t lc l) (outcome_by r) (place t' lc m)

-- on every course, since no look is made
abbrev pub Drops : Conditions → BallState → Struck → Tally → List Float → Result BallState Refusal → Tally → List Float → Type 0
Drops c state hit t l r t' m = (o : Oracle) (lp : List Float) → Runs o (drop c state hit) 0 (place t l lp) (outcome_by r) (place t' m lp)
