-- Contracts of inner functions: a call that asks the course, from tally to tally, does what a part of the definition does.
use Rattle.std.specs.Prelude.{ℕ, List, Float, Result, Option}
use Rattle.state.specs.declared.BallState.{BallState}
use Rattle.vector.specs.declared.DVec3.{DVec3}
use Rattle.look.specs.Tree.{Oracle}
use Rattle.refusal.specs.declared.Refusal.{Refusal}
use Rattle.tally.specs.Language.{M, Outcome}
use Rattle.tally.specs.Inner.{place, RunsBy, outcome_by}
use Rattle.tally.specs.declared.Tally.{Tally}
use Rattle.arrival.specs.Arrival.{clearance, hop_arrival}
use Rattle.arrival.specs.declared.Arc.{Arc}

-- part m makes no step and at most e evaluations, and comes from tally t to t' with outcome x; both lists may be any
abbrev pub Asks : {A : Type 0} → Oracle → M A → ℕ → Tally → Outcome A → Tally → Type 0
Asks o m e t x t' = (lc lp : List Float) → RunsBy o m 0 e (place t lc lp) x (place t' lc lp)

-- the same, by a call's result
abbrev pub Finds : {A : Type 0} → Oracle → M A → ℕ → Tally → Result A Refusal → Tally → Type 0
Finds o m e t r t' = Asks o m e t (outcome_by r) t'

abbrev pub Clears : Oracle → Tally → DVec3 → Result Float Refusal → Tally → Type 0
Clears o t p r t' = Finds o (clearance p) 0 t r t'

abbrev pub Arrives : Oracle → Tally → Arc → Float → Float → DVec3 → Result (Option BallState) Refusal → Tally → Type 0
Arrives o t arc time end spin r t' = Finds o (hop_arrival arc time end spin) 200 t r t'
