-- Contracts of inner functions: the last impact, and the whole run.
use Rattle.std.specs.Prelude.{ℕ, ◌+◌, Bool, true, false, List, leb, Float, Result}
use Rattle.state.specs.declared.BallState.{BallState}
use Rattle.look.specs.Tree.{Oracle}
use Rattle.refusal.specs.declared.Refusal.{Refusal}
use Rattle.tally.specs.Inner.{place, first_tally, Runs, RunsOn, outcome_by}
use Rattle.tally.specs.declared.Tally.{Tally}
use Rattle.tally.specs.declared.Conditions.{Conditions}
use Rattle.roll.specs.declared.Ending.{Ending}
use Rattle.strike.specs.declared.Struck.{Struck}
use Rattle.train.specs.Train.{last_impact, train}

-- the last impact: its contact, then its point
abbrev pub LastImpacts : Oracle → BallState → Struck → Tally → List Float → List Float → Result Ending Refusal → Tally → List Float → List Float → Type 0
LastImpacts o state hit t lc lp r t' mc mp = Runs o (last_impact state hit) 0 (place t lc lp) (outcome_by r) (place t' mc mp)

-- the whole run, from a landing
abbrev pub TrainRuns : Oracle → Conditions → BallState → List Float → List Float → Result Ending Refusal → Tally → List Float → List Float → Type 0
TrainRuns o c landing lc lp r t' mc mp = RunsOn o (train c landing) (place (first_tally landing) lc lp) (outcome_by r) (place t' mc mp)

-- `contacts.len() + 1 >= self.max_impacts`, where the ball rebounds
abbrev pub is_last : Bool → ℕ → ℕ → Bool
is_last true n max = leb max (n + 1)
is_last false n max = false
