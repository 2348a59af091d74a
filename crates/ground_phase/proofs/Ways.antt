-- Lemmas: the ways that the ground phase can go, for a run that it ends.
use Rattle.std.proofs.Common.{◌≡◌, ℕ, List, Result, Ok, Err, ControlFlow, Continue, Break}
use lib.Ieee.{Float}
use Rattle.refusal.specs.declared.Refusal.{Refusal}
use Rattle.refusal.specs.Refusal.{number_of}
use Rattle.state.specs.declared.BallState.{BallState}
use Rattle.surface.specs.declared.GroundSample.{GroundSample}
use Rattle.look.specs.Tree.{Oracle}
use Rattle.tally.specs.Language.{M, goes, stops}
use Rattle.tally.specs.Inner.{Place, place, RunsOn, Reached}
use Rattle.tally.specs.declared.Conditions.{Conditions}
use Rattle.tally.specs.declared.Tally.{Tally}
use Rattle.tally.proofs.Reached.{on, last}
use Rattle.tally.proofs.Loop.{due_stops}
use Rattle.roll.specs.Roll.{roll_from}
use Rattle.roll.specs.declared.Roll.{Roll}
use Rattle.roll.specs.declared.Ending.{Ending}
use Rattle.ground_phase.specs.GroundPhase.{ground_from, ground_on, ground}
use Rattle.ground_phase.specs.Inner.{Grounds}

module _ {o : Oracle} {m : M Ending} {a : Place} {n : ℕ} {t : Tally} {lc lp : List Float} (c : Conditions) (state : BallState) (s : GroundSample) {g : Roll}
    (r : Reached o m a n (ground c state s) (place t lc lp)) (e : g ≡ roll_from state s) where
  from : Reached o m a n (ground_on c g) (place t lc lp)
  unfolding ground
  from = rw e r

  module _ {lp' : List Float} {t' : Tally} {w : Result (ControlFlow Ending Roll) Refusal} (h : Grounds o c g t lp w t' lp') where
    -- it came to rest, or to t_end
    pub ground_ends : {v : ControlFlow Ending Roll} {x : Ending} → w ≡ Ok v → v ≡ Break x → RunsOn o m a (goes x) (place t' lc lp')
    ground_ends i j = on (last from (rw (i, j) at (h lc)))

    -- step_limit is reached: 23
    pub ground_due : {v : ControlFlow Ending Roll} {g' : Roll} → w ≡ Ok v → v ≡ Continue g' → RunsOn o m a (stops 23) (place t' lc lp')
    unfolding ground_from
    ground_due i j = let d = rw (i, j) at (h lc) in on (last from (due_stops _ _ _ _ d.0 d.1))

    -- a push found no room, or a state or a spot was out of range
    pub ground_fails : {f : Refusal} → w ≡ Err f → RunsOn o m a (stops (number_of f)) (place t' lc lp')
    ground_fails i = on (last from (rw i at (h lc)))
