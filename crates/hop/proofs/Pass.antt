-- Lemmas: one pass of a hop, what is left of it at each place where it may end.
use Rattle.std.specs.Prelude.{ℕ, ◌≡◌, List, Float, Option, Some, None, Result, Ok, refl}
use Rattle.state.specs.declared.BallState.{BallState}
use Rattle.state.specs.declared.Phase.TheVariants.{Hop}
use Rattle.aero.specs.declared.AeroParams.{AeroParams}
use Rattle.look.specs.Tree.{Oracle}
use Rattle.tally.specs.Times.{is_due, next_after}
use Rattle.tally.specs.Language.{M, Pass, again, over, ◌>>=◌, ◌>>◌, pure, when, test, push_point}
use Rattle.tally.specs.Inner.{Place, place, Reached, MakesStep, Tests}
use Rattle.tally.specs.declared.Conditions.{Conditions}
use Rattle.tally.specs.declared.Tally.{Tally}
use Rattle.tally.proofs.Reached.{begun, passes, step_made_lem}
use Rattle.refusal.specs.declared.Refusal.{Refusal}
use Rattle.arrival.specs.Arrival.{clearance, hop_arrival}
use Rattle.arrival.specs.Inner.{Clears}
use Rattle.arrival.specs.declared.Arc.{Arc}
use Rattle.hop.specs.Hop.{flight, aero_for, spin_after, air_with, step_arc, step_end, hop_next, hop_step}
use Rattle.hop.specs.declared.Flight.{Flight}
use Rattle.hop.specs.declared.Way.{Way}
use Rattle.hop.specs.declared.Way.TheVariants.{Arrived}

module _ (f : Flight) (arc : Arc) where
  abbrev pub to_arrive : BallState → Float → M (Pass Flight Way)
  to_arrive b end = hop_arrival arc f.state.time end f.state.spin >>= hop_next f b

  abbrev pub to_clear : BallState → M (Pass Flight Way)
  to_clear b = clearance b.pos >>= to_arrive b

  abbrev pub to_test : BallState → M (Pass Flight Way)
  to_test b = test b >>= to_clear

-- the step is made and counted
pub stepped : {o : Oracle} {t t' : Tally} {lc lp : List Float} (c : Conditions) (aero : AeroParams) (f : Flight) {arc : Arc} {b : BallState}
    → arc ≡ step_arc c (aero_for c.fading aero) f.state → b ≡ step_end (spin_after c.fading) arc f.state → MakesStep t 0 t'
    → Reached o (hop_step c (air_with c aero) f) (place t lc lp) 1 (to_test f arc b) (place t' lc lp)
unfolding hop_step
stepped c aero f e i r = rw (i, ← e) (step_made_lem _ _ begun r)

-- the search for the arrival is due
pub searching : {o : Oracle} {t t1 t2 t3 : Tally} {lc lp : List Float} (c : Conditions) (aero : AeroParams)
    (f : Flight) {arc : Arc} {b' b : BallState} {end : Float}
    {v : Result BallState Refusal} {w : Result Float Refusal}
    → arc ≡ step_arc c (aero_for c.fading aero) f.state → b' ≡ step_end (spin_after c.fading) arc f.state → MakesStep t 0 t1 → Tests t1 b' v t2 → v ≡ Ok b
    → Clears o t2 b.pos w t3 → w ≡ Ok end → Reached o (hop_step c (air_with c aero) f) (place t lc lp) 1 (to_arrive f arc b end) (place t3 lc lp)
searching c aero f e i r h u k v = passes _ _ (passes _ _ (stepped c aero f e i r) (h _ _ _) u) (k _ _) v

pub is_none : {A : Type 0} (w : Option A) → ((v : A) → w ≡ Some v → ⊥) → w ≡ None
is_none (Some v) h = absurd (h v refl)
is_none None h = refl

-- a crossing: the arrival is tested
abbrev pub to_land : BallState → M (Pass Flight Way)
to_land s = test s >>= λ s. pure (over (Arrived s))

-- no crossing: the sample point if it is due, and on
abbrev pub to_due : Flight → BallState → M (Pass Flight Way)
to_due f b = let due = is_due b.time f.next_sample in when due (push_point b Hop) >> pure (again (flight b (next_after due f.next_sample f.next_sample)))

module _ {o : Oracle} {m : M (Pass Flight Way)} {a b : Place} {n : ℕ} (f : Flight) (s : BallState) {w : Option BallState}
    (r : Reached o m a n (hop_next f s w) b) where
  pub met : {v : BallState} → w ≡ Some v → Reached o m a n (to_land v) b
  unfolding hop_next
  met e = rw e at r

  pub not_met : ((v : BallState) → w ≡ Some v → ⊥) → Reached o m a n (to_due f s) b
  unfolding hop_next
  not_met h = let e = is_none w h in rw e at r
