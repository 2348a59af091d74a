-- Lemmas: the ways that an arrival can go, for a run that asks it.
use Rattle.std.specs.Prelude.{◌≡◌, ℕ, ◌+◌, ◌*◌, ◌≤◌, List, Float, Result, Ok, Err, Option}
use Rattle.std.proofs.Common.{arith}
use Rattle.refusal.specs.Refusal.{number_of}
use Rattle.refusal.specs.declared.Refusal.{Refusal}
use Rattle.vector.specs.declared.DVec3.{DVec3}
use Rattle.state.specs.declared.BallState.{BallState}
use Rattle.look.specs.Tree.{Oracle}
use Rattle.tally.specs.Language.{M, ◌>>=◌, stop_with}
use Rattle.tally.specs.Inner.{Place, place, Reached}
use Rattle.tally.specs.declared.Tally.{Tally}
use Rattle.tally.proofs.Reached.{searched, search_halted}
use Rattle.arrival.specs.Arrival.{hop_arrival}
use Rattle.arrival.specs.Inner.{Clears, Arrives}
use Rattle.arrival.specs.declared.Arc.{Arc}
use Rattle.arrival.proofs.Found.{few}

-- a clearance makes no evaluation
pub no_work_cleared : (o : Oracle) (p : DVec3) {t t' : Tally} (x : Result Float Refusal) → Clears o t p x t' → t'.evaluations ≤ t.evaluations
no_work_cleared o p x h = let r = few h in omega (arith, r)

module _ {A : Type 0} {o : Oracle} {m : M A} {a : Place} {n : ℕ} {t : Tally} {lc lp : List Float} (arc : Arc) (time end : Float) (spin : DVec3)
    (k : Option BallState → M A) {x : Result (Option BallState) Refusal} {t' : Tally}
    (r : Reached o m a n (hop_arrival arc time end spin >>= k) (place t lc lp)) (room : t.evaluations + 200 ≤ a.tally.evaluations + 200 * n)
    (h : Arrives o t arc time end spin x t') where
  pub arrived : {v : Option BallState} → x ≡ Ok v → Reached o m a n (k v) (place t' lc lp)
  arrived e = searched _ k r room (rw e at (h lc lp))

  pub arrive_off : {e : Refusal} → x ≡ Err e → Reached o m a n (stop_with (number_of e)) (place t' lc lp)
  arrive_off e = search_halted _ k r room (rw e at (h lc lp))
