-- Lemmas: the ways that a hop can go, for a run that flies it from its start.
use Rattle.std.specs.Prelude.{ℕ, ◌+◌, ◌-◌, ◌≡◌, List, Float, Result, Ok, Err}
use Rattle.std.specs.declared.ops.ControlFlow.{ControlFlow}
use Rattle.std.specs.declared.ops.ControlFlow.TheVariants.{Continue, Break}
use Rattle.number.specs.Ops.{◌⊕◌}
use Rattle.state.specs.declared.BallState.{BallState}
use Rattle.look.specs.Tree.{Oracle}
use Rattle.tally.specs.Times.{sample_interval}
use Rattle.tally.specs.Language.{M, ◌>>=◌, stop_with}
use Rattle.tally.specs.Inner.{Place, place, Reached}
use Rattle.tally.specs.declared.Conditions.{Conditions}
use Rattle.tally.specs.declared.Tally.{Tally}
use Rattle.tally.proofs.Reached.{went, halted}
use Rattle.tally.proofs.Loop.{due_stops}
use Rattle.refusal.specs.declared.Refusal.{Refusal}
use Rattle.refusal.specs.Refusal.{number_of}
use Rattle.hop.specs.Hop.{flight, hop_from, hop_on, hop}
use Rattle.hop.specs.Inner.{Hops}
use Rattle.hop.specs.declared.Flight.{Flight}
use Rattle.hop.specs.declared.Way.{Way}

module _ {A : Type 0} {o : Oracle} {m : M A} {a : Place} {n : ℕ} {t : Tally} {lc lp : List Float} (c : Conditions) (start : BallState)
    (k : Way → M A) {f : Flight}
    (r : Reached o m a n (hop c start >>= k) (place t lc lp)) (e : f ≡ flight start (start.time ⊕ sample_interval)) where
  from : Reached o m a n (hop_on c f >>= k) (place t lc lp)
  unfolding hop
  from = rw e r

  module _ {t' : Tally} {lp' : List Float} {w : Result (ControlFlow Way Flight) Refusal} (h : Hops o c f t lp w t' lp') where
    pub hop_stopped : {s : Refusal} → w ≡ Err s → Reached o m a (n + (t'.steps - t.steps)) (stop_with (number_of s)) (place t' lc lp')
    hop_stopped v = halted _ k from (rw v at (h lc))

    module _ {p : ControlFlow Way Flight} (v : w ≡ Ok p) where
      pub flew : {way : Way} → p ≡ Break way → Reached o m a (n + (t'.steps - t.steps)) (k way) (place t' lc lp')
      flew u = went _ k from (rw (v, u) at (h lc))

      -- step_limit is reached: 23
      pub hop_due : {g : Flight} → p ≡ Continue g → Reached o m a (n + (t'.steps - t.steps)) (stop_with 23) (place t' lc lp')
      unfolding hop_from
      hop_due u = let d = rw (v, u) at (h lc) in halted _ k from (due_stops _ _ _ _ d.0 d.1)
