-- Statements. The arrival's time lies within the step: tau from 0 to h by value, for every step of a length h above 0. Assumes nothing.
use Rattle.std.specs.Prelude.{◌≡◌, refl, T, Float, Option, None, Some}
use Rattle.std.specs.Float.{binary64}
use Rattle.std.specs.Float.Ieee.{fits, lt, le}
use Rattle.number.specs.Ops.{◌⊕◌, dec}
use Rattle.number.specs.Order.{le_through, within_of_lem, within_lo, within_hi}
use Rattle.vector.specs.declared.DVec3.{DVec3}
use Rattle.state.specs.declared.BallState.{BallState}
use Rattle.search.proofs.Evaluations.{Within, largest}
use Rattle.tally.specs.Language.{M, look}
use Rattle.arrival.specs.declared.Arc.{Arc}
use Rattle.arrival.specs.Arrival.{clearance_at, first_crossing, crossing_time, arc_of, placed, hop_arrival}
use Rattle.arrival.specs.RootSearch.{Gives, gives_pure, gives_then, gives_bind, crossing_time_within}
use Rattle.arrival.proofs.FirstCrossing.{IfSome, InStep, crossing_ends}

-- a state at the time t ⊕ tau, with tau within a step of length h
pub record ArrivesIn (t h : Float) (b : BallState) : Type 0 where
  pub tau : Float
  pub within : Within (dec 0 1) h tau
  pub is : b.time ≡ t ⊕ tau

-- both cases of what may be there
gives_case : {A B : Type 0} (Q : A → Type 0) (P : B → Type 0) (k : Option A → M B) → Gives P (k None) → ((a : A) → Q a → Gives P (k (Some a)))
    → (c : Option A) → IfSome Q c → Gives P (k c)
gives_case Q P k n s None w = n
gives_case Q P k n s (Some a) w = s a w

pub arrival_within : (arc : Arc) (t end : Float) (spin : DVec3) → T (fits binary64 arc.h) → T (lt (dec 0 1) arc.h) → T (le arc.h largest)
    → Gives (IfSome (ArrivesIn t arc.h)) (hop_arrival arc t end spin)
unfolding hop_arrival placed
arrival_within arc t end spin f p q =
    let P = IfSome (ArrivesIn t arc.h) in
    gives_bind P (clearance_at arc (dec 0 1)) _ (λ f0. gives_then (IfSome (InStep arc.h)) P (first_crossing (clearance_at arc) arc.h f0 end) _
    (gives_case (InStep arc.h) P _ (gives_pure P None tt) (λ b w.
    gives_then (Within b.lo b.hi) P (crossing_time arc b) _
    (λ tau v. gives_bind P (look _ _) _ (λ s. gives_pure P (Some (placed (arc_of arc tau) (t ⊕ tau) s.height spin)) (record {
      tau = tau;
      within = within_of_lem (dec 0 1) arc.h tau (le_through (dec 0 1) b.lo tau w.from_0 (within_lo b.lo b.hi tau v))
          (le_through tau b.hi arc.h (within_hi b.lo b.hi tau v) w.to);
      is = refl;
    }))) (crossing_time_within arc b w.ends))) (crossing_ends (clearance_at arc) arc.h f0 end f p q))
