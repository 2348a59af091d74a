-- Statements. An arrival makes at most 200 evaluations: those of its one search, if it has a crossing. Assumes nothing.
use Prim.Native.Nat.{ℕ, zero, suc, ◌+◌}
use Rattle.std.proofs.Common.{arith}
use Rattle.std.specs.Prelude.{Bool, true, false, eqb, pos, Float, None, Some}
use Rattle.std.specs.Float.Ieee.{le, eq, of_int, binary64}
use Rattle.number.specs.Ops.{◌⊗◌, ◌⊘◌, dec}
use Rattle.vector.specs.declared.DVec3.{DVec3}
use Rattle.search.specs.declared.Bracket.{Bracket}
use Rattle.tally.specs.Language.{M, ◌>>=◌, pure, look}
use Rattle.std.specs.Prelude.{if◌then◌else◌}
use Rattle.tally.proofs.Triple.{t_after}
use Rattle.arrival.specs.declared.Arc.{Arc}
use Rattle.arrival.specs.Arrival.{arc_of, clearance_at, sub_step, crossing_from, first_crossing, end_value, crossing_time, hop_arrival}
use Rattle.arrival.specs.RootSearch.{EvaluatesAtMost, grows_pure, grows_then, look_evaluates, clearance_evaluates, search_at_most_200}

-- after a part that makes none
after : {A B : Type 0} (n : ℕ) (x : M A) (k : A → M B) → EvaluatesAtMost 0 x → ((a : A) → EvaluatesAtMost n (k a)) → EvaluatesAtMost n (x >>= k)
after n x k h g o j = t_after (λ b w p. omega (arith, p)) (λ i w p. omega (arith, p)) (grows_then (λ w. w.log.evaluations) 0 n x k h g o j)

value : {A : Type 0} (n : ℕ) (a : A) → EvaluatesAtMost n (pure a)
value = grows_pure (λ w. w.log.evaluations)

either : {A : Type 0} (n : ℕ) (c : Bool) (x y : M A) → EvaluatesAtMost n x → EvaluatesAtMost n y → EvaluatesAtMost n (if c then x else y)
either n true x y p q = p
either n false x y p q = q

module _ (arc : Arc) where
  at_time : (tau : Float) → EvaluatesAtMost 0 (clearance_at arc tau)
  unfolding clearance_at
  at_time tau = clearance_evaluates (arc_of arc tau).pos

  sub_step_lem : (f_end : Float) (i : ℕ) (b : Bracket) → EvaluatesAtMost 0 (sub_step (clearance_at arc) arc.h f_end i b)
  unfolding sub_step
  sub_step_lem f_end i b =
      either 0 (eqb i 8) _ _ (value 0 _) (after 0 (clearance_at arc (arc.h ⊗ of_int binary64 (pos i) ⊘ dec 8 1)) _ (at_time _) (λ fx. value 0 _))

  -- 02, paper 4, as read: the looks of first_crossing are none
  crossing_from_lem : (f_end : Float) (n i : ℕ) (b : Bracket) → EvaluatesAtMost 0 (crossing_from (clearance_at arc) arc.h f_end n i b)
  unfolding crossing_from
  crossing_from_lem f_end zero i b = value 0 None
  crossing_from_lem f_end (suc n) i b =
      after 0 (sub_step (clearance_at arc) arc.h f_end i b) _ (sub_step_lem f_end i b)
      (λ next. either 0 (le next.f_hi (dec 0 1)) _ _ (value 0 (Some next)) (crossing_from_lem f_end n (i + 1) next))

  end_value_lem : (b : Bracket) → EvaluatesAtMost 0 (end_value arc b)
  unfolding end_value
  end_value_lem b = either 0 (eq b.hi arc.h) _ _ (after 0 (clearance_at arc arc.h) _ (at_time arc.h) (λ c. value 0 _)) (value 0 _)

  pub crossing_time_at_most_200 : (b : Bracket) → EvaluatesAtMost 200 (crossing_time arc b)
  unfolding crossing_time
  crossing_time_at_most_200 b =
      after 200 (end_value arc b) _ (end_value_lem b) (λ f_hi. after 200 (look _ _) _ (look_evaluates _ _) (λ end. search_at_most_200 arc _ _))

  pub arrival_at_most_200 : (t end : Float) (spin : DVec3) → EvaluatesAtMost 200 (hop_arrival arc t end spin)
  unfolding hop_arrival first_crossing
  arrival_at_most_200 t end spin =
      after 200 (clearance_at arc (dec 0 1)) _ (at_time (dec 0 1))
      (λ f0. after 200 (first_crossing (clearance_at arc) arc.h f0 end) _ (crossing_from_lem end 8 1 _)
      (elim [
        | None ↦ value 200 None
        | Some b ↦ grows_then (λ w. w.log.evaluations) 200 0 (crossing_time arc b) _ (crossing_time_at_most_200 b)
            (λ tau. after 0 (look _ _) _ (look_evaluates _ _) (λ s. value 0 _))
      ]))
