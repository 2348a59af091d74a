-- Lemmas: a loop of passes, what holds midway in it, and how it goes on and ends.
use Rattle.std.proofs.Common.{◌≡◌, ℕ, suc, ◌-◌, ◌<◌, ◌≤◌, Bool, true, false, refl, arith, Result, Ok, Err, ControlFlow, Continue, Break}
use Rattle.look.specs.Tree.{Oracle, exec}
use Rattle.tally.specs.declared.Conditions.{Conditions}
use Rattle.tally.specs.Language.{M, Outcome, goes, stops, pure, stop_with, ◌>>=◌, steps_left, Pass, again, loop}
use Rattle.tally.specs.Inner.{Place, log_at, Runs, RunsOn, Reached, Bounded, over_by, passes_by}
use Rattle.refusal.specs.declared.Refusal.{Refusal}
use Rattle.refusal.specs.Refusal.{number_of}
use Rattle.tally.proofs.Words as Words
use Rattle.tally.proofs.Reached.{begun, ended, on, came, said, beyond, last}

-- the whole loop, with the steps that are left of step_limit
abbrev pub whole : {A B : Type 0} → Conditions → (A → Bool) → (A → M B) → (A → M (Pass A B)) → A → M B
whole c late at_end pass a₀ = steps_left c >>= λ n. loop n late at_end pass a₀

module _ {A B : Type 0} (o : Oracle) (c : Conditions) (late : A → Bool) (at_end : A → M B) (pass : A → M (Pass A B)) (a₀ : A) (p₀ : Place) where
  -- the passes left from here are what is left of all of them
  pub record Midway (a : A) (p : Place) : Type 0 where
    pub reached : Reached o (whole c late at_end pass a₀) p₀ (p.tally.steps - p₀.tally.steps)
        (loop (c.step_limit - p.tally.steps) late at_end pass a) p

  pub starts : Midway a₀ p₀
  starts = record {
    reached = came (said (whole c late at_end pass a₀) (loop (c.step_limit - p₀.tally.steps) late at_end pass a₀) begun
        (Words.left_steps o _ _ _ c refl));
  }

-- at most 200 evaluations a step stays so
pub still_bounded : {A : Type 0} {o : Oracle} {m m' : M A} {a b : Place} {n : ℕ} {c : Conditions} → Reached o m a n m' b → Bounded c a.tally
    → Bounded c b.tally
still_bounded r h = record { limit = h.limit; work = omega (arith, r.count, r.work, h.work) }

pub bounded_after : {A : Type 0} {o : Oracle} {m : M A} {a b : Place} {n : ℕ} {x : Outcome A} {c : Conditions} → Runs o m n a x b → Bounded c a.tally
    → Bounded c b.tally
bounded_after r h = record { limit = h.limit; work = omega (arith, r.count, r.work, h.work) }

-- nothing is done
pub stands : {A : Type 0} (o : Oracle) (v : A) (p : Place) → RunsOn o (pure v) p (goes v) p
stands o v p = on (ended begun)

module _ {A B : Type 0} {o : Oracle} {c : Conditions} {late : A → Bool} {at_end : A → M B} {pass : A → M (Pass A B)} {a₀ : A} {p₀ : Place} {a : A} {p : Place}
    (here : Midway o c late at_end pass a₀ p₀ a p) where
  -- t_end came
  pub ends_late : {x : Outcome B} {p' : Place} → late a ≡ true → RunsOn o (at_end a) p x p' → RunsOn o (whole c late at_end pass a₀) p₀ x p'
  ends_late e r = on (last (said _ (at_end a) here.reached (Words.loop_late o _ late at_end pass a _ _ e refl)) r)

  -- no step is left
  pub ends_due : c.step_limit ≤ p.tally.steps
      → Reached o (whole c late at_end pass a₀) p₀ (p.tally.steps - p₀.tally.steps) (loop 0 late at_end pass a) p
  ends_due h = let z : c.step_limit - p.tally.steps ≡ 0 = omega (arith, h) in rw z at here.reached

  module _ (e : late a ≡ false) (h : p.tally.steps < c.step_limit) {x : Outcome (Pass A B)} {p' : Place} (r : Runs o (pass a) 1 p x p') where
    one_less : c.step_limit - p.tally.steps ≡ suc (c.step_limit - p'.tally.steps)
    one_less = omega (arith, r.count, h)

    -- the pass goes on to another
    pub goes_on : {b : A} → x ≡ goes (again b) → Midway o c late at_end pass a₀ p₀ b p'
    goes_on {b} y = record { reached = came (beyond here.reached r (Words.loop_again o _ late at_end pass a _ one_less e r.same y refl)) }

    -- the pass ends the loop, or stops
    pub ends_done : (y : Outcome B) → x ≡ over_by y → RunsOn o (whole c late at_end pass a₀) p₀ y p'
    unfolding exec
    ends_done y z = on (ended (beyond here.reached r (Words.loop_done o _ late at_end pass a _ y one_less e r.same z)))

  -- the same, by what the code's pass gave
  module _ (e : late a ≡ false) (h : p.tally.steps < c.step_limit) {w : Result (ControlFlow B A) Refusal} {p' : Place}
      (r : Runs o (pass a) 1 p (passes_by w) p') where
    pub continues : {v : ControlFlow B A} {b : A} → w ≡ Ok v → v ≡ Continue b → Midway o c late at_end pass a₀ p₀ b p'
    continues i j = goes_on e h (rw (i, j) at r) refl

    pub breaks : {v : ControlFlow B A} {y : B} → w ≡ Ok v → v ≡ Break y → RunsOn o (whole c late at_end pass a₀) p₀ (goes y) p'
    breaks {y} i j = ends_done e h (rw (i, j) at r) (goes y) refl

    pub stops_by : {s : Refusal} → w ≡ Err s → RunsOn o (whole c late at_end pass a₀) p₀ (stops (number_of s)) p'
    stops_by {s} i = ends_done e h (rw i at r) (stops (number_of s)) refl

-- 23: what is left of a loop that may make no step more, and is not late
pub due_stops : {A B : Type 0} {o : Oracle} (late : A → Bool) (at_end : A → M B) (pass : A → M (Pass A B)) (a : A) {m : M B} {p₀ p : Place} {n : ℕ}
    → late a ≡ false → Reached o m p₀ n (loop 0 late at_end pass a) p → RunsOn o m p₀ (stops 23) p
unfolding exec
due_stops late at_end pass a e r = on (ended (said _ (stop_with 23) r (Words.loop_out _ _ late at_end pass a _ refl e)))
