-- Lemmas: each word of the code does what the word of the definition does.
use Rattle.std.proofs.Common.{◌≡◌, ℕ, ◌≤◌, Bool, true, false, List, length, refl, arith}
use lib.Ieee.{Float}
use Rattle.state.specs.State.{state_ok}
use Rattle.state.specs.declared.BallState.{BallState}
use Rattle.state.specs.declared.Phase.{Phase}
use Rattle.surface.specs.declared.GroundSample.{GroundSample}
use Rattle.look.specs.Tree.{Look, Oracle, exec, did, look_tree}
use Rattle.look.proofs.Tree.{ends}
use Rattle.look.specs.Rect.{Rect}
use Rattle.records.specs.Records.{Pushes}
use Rattle.refusal.specs.declared.Refusal.{Refusal}
use Rattle.refusal.specs.declared.Refusal.TheVariants.{OutOfRange}
use Rattle.std.specs.Prelude.{Option, Some, None, Ok, Err, ok_or}
use Rattle.tally.specs.Language.{M, Outcome, goes, stops, when, point_width, contact_width, point_of, contact_of, seen_at, look}
use Rattle.std.specs.Prelude.{if◌then◌else◌}
use Rattle.tally.specs.Language.{test, put_point, push_contact}
use Rattle.tally.specs.Inner.{place, RunsBy, Runs, Looks, Searches, PushesIf, outcome_by, with_rect, with_search, with_contacts, with_points}
use Rattle.tally.specs.Lists.{stay, pushed_grown, full_grown}
use Rattle.tally.specs.declared.Tally.{Tally}

-- ---- a test
module _ {t : Tally} (s : BallState) {ok : Bool} (e : ok ≡ state_ok s) where
  pub tested_good : ok ≡ true → (o : Oracle) (lc lp : List Float)
      → Runs o (test s) 0 (place t lc lp) (goes s)
      (place (record { steps = t.steps; evaluations = t.evaluations; contacts = t.contacts; points = t.points; good = s; rect = t.rect }) lc lp)
  unfolding test exec
  tested_good h o lc lp = record { same = rw (← e, h); count = omega arith; work = omega arith; contacts = stay _ _ _; points = stay _ _ _ }

  pub tested_bad : ok ≡ false → (o : Oracle) (lc lp : List Float) → Runs o (test s) 0 (place t lc lp) (stops 22) (place t lc lp)
  unfolding test exec
  tested_bad h o lc lp = record { same = rw (← e, h); count = omega arith; work = omega arith; contacts = stay _ _ _; points = stay _ _ _ }

-- ---- a look

-- a call that only looks
pub only_looks : {A : Type 0} {o : Oracle} {m : M A} {t t' : Tally} {q : Rect} {x : Outcome A} → Looks o t.rect m x q → t' ≡ with_rect t q
    → (lc lp : List Float) → Runs o m 0 (place t lc lp) x (place t' lc lp)
only_looks h e lc lp = rw e (record { same = h _; count = omega arith; work = omega arith; contacts = stay _ _ _; points = stay _ _ _ })

-- a call that looks and searches
pub only_searches : {A : Type 0} {o : Oracle} {m : M A} {t t' : Tally} {q : Rect} {x : Outcome A} {k : ℕ} → Searches o t.rect m x k q → t' ≡ with_search t k q
    → k ≤ 200 → (lc lp : List Float) → RunsBy o m 0 200 (place t lc lp) x (place t' lc lp)
only_searches h e i lc lp = rw e (record { same = h _; count = omega arith; work = omega (arith, i); contacts = stay _ _ _; points = stay _ _ _ })

-- a look, by what comes of it
pub looked : {o : Oracle} {t : Tally} (x z : Float) {w : Look} {q : Rect} → did w q ≡ exec o t.rect (look_tree x z)
    → (lc lp : List Float) → Runs o (look x z) 0 (place t lc lp) (outcome_by (ok_or w OutOfRange)) (place (with_rect t q) lc lp)
unfolding look exec
looked {o} {t} x z {w = Some s} h = only_looks (λ l. ends o t.rect (look_tree x z) (λ (w : Look). seen_at w l) h refl refl) refl
looked {o} {t} x z {w = None} h = only_looks (λ l. ends o t.rect (look_tree x z) (λ (w : Look). seen_at w l) h refl refl) refl

-- ---- pushes
module _ {t : Tally} {l m : List Float} (s : BallState) (f : Phase) (y : Float) {p : Option ℕ} (h : Pushes point_width t.points l (point_of s f y) p m) where
  pub point_pushed : {n : ℕ} → length m ≡ length l → p ≡ Some n → (o : Oracle) (lc : List Float)
      → Runs o (put_point s f y) 0 (place t lc l) (goes tt) (place (with_points t n) lc m)
  unfolding put_point exec
  point_pushed n v o lc = record {
    same = rw (← h.same, v, n);
    count = omega arith;
    work = omega arith;
    contacts = stay _ _ _;
    points = pushed_grown _ _ _ _ _ n (rw v at h.kept);
  }

  pub no_point : p ≡ None → (o : Oracle) (lc : List Float) → Runs o (put_point s f y) 0 (place t lc l) (stops 21) (place t lc m)
  unfolding put_point exec
  no_point v o lc = let k : m ≡ l = rw v at h.kept in record
      { same = rw (← h.same, v, k); count = omega arith; work = omega arith; contacts = stay _ _ _; points = full_grown _ _ _ _ k }

module _ {t : Tally} {l m : List Float} (a : BallState) (s : GroundSample) (b : BallState) {p : Option ℕ}
    (h : Pushes contact_width t.contacts l (contact_of a s b) p m) where
  pub contact_pushed : {n : ℕ} → length m ≡ length l → p ≡ Some n → (o : Oracle) (lp : List Float)
      → Runs o (push_contact a s b) 0 (place t l lp) (goes tt) (place (with_contacts t n) m lp)
  unfolding push_contact exec
  contact_pushed n v o lp = record {
    same = rw (← h.same, v, n);
    count = omega arith;
    work = omega arith;
    contacts = pushed_grown _ _ _ _ _ n (rw v at h.kept);
    points = stay _ _ _;
  }

  pub no_contact : p ≡ None → (o : Oracle) (lp : List Float) → Runs o (push_contact a s b) 0 (place t l lp) (stops 20) (place t m lp)
  unfolding push_contact exec
  no_contact v o lp = let k : m ≡ l = rw v at h.kept in record
      { same = rw (← h.same, v, k); count = omega arith; work = omega arith; contacts = full_grown _ _ _ _ k; points = stay _ _ _ }

-- ---- what a push that may find no room gives
pub had_room : {A : Type 0} (p : Option A) (r : Refusal) {v : A} → ok_or p r ≡ Ok v → p ≡ Some v
had_room (Some a) r e = cc e
had_room None r e = cc e

pub had_none : {A : Type 0} (p : Option A) (r : Refusal) {s : Refusal} → ok_or p r ≡ Err s → (p ≡ None) × (s ≡ r)
had_none (Some a) r e = cc e
had_none None r e = (refl, cc e)

-- ---- no point is due
pub not_due : (o : Oracle) (t : Tally) (l : List Float) (s : BallState) (f : Phase) → PushesIf o false t l s f (Ok tt) t l
unfolding when exec
not_due o t l s f lc = record { same = refl; count = omega arith; work = omega arith; contacts = stay _ _ _; points = stay _ _ _ }
