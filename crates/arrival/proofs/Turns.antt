-- Lemmas. One turn of the crossing search, and one of the root search. Assumes nothing.
use Rattle.std.specs.Prelude.{◌≡◌, refl, ℕ, suc, ◌+◌, ◌-◌, ◌<◌, ◌≤◌, true, false, Float, Result, Ok, Err, IsErrAnd, Option, Some, None}
use Rattle.std.proofs.Common.{arith}
use Rattle.std.specs.Float.Ieee.{le}
use Rattle.std.specs.declared.ops.ControlFlow.{ControlFlow}
use Rattle.std.specs.declared.ops.ControlFlow.TheVariants.{Continue, Break}
use Rattle.number.specs.Ops.{dec}
use Rattle.look.specs.Tree.{Oracle, exec}
use Rattle.refusal.specs.declared.Refusal.{Refusal}
use Rattle.search.specs.Search.{in_bracket, narrowed, root_from}
use Rattle.search.specs.declared.Bracket.{Bracket}
use Rattle.search.specs.declared.Search.{Search}
use Rattle.tally.specs.Language.{M, Outcome, goes, in_m, count_evaluation, evaluate}
use Rattle.tally.specs.Inner.{outcome_by}
use Rattle.tally.specs.Lists.{stay}
use Rattle.tally.specs.declared.Tally.{Tally}
use Rattle.arrival.specs.Arrival.{sub_step, crossing_from}
use Rattle.arrival.specs.Inner.{Asks, Finds}
use Rattle.arrival.proofs.Found.{found, within, onward, stopped}

-- ---- sub-step i, and what follows from it
eight_left : {i : ℕ} → i ≤ 8 → 9 - i ≡ suc (9 - (i + 1))
eight_left h = omega (arith, h)

module _ {o : Oracle} (f : Float → M Float) (len f_end : Float) {i : ℕ} (b : Bracket) {t u : Tally} {x : Result Bracket Refusal} (h : i ≤ 8)
    (c : Finds o (sub_step f len f_end i b) 0 t x u) where
  pub crossing_off : {r : Refusal} → x ≡ Err r → (y : Result (Option Bracket) Refusal) → IsErrAnd y (λ e. e ≡ r)
      → Asks o (crossing_from f len f_end (9 - i) i b) 0 t (outcome_by y) u
  unfolding crossing_from
  crossing_off e y g = rw (eight_left h) (stopped _ _ c e y g)

  pub crossing_at : {y : Bracket} → x ≡ Ok y → le y.f_hi (dec 0 1) ≡ true → Asks o (crossing_from f len f_end (9 - i) i b) 0 t (goes (Some y)) u
  unfolding crossing_from
  crossing_at e v = rw (eight_left h) (onward _ _ c {i = 0} e (rw v found))

  pub crossing_on : {y : Bracket} {d : Outcome (Option Bracket)} {z : Tally} → x ≡ Ok y → le y.f_hi (dec 0 1) ≡ false
      → Asks o (crossing_from f len f_end (9 - (i + 1)) (i + 1) y) 0 u d z → Asks o (crossing_from f len f_end (9 - i) i b) 0 t d z
  unfolding crossing_from
  crossing_on e v g = rw (eight_left h) (onward _ _ c {i = 0} e (rw v g))

-- all eight are tried
pub crossing_none : {o : Oracle} (f : Float → M Float) (len f_end : Float) {i : ℕ} (b : Bracket) {t : Tally} → i ≡ 9
    → Asks o (crossing_from f len f_end (9 - i) i b) 0 t (goes None) t
unfolding crossing_from
crossing_none f len f_end b e = rw e found

-- ---- one evaluation more, and what follows from it
abbrev pub counted : Tally → Tally
counted t = record { steps = t.steps; evaluations = t.evaluations + 1; contacts = t.contacts; points = t.points; good = t.good; rect = t.rect }

count : {o : Oracle} (t : Tally) → Asks o count_evaluation 1 t (goes tt) (counted t)
unfolding count_evaluation exec
count t lc lp = record { same = refl; count = omega arith; work = omega arith; contacts = stay _ _ _; points = stay _ _ _ }

evaluated : {o : Oracle} (f : Float → M Float) (s : Search) (t : Tally) {u : Tally} {z : Float} {x : Outcome Float} → z ≡ in_bracket s
    → Asks o (f z) 0 (counted t) x u → Asks o (evaluate f (in_bracket s)) 1 t x u
evaluated f s t {z} i c = rw (← i) (onward count_evaluation (λ _. f z) {x = Ok tt} (count t) {i = 0} refl c)

most_left : {n : ℕ} → n < 200 → 200 - n ≡ suc (200 - (n + 1))
most_left h = omega (arith, h)

-- n of 200 evaluations are made; the code makes one more at z
module _ {o : Oracle} (f : Float → M Float) (s : Search) (n : ℕ) (t : Tally) {u : Tally} {z : Float} {x : Result Float Refusal} (h : n < 200)
    (i : z ≡ in_bracket s) (c : Finds o (f z) 0 (counted t) x u) where
  pub root_off : {r : Refusal} → x ≡ Err r → (y : Result Float Refusal) → IsErrAnd y (λ e. e ≡ r)
      → Asks o (root_from in_m (evaluate f) (200 - n) s) (200 - n) t (outcome_by y) u
  unfolding root_from
  root_off e y g = rw (most_left h) (within (omega arith) (stopped _ _ (evaluated f s t i c) e y g))

  module _ {y : Float} {w : ControlFlow Float Search} (e : x ≡ Ok y) (v : w ≡ narrowed s z y) where
    pub root_at : {a : Float} → w ≡ Break a → Asks o (root_from in_m (evaluate f) (200 - n) s) (200 - n) t (goes a) u
    unfolding root_from
    root_at g = rw (most_left h) (within (omega arith) (onward _ _ (evaluated f s t i c) {i = 0} e (rw (← i, ← v, g) found)))

    pub root_on : {s' : Search} {d : Outcome Float} {z' : Tally} → w ≡ Continue s'
        → Asks o (root_from in_m (evaluate f) (200 - (n + 1)) s') (200 - (n + 1)) u d z'
        → Asks o (root_from in_m (evaluate f) (200 - n) s) (200 - n) t d z'
    unfolding root_from
    root_on g k = rw (most_left h) (within (omega arith) (onward _ _ (evaluated f s t i c) {i = 200 - (n + 1)} e (rw (← i, ← v, g) k)))

-- all 200 are made
pub root_out : {o : Oracle} (f : Float → M Float) (s : Search) {n : ℕ} {t : Tally} → n ≡ 200
    → Asks o (root_from in_m (evaluate f) (200 - n) s) (200 - n) t (goes s.bracket.hi) t
unfolding root_from
root_out f s e = rw e found
