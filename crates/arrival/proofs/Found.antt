-- Lemmas. What calls find one after another is what the whole finds. Assumes nothing.
use Rattle.std.specs.Prelude.{◌≡◌, refl, ℕ, ◌+◌, ◌≤◌, [], Result, Ok, Err, IsErrAnd}
use Rattle.std.proofs.Common.{arith}
use Rattle.look.specs.Tree.{Oracle, exec}
use Rattle.refusal.proofs.Failed.{failed}
use Rattle.refusal.specs.declared.Refusal.{Refusal}
use Rattle.tally.specs.Language.{M, Outcome, goes, pure, ◌>>=◌}
use Rattle.tally.specs.Inner.{outcome_by}
use Rattle.tally.specs.Lists.{stay, grow}
use Rattle.tally.specs.declared.Tally.{Tally}
use Rattle.tally.proofs.Words as Words
use Rattle.arrival.specs.Inner.{Asks, Finds}

-- nothing is left to find
pub found : {A : Type 0} {o : Oracle} {t : Tally} {a : A} → Asks o (pure a) 0 t (goes a) t
unfolding exec
found lc lp = record { same = refl; count = omega arith; work = omega arith; contacts = stay _ _ _; points = stay _ _ _ }

-- at most e evaluations are at most i
pub within : {A : Type 0} {o : Oracle} {m : M A} {e i : ℕ} {t u : Tally} {x : Outcome A} → e ≤ i → Asks o m e t x u → Asks o m i t x u
within h f lc lp = let r = f lc lp in record { same = r.same; count = r.count; work = omega (arith, h, r.work); contacts = r.contacts; points = r.points }

pub few : {A : Type 0} {o : Oracle} {m : M A} {e : ℕ} {t u : Tally} {x : Outcome A} → Asks o m e t x u → u.evaluations ≤ t.evaluations + e
few f = (f [] []).work

module _ {A B : Type 0} {o : Oracle} (w : M A) (k : A → M B) {e : ℕ} {t u : Tally} {x : Result A Refusal} (f : Finds o w e t x u) where
  -- the call found a value, and what follows it came to y
  pub onward : {v : A} {i : ℕ} {y : Outcome B} {z : Tally} → x ≡ Ok v → Asks o (k v) i u y z → Asks o (w >>= k) (e + i) t y z
  onward s g lc lp = let a = rw s at (f lc lp) in let b = g lc lp in record {
    same = Words.went o _ w k _ a.same refl b.same;
    count = omega (arith, a.count, b.count);
    work = omega (arith, a.work, b.work);
    contacts = grow a.contacts b.contacts;
    points = grow a.points b.points;
  }

  -- the call stopped, and y is what a `?` gives then
  pub stopped : {r : Refusal} → x ≡ Err r → (y : Result B Refusal) → IsErrAnd y (λ e. e ≡ r) → Asks o (w >>= k) e t (outcome_by y) u
  stopped s y h lc lp = rw (failed y h) (let a = rw s at (f lc lp) in record {
    same = Words.halted o _ w k _ a.same refl;
    count = a.count;
    work = a.work;
    contacts = a.contacts;
    points = a.points;
  })

-- what the whole, m, finds from t is what is left of it, m', finds from t'
abbrev pub Left : {A : Type 0} → Oracle → M A → ℕ → Tally → M A → ℕ → Tally → Type 0
Left {A} o m e t m' e' t' = (x : Outcome A) (u : Tally) → Asks o m' e' t' x u → Asks o m e t x u
