-- Lemmas. What a `?` passes on is the refusal that came.
use Rattle.std.specs.Prelude.{◌≡◌, Result, Ok, Err, IsErrAnd}
use Rattle.std.proofs.Common.{ap}
use Rattle.refusal.specs.declared.Refusal.{Refusal}

pub failed : {A : Type 0} (x : Result A Refusal) {e : Refusal} → IsErrAnd x (λ r. r ≡ e) → x ≡ Err e
failed (Ok v) h = absurd h
failed (Err r) h = ap Err h
