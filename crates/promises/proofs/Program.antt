-- Statements. 12 comes with an input of under 240 or over 34,048 bytes alone. Assumes nothing.
use Rattle.std.specs.Prelude.{ℕ, ◌≤◌, ◌≡◌, ◌⊎◌, List, Float}
use Rattle.std.proofs.Common.{arith, inl, inr}
use Rattle.input.specs.Input.{shot_at, sheet_at, settle_input_of}
use Rattle.promises.proofs.Promises.{answers}
use Rattle.promises.specs.Program.{Sized, sized}

module _ (s : List ℕ) (cs ps : List Float) where
  -- and 12 is not among a settle's answers: so 12 comes exactly with an input of another size
  pub only_12 : (settle_input_of s cs ps).settled.answer ≡ 12 → Sized s → ⊥
  only_12 e h = no (answers (sheet_at s) (shot_at s) cs ps) (rw (sized s cs ps h) at e)
    where
      no : {n : ℕ} → (n ≤ 8) ⊎ ((20 ≤ n) × (n ≤ 23)) → n ≡ 12 → ⊥
      no (inl a) d = omega (arith, a, d)
      no (inr a) d = let b = a.0 in omega (arith, b, d)
