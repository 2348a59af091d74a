-- Statements. The program's input: 12 comes with under 240 or over 34,048 bytes (then alone: proofs/Program); the call is then refused as any other. Assumes nothing.
use Rattle.std.specs.Prelude.{ℕ, ◌≤◌, ◌≡◌, Bool, List, Float, length}
use Rattle.std.proofs.Math.Path.{refl}
use Rattle.std.proofs.Math.Bool.{true, false}
use Rattle.std.proofs.Math.Dec.{leb}
use borrow.Author.Tests.{leb-true, le-leb}
use Rattle.ground.specs.Settle.{result_of, refusal, settle_of}
use Rattle.input.specs.Input.{shot_at, sheet_at, settle_input_by, settle_input_of}

-- 01, 12: "under 240 or over 34,048 bytes"
abbrev pub Sized : List ℕ → Type 0
Sized s = (240 ≤ length s) × (length s ≤ 34048)

module _ (s : List ℕ) (cs ps : List Float) where
  -- an input of another size is answered by 12, with zero counts, state and rectangle and its lists untouched
  pub not_sized : (Sized s → ⊥) → settle_input_of s cs ps ≡ result_of (refusal 12) cs ps
  unfolding settle_input_by
  not_sized h = go (leb 240 (length s)) (leb (length s) 34048) refl refl
    where
      go : (a b : Bool) → leb 240 (length s) ≡ a → leb (length s) 34048 ≡ b → settle_input_of s cs ps ≡ result_of (refusal 12) cs ps
      go true true i j = absurd (h (leb-true 240 (length s) i, leb-true (length s) 34048 j))
      go true false i j = rw (i, j)
      go false b i j = rw i

  -- one of this size is settled
  pub sized : Sized s → settle_input_of s cs ps ≡ settle_of (sheet_at s) (shot_at s) cs ps
  unfolding settle_input_by
  sized h = rw (le-leb 240 (length s) h.0, le-leb (length s) 34048 h.1)
