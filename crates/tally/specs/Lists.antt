-- Lemmas. What the pushes keep of a list.
use Rattle.std.specs.Prelude.{◌≡◌, ℕ, ◌+◌, ◌*◌, ◌/◌, ◌≤◌, List, length, refl, Float}
use Rattle.std.proofs.Common.{le_refl, le_trans, arith, ◌∙◌}
use Rattle.records.specs.Records.{Kept}
use Rattle.std.specs.Prelude.{Some, None}
use Rattle.tally.specs.Inner.{Grown}

pub stay : (w n : ℕ) (l : List Float) → Grown w n l n l
stay w n l = record { more = le_refl n; long = refl; clean = λ c. c }

pub grow : {w n k j : ℕ} {l m p : List Float} → Grown w n l k m → Grown w k m j p → Grown w n l j p
grow a b = record { more = le_trans a.more b.more; long = b.long ∙ a.long; clean = λ c. b.clean (a.clean c) }

-- a push that was made
pub pushed_grown : (w n k : ℕ) (l m : List Float) → length m ≡ length l → Kept w n l (Some k) m → Grown w n l k m
pushed_grown w n k l m e h = record { more = let e = h.0 in omega arith; long = e; clean = h.2 }

-- one that found no room
pub full_grown : (w n : ℕ) (l m : List Float) → Kept w n l None m → Grown w n l n m
full_grown w n l m h = rw h (stay w n l)
