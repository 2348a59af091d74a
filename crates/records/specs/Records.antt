-- Definitions. A list of records, and the lent list of doubles that holds it: 01, "Lists": the pushed records in order, then +0.
use Rattle.std.specs.Prelude.{ℕ, zero, suc, ◌+◌, ◌-◌, ◌*◌, ◌/◌, ◌≤◌, ◌≡◌, Bool, true, false, List, [], ◌∷◌, ◌++◌, ltb, length, take, drop, replicate, Float, Option, Some, None}
use Rattle.std.specs.Float.Ieee.{of_bits}
use Rattle.std.specs.Float.{binary64}

abbrev pub null : Float
null = of_bits binary64 0

abbrev pub Records : Type 0
Records = List (List Float)

-- one record after another
unfoldable pub flat : Records → List Float
flat [] = []
flat (r ∷ rs) = r ++ flat rs

-- the contents of a lent list of `cap` doubles: the records, then +0 in all the rest
unfoldable pub shown : ℕ → Records → List Float
shown cap rs = flat rs ++ replicate (cap - length (flat rs)) null

-- a push: no room, or the records with one more
pub data Put : Type 0 where
  full : Put
  put : Records → Put

abbrev pub pick : {A : Type 0} → Bool → A → A → A
pick true a b = a
pick false a b = b

unfoldable pub pushed : ℕ → Records → List Float → Put
pushed room rs r = pick (ltb (length rs) room) (put (rs ++ (r ∷ []))) full

-- ---- what the code's list and count stand for

-- the first n records, w wide, of a flat list
unfoldable pub recs : ℕ → ℕ → List Float → Records
recs w zero l = []
recs w (suc n) l = take w l ∷ recs w n (drop w l)

-- by the count that a push gives, or none
abbrev pub as_put : ℕ → Option ℕ → List Float → Put
as_put w None l = full
as_put w (Some n) l = put (recs w n l)

abbrev pub zeroed : List Float → ℕ → List Float
zeroed l k = take k l ++ replicate (length l - k) null

-- the list holds n records, and +0 after them
pub record Clean (w n : ℕ) (l : List Float) : Type 0 where
  pub fits : n * w ≤ length l
  pub rest : drop (n * w) l ≡ replicate (length l - n * w) null

abbrev pub Kept : ℕ → ℕ → List Float → Option ℕ → List Float → Type 0
Kept w n l None m = m ≡ l
Kept w n l (Some k) m = (k ≡ n + 1) × (k * w ≤ length l) × (Clean w n l → Clean w k m)

pub record Pushes (w n : ℕ) (l r : List Float) (p : Option ℕ) (m : List Float) : Type 0 where
  pub same : as_put w p m ≡ pushed (length l / w) (recs w n l) r
  pub kept : Kept w n l p m
