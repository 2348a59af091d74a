-- Definitions. What is said of a walk: its turns with the places of both fronts, the places of a mark, and why a time was marked.
use Rattle.std.specs.Prelude.{ℕ, suc, ◌<◌, ◌≡◌, not, ◌⊎◌, T, eqb, length, get_or, Float}
use mathlib.Core.List.{List, [], ◌∷◌, Memᴰ}
use Rattle.std.specs.Float.{nan}
use Rattle.std.specs.Float.Ieee.{lt}
use Rattle.std.specs.Prelude.{if◌then◌else◌}
use Rattle.listen.specs.Listen.{near, walk}
use Rattle.listen.specs.declared.Mark.{Mark}
use Rattle.listen.specs.declared.Mark.TheVariants.{Paired, HeardOnly, ComputedOnly}

-- ---- a turn: what was marked, and how many heard times and how many contacts had been marked before. These are the places of the fronts, from 0; a
-- list that had ended has its length for a place
pub record Turn : Type 0 where
  pub mark : Mark
  pub heard : ℕ
  pub contact : ℕ

abbrev pub turn : Mark → ℕ → ℕ → Turn
turn m i j = record { mark = m; heard = i; contact = j }

unfoldable pub turns_from : ℕ → ℕ → List Mark → List Turn
turns_from i j [] = []
turns_from i j (Paired ∷ w) = turn Paired i j ∷ turns_from (suc i) (suc j) w
turns_from i j (HeardOnly ∷ w) = turn HeardOnly i j ∷ turns_from (suc i) j w
turns_from i j (ComputedOnly ∷ w) = turn ComputedOnly i j ∷ turns_from i (suc j) w

-- all turns of a walk, in order
abbrev pub turns : Float → List Float → List Float → List Turn
turns t hs cs = turns_from 0 0 (walk t hs cs)

-- ---- the places, from i on, at which the mark k stands
unfoldable pub places : ℕ → ℕ → List ℕ → List ℕ
places k i [] = []
places k i (m ∷ l) = if eqb m k then i ∷ places k (suc i) l else places k (suc i) l

abbrev pub Increasing : List ℕ → Type 0
Increasing l = (k : ℕ) → suc k < length l → get_or l k 0 < get_or l (suc k) 0

-- ---- why a time was marked
module _ (t : Float) (hs cs : List Float) where
  -- heard time i and contact j are a pair: they stood against each other, no further apart than the tolerance
  pub record PairAt (i j : ℕ) : Type 0 where
    pub fronts : Memᴰ (turn Paired i j) (turns t hs cs)
    pub i_heard : i < length hs
    pub j_contact : j < length cs
    pub within : T (near t (get_or hs i nan) (get_or cs j nan))

  -- heard time i is heard only: the contacts had ended, or it was earlier than their front, and further from it than the tolerance
  pub record HeardOnlyAt (i : ℕ) : Type 0 where
    pub against : ℕ
    pub fronts : Memᴰ (turn HeardOnly i against) (turns t hs cs)
    pub why :
        (against ≡ length cs)
        ⊎ ((against < length cs) × T (not (near t (get_or hs i nan) (get_or cs against nan))) × T (lt (get_or hs i nan) (get_or cs against nan)))

  -- contact j is computed only: the heard times had ended, or it was earlier than their front, and further from it than the tolerance
  pub record ComputedOnlyAt (j : ℕ) : Type 0 where
    pub against : ℕ
    pub fronts : Memᴰ (turn ComputedOnly against j) (turns t hs cs)
    pub why :
        (against ≡ length hs)
        ⊎ ((against < length hs) × T (not (near t (get_or hs against nan) (get_or cs j nan))) × T (lt (get_or cs j nan) (get_or hs against nan)))
