-- Definitions. The board's rules on the list of its entries (01, "Lists and the rest of the shop"; 02, papers 2, 6 and 7; numbers 31, 10, 25, 24): the
-- order of a listing, by which number an entry is turned back, and where an accepted one goes.
use Rattle.std.specs.Prelude.{ℕ, ◌+◌, Bool, true, false, not, ◌&&◌, ◌||◌, cond, List, [], ◌∷◌, leb, ltb, eqb, length, Float}
use Rattle.std.specs.Float.Ieee.{lt, eq}
use Rattle.number.specs.Ops.{◌⊕◌, ◌⊖◌, ◌⊗◌, dec}
use Rattle.number.specs.Number.{about_of}
use Rattle.state.specs.declared.Termination.{Termination}
use Rattle.state.specs.declared.Termination.TheVariants.{Rest, MaxTime, MaxImpacts}
use Rattle.std.specs.Prelude.{Option, Some, None}
use Rattle.board.specs.declared.Entry.{Entry}

-- 01: "Key: dx×dx + dz×dz, in doubles", from the pin
unfoldable pub key_of : Float → Float → Entry → Float
key_of px pz e = let dx = e.x ⊖ px in let dz = e.z ⊖ pz in dx ⊗ dx ⊕ dz ⊗ dz

-- ---- the order

-- a comparison of two entries: whether the first comes before the second, and whether they are level
pub record Comparison : Type 0 where
  pub less : Entry → Entry → Bool
  pub level : Entry → Entry → Bool

-- whether e comes before f: the first comparison by which they are not level decides
unfoldable pub by_first : List Comparison → Entry → Entry → Bool
by_first [] e f = false
by_first (c ∷ cs) e f = c.less e f || (c.level e f && by_first cs e f)

-- 01: "Least first"
abbrev pub least_key : Float → Float → Comparison
least_key px pz = record { less = λ e f. lt (key_of px pz e) (key_of px pz f); level = λ e f. eq (key_of px pz e) (key_of px pz f) }

-- the lower of two whole numbers first
abbrev pub lower : (Entry → ℕ) → Comparison
lower n = record { less = λ e f. ltb (n e) (n f); level = λ e f. eqb (n e) (n f) }

-- 0 at rest, 1 still moving: ended "by time or by impacts", one group
unfoldable pub moving : Option Termination → ℕ
moving None = 1
moving (Some Rest) = 0
moving (Some MaxTime) = 1
moving (Some MaxImpacts) = 1

-- 02, paper 7: "Among equal distances the shot with fewer contacts comes first, then the lower shot number"
abbrev pub cleaner : List Comparison
cleaner = lower (λ e. e.contacts) ∷ lower (λ e. e.shot) ∷ []

-- 02, paper 2: those still moving "are listed after every rest entry, in the same order among themselves"; 01: "Least first"
unfoldable pub is_before : Float → Float → Entry → Entry → Bool
is_before px pz = by_first (lower (λ e. moving e.termination) ∷ least_key px pz ∷ cleaner)

-- ---- entering

-- 10 is for a spot beyond ±1,000,000
unfoldable pub near : Entry → Bool
near e = about_of (dec 1000000 1) e.x && about_of (dec 1000000 1) e.z

-- whether a shot number is on the list
unfoldable pub holds : ℕ → List Entry → Bool
holds n [] = false
holds n (e ∷ l) = eqb e.shot n || holds n l

-- the entries of a bay: "each may enter 32 shots, counted for itself"
unfoldable pub one : ℕ → Entry → ℕ
one k e = cond (eqb e.bay k) 1 0

unfoldable pub used : ℕ → List Entry → ℕ
used k [] = 0
used k (e ∷ l) = one k e + used k l

-- 02, paper 6: "31 for a bay above 7, tested before 10"; 01: 10, then 25; "24 now means that this bay has used its 32"; else 0. The array's 256 places
-- suffice for eight bays (`has_room`); a board that no calls made may have none left, and then 24 is the answer too
unfoldable pub answer_of : List Entry → Entry → ℕ
answer_of l e =
    cond (ltb 7 e.bay) 31
    (cond (not (near e)) 10 (cond (holds e.shot l) 25 (cond (leb 32 (used e.bay l) || leb 256 (length l)) 24 0)))

-- e put in before the first entry that comes after it
unfoldable pub insert : (Entry → Bool) → Entry → List Entry → List Entry
insert p e [] = e ∷ []
insert p e (f ∷ l) = elim (p f) [ true ↦ e ∷ f ∷ l | false ↦ f ∷ insert p e l ]
