-- Definitions. What the statements about a board speak of: sorted lists of entries, and lists of calls.
use Rattle.std.specs.Prelude.{ℕ, zero, suc, ◌≡◌, Bool, false, List, [], ◌∷◌, T}
use Rattle.number.specs.Ops.{dec}
use Rattle.number.specs.Number.{about_of}
use Rattle.state.specs.declared.Termination.TheVariants.{Rest}
use Rattle.std.specs.Prelude.{Some}
use Rattle.board.specs.declared.Entry.{Entry}
use Rattle.board.specs.declared.Board.{Board}
use Rattle.board.specs.Rules.{insert}
use Rattle.board.specs.Board.{enter_of}

-- ---- lists of entries

-- P of each entry of a list
unfoldable pub All : (Entry → Type 0) → List Entry → Type 0
All P [] = Unit
All P (e ∷ l) = P e × All P l

-- no entry stands after one that it comes before
unfoldable pub Sorted : (Entry → Entry → Bool) → List Entry → Type 0
Sorted p [] = Unit
Sorted p (e ∷ l) = All (λ (f : Entry). p f e ≡ false) l × Sorted p l

-- no shot number stands twice
unfoldable pub Distinct : List Entry → Type 0
Distinct [] = Unit
Distinct (e ∷ l) = All (λ (f : Entry). e.shot ≡ f.shot → ⊥) l × Distinct l

-- after an entry that still moves none is at rest
unfoldable pub RestFirst : List Entry → Type 0
RestFirst [] = Unit
RestFirst (e ∷ l) = ((e.termination ≡ Some Rest → ⊥) → All (λ (f : Entry). f.termination ≡ Some Rest → ⊥) l) × RestFirst l

-- insertion sort
unfoldable pub sort : (Entry → Entry → Bool) → List Entry → List Entry
sort p [] = []
sort p (e ∷ l) = insert (p e) e (sort p l)

-- a spot of magnitude at most 1,000,000
abbrev pub Near : Entry → Type 0
Near e = T (about_of (dec 1000000 1) e.x) × T (about_of (dec 1000000 1) e.z)

-- ---- lists of calls of `Board::enter`, the first call first

-- the board after the calls
unfoldable pub after : Board → List Entry → Board
after b [] = b
after b (e ∷ l) = after (enter_of b e).board l

-- what each call is answered
unfoldable pub answers : Board → List Entry → List ℕ
answers b [] = []
answers b (e ∷ l) = (enter_of b e).answer ∷ answers (enter_of b e).board l

-- one entry more where the answer is 0
abbrev pub kept : ℕ → Entry → List Entry → List Entry
kept zero e l = e ∷ l
kept (suc n) e l = l

-- the entries that were answered by 0, the last first, before those of `old`
unfoldable pub accepted : Board → List Entry → List Entry → List Entry
accepted b [] old = old
accepted b (e ∷ l) old = accepted (enter_of b e).board l (kept (enter_of b e).answer e old)
