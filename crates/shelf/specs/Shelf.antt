-- Definitions. The shelf: 16 places, and what each of its functions gives.
use Rattle.std.specs.Prelude.{ℕ, zero, suc, ◌-◌, Bool, true, false, not, ◌&&◌, ◌||◌, cond, List, [], ◌∷◌, ◌++◌, leb, eqb, length, replicate, Result, Ok, Err}
use Rattle.std.proofs.Math.Option.{Option, none, some}
use Rattle.state.specs.State.{state_ok}
use Rattle.state.specs.declared.BallState.{BallState}
use Rattle.shelf.specs.declared.Place.{Place}
use Rattle.shelf.specs.declared.Shelf.{Shelf}
use Rattle.refusal.specs.declared.Refusal.{Refusal}
use Rattle.refusal.specs.Refusal.{number_of}
use Rattle.shelf.specs.Answers.{Saved, Returned}
use Rattle.shelf.specs.Map.{is_letter, name_ok, same, zero_state}

-- a name as a place holds it: its length, then 12 bytes, those past its length 0
unfoldable pub packed : List ℕ → List ℕ
packed n = length n ∷ (n ++ replicate (12 - length n) 0)

-- the name of a free place
abbrev pub no_name : List ℕ
no_name = replicate 13 0

abbrev pub place : List ℕ → BallState → Place
place k s = record { name = k; state = s }

abbrev pub empty_place : Place
empty_place = place no_name zero_state

abbrev pub shelf : List Place → Shelf
shelf l = record { places = l }

abbrev pub empty_shelf : Shelf
empty_shelf = shelf (replicate 16 empty_place)

-- ---- the first place that holds the packed name k

unfoldable pub has : List ℕ → List Place → Bool
has k [] = false
has k (p ∷ l) = same p.name k || has k l

unfoldable pub find : List ℕ → List Place → Option BallState
find k [] = none
find k (p ∷ l) = elim (same p.name k) [ true ↦ some p.state | false ↦ find k l ]

-- q in its stead
unfoldable pub put : List ℕ → Place → List Place → List Place
put k q [] = []
put k q (p ∷ l) = elim (same p.name k) [ true ↦ q ∷ l | false ↦ p ∷ put k q l ]

-- ---- the functions
abbrev pub saved : ℕ → Shelf → Saved
saved a s = record { answer = a; shelf = s }

abbrev pub returned : ℕ → BallState → Returned
returned a s = record { answer = a; state = s }

-- q in the first place that holds k; where there is none, that number
unfoldable pub replaced : Shelf → List ℕ → Place → ℕ → Saved
replaced s k q number = cond (has k s.places) (saved 0 (shelf (put k q s.places))) (saved number s)

-- a state into the name's place, else into the first free one
unfoldable pub kept : Shelf → List ℕ → BallState → Saved
kept s k b = replaced s (cond (has k s.places) k no_name) (place k b) 33

-- `Shelf::save`
unfoldable pub save_of : Shelf → List ℕ → BallState → Saved
save_of s n b = cond (name_ok n) (cond (state_ok b) (kept s (packed n) b) (saved 22 s)) (saved 32 s)

unfoldable pub given : Option BallState → Returned
given (some b) = returned 0 b
given none = returned 34 zero_state

-- what `Shelf::return_to` returns, so given: where there is no state, one of zeros
abbrev pub returned_by : Result BallState Refusal → Returned
returned_by (Ok b) = returned 0 b
returned_by (Err r) = returned (number_of r) zero_state

-- `Shelf::return_to`
unfoldable pub return_of : Shelf → List ℕ → Returned
return_of s n = cond (name_ok n) (given (find (packed n) s.places)) (returned 32 zero_state)

-- `Shelf::drop`: the place is as in an empty shelf
unfoldable pub drop_of : Shelf → List ℕ → Saved
drop_of s n = cond (name_ok n) (replaced s (packed n) empty_place 34) (saved 32 s)

-- ---- `Shelf::is_sound`: whether places are such as these functions leave

-- the first n bytes are letters, those past them 0
unfoldable pub padded : ℕ → List ℕ → Bool
padded n [] = true
padded zero (b ∷ l) = eqb b 0 && padded zero l
padded (suc n) (b ∷ l) = is_letter b && padded n l

-- a length of at most 12, and 12 bytes to it
unfoldable pub sound_name : List ℕ → Bool
sound_name [] = false
sound_name (n ∷ l) = leb n 12 && padded n l

-- a place is free, or its state passes test 22 and no later place has its name
unfoldable pub sound_place : Place → List Place → Bool
sound_place p l = sound_name p.name && (same p.name no_name || (state_ok p.state && not (has p.name l)))

unfoldable pub sound : List Place → Bool
sound [] = true
sound (p ∷ l) = sound_place p l && sound l

-- ---- what inner functions give

-- how many places stand before the first that holds k
unfoldable pub place_in : List ℕ → List Place → ℕ
place_in k [] = 0
place_in k (p ∷ l) = elim (same p.name k) [ true ↦ 0 | false ↦ suc (place_in k l) ]
