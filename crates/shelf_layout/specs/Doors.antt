-- Definitions. What the shelf's exported functions give: the answer and the list that they may change (include/dimple.h). 100 for a length that is not
-- the one named, 101 for doubles that are no shelf.
use Rattle.std.specs.Prelude.{ℕ, ◌&&◌, cond, List, eqb, length, Float, Result, Ok, Err}
use Rattle.fields.specs.Fields.{state_at, state_fields}
use Rattle.shelf.specs.Answers.{Saved, Returned}
use Rattle.shelf.specs.declared.Shelf.{Shelf}
use Rattle.refusal.specs.declared.Refusal.{Refusal}
use Rattle.refusal.specs.declared.Refusal.TheVariants.{NotHeld}
use Rattle.shelf.specs.Shelf.{empty_shelf, save_of, return_of, drop_of}
use Rattle.shelf_layout.specs.Layout.{shelf_at, shelf_ok, shelf_fields}

-- an answer, and the list as it is then
pub record Answered : Type 0 where
  pub answer : ℕ
  pub list : List Float

abbrev pub answered : ℕ → List Float → Answered
answered a l = record { answer = a; list = l }

-- the shelf that a list is, or the refusal that 101 stands for
abbrev pub held_of : List Float → Result Shelf Refusal
held_of l = cond (shelf_ok l) (Ok (shelf_at l)) (Err NotHeld)

-- dimple_shelf_new
unfoldable pub shelf_new_door_of : List Float → Answered
shelf_new_door_of l = cond (eqb (length l) 368) (answered 0 (shelf_fields empty_shelf)) (answered 100 l)

-- the shelf is changed on answer 0 alone
unfoldable pub changed : Saved → List Float → Answered
changed r l = cond (eqb r.answer 0) (answered 0 (shelf_fields r.shelf)) (answered r.answer l)

-- a save, a drop in a list that is a shelf
abbrev pub saved_in : List Float → List ℕ → List Float → Answered
saved_in l n st = changed (save_of (shelf_at l) n (state_at st 0)) l

abbrev pub dropped_in : List Float → List ℕ → Answered
dropped_in l n = changed (drop_of (shelf_at l) n) l

-- dimple_shelf_save: the shelf, a name, a state (10); 0, 32, 22, 33
unfoldable pub shelf_save_door_of : List Float → List ℕ → List Float → Answered
shelf_save_door_of l n st =
    cond (eqb (length l) 368 && eqb (length st) 10) (cond (shelf_ok l) (saved_in l n st) (answered 101 l)) (answered 100 l)

-- the state, +0 in each double on a number
abbrev pub handed : Returned → Answered
handed r = answered r.answer (state_fields r.state)

-- dimple_shelf_return, of the state's list (10): 0, 32, 34
unfoldable pub shelf_return_door_of : List Float → List ℕ → List Float → Answered
shelf_return_door_of l n st =
    cond (eqb (length l) 368 && eqb (length st) 10) (cond (shelf_ok l) (handed (return_of (shelf_at l) n)) (answered 101 st)) (answered 100 st)

-- dimple_shelf_drop: 0, 32, 34
unfoldable pub shelf_drop_door_of : List Float → List ℕ → Answered
shelf_drop_door_of l n = cond (eqb (length l) 368) (cond (shelf_ok l) (dropped_in l n) (answered 101 l)) (answered 100 l)
