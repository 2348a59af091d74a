-- Statements. The shelf's exported functions called one after another, from dimple_shelf_new on: each answer and each returned state is the plain map's,
-- so none of them answers 100 or 101. Assumes nothing.
use Rattle.std.specs.Prelude.{ℕ, ◌≡◌, refl, true, List, [], ◌∷◌, eqb, length, Float}
use Rattle.std.proofs.Common.{ap, sym, inl, inr}
use borrow.Author.Tests.{eqb-true, eqb-false, eq-eqb}
use Rattle.fields.specs.Fields.{vec_at, state_at, state_fields}
use Rattle.shelf.specs.Answers.{Saved}
use Rattle.shelf.specs.declared.Shelf.{Shelf}
use Rattle.shelf.specs.Map.{Map, empty_map, Call, Out, out, told, call, map_outs}
use Rattle.shelf.specs.Shelf.{empty_shelf, save_of, drop_of}
use Rattle.shelf.proofs.Places.{Decided, decide}
use Rattle.shelf.proofs.AsMap.{Held, Same, same_empty, shelf_call, agrees, save_refused, drop_refused, all_known, map_known}
use Rattle.shelf_layout.specs.Layout.{shelf_fields}
use Rattle.shelf_layout.specs.Doors.{answered, shelf_new_door_of, changed, shelf_save_door_of, shelf_return_door_of, shelf_drop_door_of}
use Rattle.shelf_layout.specs.RoundTrip.{written_length, written_ok, written_back}

-- ---- a call of one of these functions on the list l, with a state lent as its ten doubles, and to a return the list w
pub record DoorDone : Type 0 where
  pub out : Out
  pub list : List Float

abbrev pub door_done : Out → List Float → DoorDone
door_done o l = record { out = o; list = l }

unfoldable pub door_call : List Float → List Float → Call → DoorDone
door_call w l (Call.save n b) = let d = shelf_save_door_of l n (state_fields b) in door_done (told d.answer) d.list
door_call w l (Call.return n) = let d = shelf_return_door_of l n w in door_done (out d.answer (state_at d.list 0)) l
door_call w l (Call.drop n) = let d = shelf_drop_door_of l n in door_done (told d.answer) d.list

-- what each of the calls gives
unfoldable pub door_outs : List Float → List Float → List Call → List Out
door_outs w l [] = []
door_outs w l (c ∷ calls) = let d = door_call w l c in d.out ∷ door_outs w d.list calls

-- ---- on the doubles of a shelf that calls made
module _ (s : Shelf) (h : Held s) where
  long : eqb (length (shelf_fields s)) 368 ≡ true
  long = eq-eqb _ _ (written_length s h)

  -- a refused call leaves the shelf as it was, so `changed` writes what the function gives
  changes : (r : Saved) → ((r.answer ≡ 0 → ⊥) → r.shelf ≡ s) → changed r (shelf_fields s) ≡ answered r.answer (shelf_fields r.shelf)
  unfolding changed
  changes r f = go (decide (eqb r.answer 0))
    where
      go : Decided (eqb r.answer 0) → changed r (shelf_fields s) ≡ answered r.answer (shelf_fields r.shelf)
      go (inl e) = rw e (ap (λ (a : ℕ). answered a (shelf_fields r.shelf)) (sym (eqb-true r.answer 0 e)))
      go (inr e) = rw e (ap (λ (x : Shelf). answered r.answer (shelf_fields x)) (sym (f (eqb-false r.answer 0 e))))

  pub door_call_lem : (w : List Float) → length w ≡ 10 → (c : Call)
      → door_call w (shelf_fields s) c ≡ door_done (shelf_call s c).out (shelf_fields (shelf_call s c).shelf)
  unfolding door_call shelf_save_door_of shelf_return_door_of shelf_drop_door_of shelf_call state_at vec_at
  door_call_lem w k (Call.save n b) = rw (long, written_ok s h, written_back s h, changes (save_of s n b) (save_refused s n b))
  door_call_lem w k (Call.return n) = rw (long, eq-eqb _ _ k, written_ok s h, written_back s h)
  door_call_lem w k (Call.drop n) = rw (long, written_ok s h, written_back s h, changes (drop_of s n) (drop_refused s n))

-- ---- one call after another
outs_from : (w : List Float) → length w ≡ 10 → (s : Shelf) (m : Map) → Same s m → (calls : List Call) → door_outs w (shelf_fields s) calls ≡ map_outs m calls
unfolding door_outs map_outs
outs_from w k s m h [] = refl
outs_from w k s m h (c ∷ calls) =
    let a = agrees s m h c in
    rw (door_call_lem s h.held w k c, a.out, outs_from w k (shelf_call s c).shelf (call m c).map a.after calls)

-- from dimple_shelf_new on, whatever its 368 doubles held
pub chain : (w : List Float) → length w ≡ 10 → (l : List Float) → length l ≡ 368 → (calls : List Call)
    → door_outs w (shelf_new_door_of l).list calls ≡ map_outs empty_map calls
unfolding shelf_new_door_of
chain w k l n calls = rw (eq-eqb _ _ n) (outs_from w k empty_shelf empty_map same_empty calls)

-- no call of the chain answers 100 or 101
pub chain_known : (w : List Float) → length w ≡ 10 → (l : List Float) → length l ≡ 368 → (calls : List Call)
    → all_known (door_outs w (shelf_new_door_of l).list calls) ≡ true
chain_known w k l n calls = rw (chain w k l n calls) (map_known empty_map calls)
