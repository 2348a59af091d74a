-- Statements. What a shelf keeps to after every list of saves, returns and drops from an empty one. Assumes nothing.
use Rattle.std.specs.Prelude.{ℕ, ◌+◌, ◌-◌, ◌≤◌, ◌≡◌, refl, Bool, cond, List, leb}
use Rattle.std.proofs.Common.{arith, ◌∙◌, sym, inl, inr}
use Rattle.std.proofs.Math.Path.{ap}
use Rattle.std.proofs.Math.Bool.{true, false}
use Rattle.std.proofs.Math.Option.{Option, none, some}
use Rattle.std.proofs.lemmas.Bool.{lt-leb}
use Rattle.state.specs.State.{state_ok}
use Rattle.state.specs.declared.BallState.{BallState}
use Rattle.shelf.specs.declared.Shelf.{Shelf}
use Rattle.shelf.specs.Answers.{Returned}
use Rattle.shelf.specs.Map.{name_ok, Map, empty_map, update, Call, Out, out, told, done, with, keep, give, lose, call, map_after}
use Rattle.shelf.specs.Shelf.{empty_shelf, returned, save_of, return_of, drop_of}
use Rattle.shelf.proofs.Places.{Decided, decide, same_self, used_most}
use Rattle.shelf.proofs.AsMap.{Same, agrees, shelf_call, shelf_after, after_calls}

-- ---- on the map
module _ (m : Map) (n : List ℕ) where
  -- a save that was answered by 0 had a good name, and the map has that state under it
  keep_keeps : (b : BallState) (o : Option BallState) → (keep m n b o).out.answer ≡ 0 → (keep m n b o).map.state n ≡ some b
  unfolding keep update
  keep_keeps b (some old) e = rw (same_self n)
  keep_keeps b none e = go (leb 16 m.count) e
    where
      go : (f : Bool) → (cond f (done (told 33) m) (done (told 0) (with m n (some b) (m.count + 1)))).out.answer ≡ 0
          → (cond f (done (told 33) m) (done (told 0) (with m n (some b) (m.count + 1)))).map.state n ≡ some b
      go true e = absurd (let z = e in omega arith)
      go false e = rw (same_self n)

  save_keeps : (b : BallState) → (call m (Call.save n b)).out.answer ≡ 0 → (name_ok n ≡ true) × ((call m (Call.save n b)).map.state n ≡ some b)
  unfolding call
  save_keeps b = go (name_ok n) (state_ok b)
    where
      go : (x y : Bool) → (cond x (cond y (keep m n b (m.state n)) (done (told 22) m)) (done (told 32) m)).out.answer ≡ 0
          → (x ≡ true) × ((cond x (cond y (keep m n b (m.state n)) (done (told 22) m)) (done (told 32) m)).map.state n ≡ some b)
      go true true e = (refl, keep_keeps b (m.state n) e)
      go true false e = absurd (let z = e in omega arith)
      go false y e = absurd (let z = e in omega arith)

  return_gives : (b : BallState) → name_ok n ≡ true → m.state n ≡ some b → (call m (Call.return n)).out ≡ out 0 b
  unfolding call give
  return_gives b ok e = rw (ok, e)

-- ---- on the shelf
same_returned : (r : Returned) (a : ℕ) (b : BallState) → ◌≡◌ {A = Out} (out r.answer r.state) (out a b) → r ≡ returned a b
same_returned r a b e = ap (λ (o : Out). returned o.answer o.state) e

-- a shelf that holds what a map holds
module _ (s : Shelf) (m : Map) (h : Same s m) (n : List ℕ) where
  -- the answer of a save, a drop is the map's
  saved_as : (b : BallState) → (save_of s n b).answer ≡ (call m (Call.save n b)).out.answer
  unfolding shelf_call
  saved_as b = ap (λ (o : Out). o.answer) (agrees s m h (Call.save n b)).out

  dropped_as : (drop_of s n).answer ≡ (call m (Call.drop n)).out.answer
  unfolding shelf_call
  dropped_as = ap (λ (o : Out). o.answer) (agrees s m h (Call.drop n)).out

  after_save : (b : BallState) → Same (save_of s n b).shelf (call m (Call.save n b)).map
  unfolding shelf_call
  after_save b = (agrees s m h (Call.save n b)).after

  after_drop : Same (drop_of s n).shelf (call m (Call.drop n)).map
  unfolding shelf_call
  after_drop = (agrees s m h (Call.drop n)).after

  return_answer : (return_of s n).answer ≡ (call m (Call.return n)).out.answer
  unfolding shelf_call
  return_answer = ap (λ (o : Out). o.answer) (agrees s m h (Call.return n)).out

  returned_as : (b : BallState) → (call m (Call.return n)).out ≡ out 0 b → return_of s n ≡ returned 0 b
  unfolding shelf_call
  returned_as b e = same_returned (return_of s n) 0 b ((agrees s m h (Call.return n)).out ∙ e)

-- 02: "Returning gives the state last saved under that name": a return right after a save gives that state, bit for bit, also where the save replaced one
pub save_then_return : (calls : List Call) (n : List ℕ) (b : BallState)
    → let s = shelf_after empty_shelf calls in (save_of s n b).answer ≡ 0 → return_of (save_of s n b).shelf n ≡ returned 0 b
save_then_return calls n b e =
    let s = shelf_after empty_shelf calls in
    let m = map_after empty_map calls in
    let h = after_calls calls in
    let k = save_keeps m n b (sym (saved_as s m h n b) ∙ e) in
    returned_as (save_of s n b).shelf (call m (Call.save n b)).map (after_save s m h n b) n b (return_gives (call m (Call.save n b)).map n b k.0 k.1)

-- "at most 16"
pub at_most_16 : (calls : List Call) → (map_after empty_map calls).count ≤ 16
at_most_16 calls =
    let h = after_calls calls in
    let e = h.count in
    let z = h.held.size in
    omega (arith, used_most (shelf_after empty_shelf calls).places)

-- ---- a used name, a dropped one, and the others

-- a name that a return finds is saved under again, also with 16 kept: never 33
map_used : (m : Map) (n : List ℕ) (b : BallState) → (call m (Call.return n)).out.answer ≡ 0 → state_ok b ≡ true → (call m (Call.save n b)).out.answer ≡ 0
unfolding call give keep
map_used m n b e good = go (decide (name_ok n)) (m.state n) e
  where
    go : Decided (name_ok n) → (o : Option BallState) → (cond (name_ok n) (give m o) (done (told 32) m)).out.answer ≡ 0
        → (cond (name_ok n) (cond (state_ok b) (keep m n b o) (done (told 22) m)) (done (told 32) m)).out.answer ≡ 0
    go (inl x) (some old) f = rw (x, good)
    go (inl x) none f = absurd (let z = rw x at f in omega arith)
    go (inr x) o f = absurd (let z = rw x at f in omega arith)

pub used_name_saved : (calls : List Call) (n : List ℕ) (b : BallState)
    → let s = shelf_after empty_shelf calls in (return_of s n).answer ≡ 0 → state_ok b ≡ true → (save_of s n b).answer ≡ 0
used_name_saved calls n b e good =
    let s = shelf_after empty_shelf calls in
    let m = map_after empty_map calls in
    let h = after_calls calls in
    saved_as s m h n b ∙ map_used m n b (sym (return_answer s m h n) ∙ e) good

-- 02: "After a drop the place can be used again": the next new name is kept
map_freed : (m : Map) (n k : List ℕ) (b : BallState) → m.count ≤ 16 → (call m (Call.drop n)).out.answer ≡ 0 → name_ok k ≡ true → state_ok b ≡ true
    → (call (call m (Call.drop n)).map (Call.save k b)).out.answer ≡ 0
unfolding call lose keep
map_freed m n k b most e ok good = go (decide (name_ok n)) (m.state n) e
  where
    m' : Map
    m' = with m n none (m.count - 1)

    room : leb 16 (m.count - 1) ≡ false
    room = lt-leb 16 (m.count - 1) (omega arith)

    keeps : (o : Option BallState) → (keep m' k b o).out.answer ≡ 0
    keeps (some old) = refl
    keeps none = rw room

    go : Decided (name_ok n) → (o : Option BallState) → (cond (name_ok n) (lose m n o) (done (told 32) m)).out.answer ≡ 0
        → (call (cond (name_ok n) (lose m n o) (done (told 32) m)).map (Call.save k b)).out.answer ≡ 0
    go (inl x) (some old) f = rw (x, ok, good) (keeps (m'.state k))
    go (inl x) none f = absurd (let z = rw x at f in omega arith)
    go (inr x) o f = absurd (let z = rw x at f in omega arith)

pub drop_frees : (calls : List Call) (n k : List ℕ) (b : BallState)
    → let s = shelf_after empty_shelf calls in (drop_of s n).answer ≡ 0 → name_ok k ≡ true → state_ok b ≡ true → (save_of (drop_of s n).shelf k b).answer ≡ 0
drop_frees calls n k b e ok good =
    let s = shelf_after empty_shelf calls in
    let m = map_after empty_map calls in
    let h = after_calls calls in
    saved_as (drop_of s n).shelf (call m (Call.drop n)).map (after_drop s m h n) k b
    ∙ map_freed m n k b (at_most_16 calls) (sym (dropped_as s m h n) ∙ e) ok good
