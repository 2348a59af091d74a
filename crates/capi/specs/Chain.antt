-- Statements. The board's exported functions called one after another, from dimple_board_new on: each gives what the board's function gives, so none of them
-- answers 101. Assumes nothing.
use Prim.Native.Nat.{ℕ, zero, suc, ◌≤◌}
use native.Mathlib.Omega.{arith}
use Rattle.std.specs.Prelude.{◌≡◌, ◌⊎◌, Bool, ◌&&◌, List, [], ◌∷◌, T, leb, eqb, length, Float}
use Rattle.std.proofs.Math.Path.{refl}
use Rattle.std.proofs.Common.{ap, ◌∙◌, sym, inl, inr, leb→le}
use Rattle.std.proofs.Math.Bool.{true, false, cond}
use Rattle.std.proofs.Math.Dec.{eqb-suc-zero}
use Rattle.std.specs.Float.Ieee.Bits.{is_true}
use Rattle.std.specs.Float.Ieee.Fits.{eq→eqb}
use Rattle.fields.specs.Fields.{whole_of, written}
use Rattle.board.specs.Rules.{answer_of}
use Rattle.board.specs.Board.{listing, answered, given, new_of, enter_of, place_of}
use Rattle.board.proofs.Listing.{enter_answers, place_answers}
use Rattle.board.specs.declared.Board.{Board}
use Rattle.state.specs.Numbers.{termination_number}
use Rattle.layout.specs.Layout.{board_length, termination_of, board_fields}
use Rattle.layout.specs.RoundTrip.{Ended, Numbers, Held, written_length, written_ok, written_back, new_held, enter_held}
use Rattle.capi.specs.Doors.{Door, door}
use Rattle.layout.specs.Sent.{Sent, sent_entry, is_end, sent_of}
use Rattle.capi.specs.Boards.{new_door_of, entered, enter_door_of, place_door_of}

-- dimple_board_new over a list of a board's length
pub new_door : (px pz : Float) (l : List Float) → length l ≡ board_length → new_door_of px pz l ≡ door (new_of px pz).answer (board_fields (new_of px pz).board)
unfolding new_door_of
new_door px pz l h = rw (is_true (eqb (length l) board_length) (eq→eqb h))

module _ (b : Board) (h : Held b) where
  sized : eqb (length (board_fields b)) board_length ≡ true
  sized = is_true (eqb (length (board_fields b)) board_length) (eq→eqb (written_length b))

  -- dimple_board_enter over the doubles of a board that calls made
  pub enter_door : (s : Sent) → enter_door_of (board_fields b) s ≡ door (sent_of b s).answer (board_fields (sent_of b s).board)
  unfolding enter_door_of entered sent_of enter_of
  enter_door s = rw (sized, written_ok b h, written_back b h) (go (is_end s.termination) (answer_of (listing b) (sent_entry s)))
    where
      go : (t : Bool) (n : ℕ)
          → let e = cond t (given b (sent_entry s) n) (answered 102 b) in entered e (board_fields b) ≡ door e.answer (board_fields e.board)
      go true zero = refl
      go true (suc n) = rw (eqb-suc-zero n)
      go false n = refl

  -- dimple_board_place over the same
  pub place_door : (i : ℕ) (w : Float) → place_door_of (board_fields b) i (w ∷ []) ≡ door (place_of b i).answer (whole_of (place_of b i).shot ∷ [])
  unfolding place_door_of written
  place_door i w = rw (sized, written_ok b h, written_back b h)

  pub enter_never_101 : (s : Sent) → (enter_door_of (board_fields b) s).answer ≡ 101 → ⊥
  unfolding sent_of
  enter_never_101 s q = go (is_end s.termination) (enter_answers b (sent_entry s)) (ap (λ (d : Door). d.answer) (sym (enter_door s)) ∙ q)
    where
      go : (t : Bool) → let n = (enter_of b (sent_entry s)).answer in (n ≡ 0) ⊎ ((n ≡ 31) ⊎ ((n ≡ 10) ⊎ ((n ≡ 25) ⊎ (n ≡ 24))))
          → (cond t (enter_of b (sent_entry s)) (answered 102 b)).answer ≡ 101 → ⊥
      go true (inl p) k = omega arith
      go true (inr (inl p)) k = omega arith
      go true (inr (inr (inl p))) k = omega arith
      go true (inr (inr (inr (inl p)))) k = omega arith
      go true (inr (inr (inr (inr p)))) k = omega arith
      go false p k = omega arith

  pub place_never_101 : (i : ℕ) (w : Float) → (place_door_of (board_fields b) i (w ∷ [])).answer ≡ 101 → ⊥
  place_never_101 i w q = go (place_answers b i) (ap (λ (d : Door). d.answer) (sym (place_door i w)) ∙ q)
    where
      go : {n : ℕ} → (n ≡ 0) ⊎ (n ≡ 26) → n ≡ 101 → ⊥
      go (inl p) k = omega arith
      go (inr p) k = omega arith

-- such a board stays one
is_end_lem : (n : ℕ) → T (leb 1 n) → T (leb n 3) → Ended (termination_of n)
unfolding termination_of termination_number
is_end_lem zero h k = absurd h
is_end_lem (suc zero) h k = omega arith
is_end_lem (suc (suc zero)) h k = omega arith
is_end_lem (suc (suc (suc zero))) h k = omega arith
is_end_lem (suc (suc (suc (suc n)))) h k = absurd (let m = leb→le (suc (suc (suc (suc n)))) 3 k in omega arith)

sent_held : (b : Board) (s : Sent) → Numbers (sent_entry s) → Held b → Held (sent_of b s).board
unfolding sent_of is_end
sent_held b s m h = go (leb 1 s.termination) (λ t. t) (leb s.termination 3) (λ t. t)
  where
    go : (p : Bool) → (T p → T (leb 1 s.termination)) → (q : Bool) → (T q → T (leb s.termination 3))
        → Held (cond (p && q) (enter_of b (sent_entry s)) (answered 102 b)).board
    go true f true g = enter_held b (sent_entry s) m (is_end_lem s.termination (f tt) (g tt)) h
    go true f false g = h
    go false f q g = h

-- ---- one call after another

-- what each call of dimple_board_enter gives
unfoldable pub doors_of : List Float → List Sent → List Door
doors_of l [] = []
doors_of l (s ∷ calls) = let d = enter_door_of l s in d ∷ doors_of d.list calls

-- what each call of `Board::enter` gives, or 102, its board as doubles
unfoldable pub boards_of : Board → List Sent → List Door
boards_of b [] = []
boards_of b (s ∷ calls) = let e = sent_of b s in door e.answer (board_fields e.board) ∷ boards_of e.board calls

-- each shot number and count of contacts is one that a u32 holds
unfoldable pub Numbered : List Sent → Type 0
Numbered [] = Unit
Numbered (s ∷ calls) = ((s.shot ≤ 4294967295) × (s.contacts ≤ 4294967295)) × Numbered calls

pub chain_from : (b : Board) → Held b → (calls : List Sent) → Numbered calls → doors_of (board_fields b) calls ≡ boards_of b calls
unfolding doors_of boards_of Numbered
chain_from b h [] m = refl
chain_from b h (s ∷ calls) m = rw (enter_door b h s, chain_from (sent_of b s).board (sent_held b s m.0 h) calls m.1)

-- from dimple_board_new on
pub chain : (px pz : Float) (l : List Float) → length l ≡ board_length → (calls : List Sent) → Numbered calls
    → doors_of (new_door_of px pz l).list calls ≡ boards_of (new_of px pz).board calls
chain px pz l h calls m = rw (new_door px pz l h) (chain_from (new_of px pz).board (new_held px pz) calls m)
