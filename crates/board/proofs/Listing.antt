-- Statements. What the board promises of every list of calls from a new board: the listing is the accepted entries, sorted, with no shot number
-- twice, and no bay with more than 32. Which answers a call can give, and that a refused one changes nothing. Assumes nothing.
use Rattle.std.specs.Prelude.{ℕ, zero, suc, ◌≤◌, ◌<◌, ◌≡◌, ◌⊎◌, Bool, true, false, ◌&&◌, cond, ltb, length, drop, get_or, Float}
use native.Mathlib.Omega.{arith}
use Rattle.std.proofs.Math.Path.{refl}
use Rattle.std.proofs.Common.{ap, ◌∙◌, sym, subst, inl, inr}
use mathlib.Core.List.Permᴰ
use mathlib.Core.List.{List, [], ◌∷◌, Permᴰ}
use Rattle.std.proofs.Math.Dec.{T}
use Rattle.std.proofs.Math.ListN.{length-append, length-drop}
use Rattle.std.proofs.lemmas.List.{length-replicate}
use Rattle.std.proofs.Math.Seq.{take_at}
use Rattle.number.specs.Ops.{dec}
use Rattle.number.specs.Number.{about_of, finite_of}
use Rattle.board.specs.declared.Entry.{Entry}
use Rattle.board.specs.declared.Board.{Board}
use Rattle.board.specs.Rules.{key_of, is_before, holds, used, insert, answer_of}
use Rattle.board.specs.Board.{listing, with_listing, empty_entry, empty_board, answered, given, new_of, with_entry, enter_of, placed, shots, place_of}
use Rattle.board.specs.Words.{All, Sorted, RestFirst, Distinct, sort, Near, after, kept, accepted}
use Rattle.board.specs.Sorting.{insert-length, length-perm, sort_permutes, sort_sorts, all_map, all_perm, distinct_perm}
use Rattle.board.specs.Keys.{Finite, wider, key_finite, key_order, sorted_rest_first}
use Rattle.board.proofs.Tests.{Tested, no_bay, far, repeated, full, taken, tested, is_near_lem, near_is, held_not}
use Rattle.board.specs.Bays.{InBay, used_perm, bays_fit, one_more}

-- ---- one call

-- the numbers of each call: 0 or 9; 0, 31, 10, 25 or 24; 0 or 26
pub new_answers : (px pz : Float) → ((new_of px pz).answer ≡ 0) ⊎ ((new_of px pz).answer ≡ 9)
unfolding new_of
new_answers px pz = go (about_of (dec 100000 1) px && about_of (dec 100000 1) pz)
  where
    go : (t : Bool) → let e = cond t (answered 0 (empty_board px pz)) (answered 9 (empty_board (dec 0 1) (dec 0 1))) in (e.answer ≡ 0) ⊎ (e.answer ≡ 9)
    go true = inl refl
    go false = inr refl

pub enter_answers : (b : Board) (e : Entry) → let n = (enter_of b e).answer in (n ≡ 0) ⊎ ((n ≡ 31) ⊎ ((n ≡ 10) ⊎ ((n ≡ 25) ⊎ (n ≡ 24))))
unfolding enter_of
enter_answers b e = go (tested (listing b) e)
  where
    go : {n : ℕ} → Tested (listing b) e n → let m = (given b e n).answer in (m ≡ 0) ⊎ ((m ≡ 31) ⊎ ((m ≡ 10) ⊎ ((m ≡ 25) ⊎ (m ≡ 24))))
    go (taken p q r s t) = inl refl
    go (no_bay p) = inr (inl refl)
    go (far p q) = inr (inr (inl refl))
    go (repeated p q) = inr (inr (inr (inl refl)))
    go (full j p q) = inr (inr (inr (inr refl)))

pub place_answers : (b : Board) (i : ℕ) → ((place_of b i).answer ≡ 0) ⊎ ((place_of b i).answer ≡ 26)
unfolding place_of
place_answers b i = go (ltb i (length (listing b)))
  where
    go : (t : Bool) → let p = cond t (placed 0 (get_or (shots (listing b)) i 0)) (placed 26 0) in (p.answer ≡ 0) ⊎ (p.answer ≡ 26)
    go true = inl refl
    go false = inr refl

-- a refused call changes nothing
pub refused_unchanged : (b : Board) (e : Entry) → ((enter_of b e).answer ≡ 0 → ⊥) → (enter_of b e).board ≡ b
unfolding enter_of
refused_unchanged b e = go (answer_of (listing b) e)
  where
    go : (n : ℕ) → ((given b e n).answer ≡ 0 → ⊥) → (given b e n).board ≡ b
    go zero h = absurd (h refl)
    go (suc n) h = refl

-- a spot of magnitude at most 1,000,000 never meets 10
pub never_10 : (b : Board) (e : Entry) → Near e → (enter_of b e).answer ≡ 10 → ⊥
unfolding enter_of
never_10 b e h = go (tested (listing b) e)
  where
    go : {n : ℕ} → Tested (listing b) e n → (given b e n).answer ≡ 10 → ⊥
    go (no_bay p) k = omega arith
    go (far p q) k = q (near_is e h)
    go (repeated p q) k = omega arith
    go (full i p q) k = omega arith
    go (taken p q r s t) k = omega arith

-- such an entry under a number that is not on the board yet is taken where its bay has entries left and the board a place
pub is_taken : (b : Board) (e : Entry) → InBay e → Near e → holds e.shot (listing b) ≡ false → used e.bay (listing b) < 32
    → length (listing b) < 256 → (enter_of b e).answer ≡ 0
unfolding enter_of
is_taken b e k h i u j = go (tested (listing b) e)
  where
    go : {n : ℕ} → Tested (listing b) e n → (given b e n).answer ≡ 0
    go (no_bay p) = absurd (omega arith)
    go (far p q) = absurd (q (near_is e h))
    go (repeated p q) = absurd (subst T (sym q ∙ i) tt)
    go (full o p q) = absurd (q u j)
    go (taken p q r s t) = refl

-- ---- the calls, one after another

-- the array has 256 places, and as many entries as the count says
pub record Sound (b : Board) : Type 0 where
  pub places : length b.entries ≡ 256
  pub most : b.count ≤ 256

module _ (b : Board) (s : Sound b) (e : Entry) (room : length (listing b) < 256) where
  pub with_listing_lem : listing (with_entry b e) ≡ insert (is_before b.pin_x b.pin_z e) e (listing b)
  unfolding with_entry with_listing
  with_listing_lem = take_at _ _ _ refl

  pub with_sound : Sound (with_entry b e)
  unfolding with_entry with_listing
  with_sound =
      let l = insert (is_before b.pin_x b.pin_z e) e (listing b) in
      let n = insert-length (is_before b.pin_x b.pin_z e) e (listing b) in
      let p = s.places in
      record { places = length-append l (drop (length l) b.entries) ∙ omega (arith, length-drop (length l) b.entries); most = omega arith }

-- what holds of every board that calls made, with l the accepted entries: its pin stays, and the listing is those entries, sorted
pub record Made (px pz : Float) (b : Board) (l : List Entry) : Type 0 where
  pub sound : Sound b
  pub pin_x_lem : b.pin_x ≡ px
  pub pin_z_lem : b.pin_z ≡ pz
  pub sorted : listing b ≡ sort (is_before px pz) l
  pub near : All Near l
  pub distinct : Distinct l
  pub bays : All InBay l
  pub share : (k : ℕ) → used k l ≤ 32

used_listed : {px pz : Float} {b : Board} {l : List Entry} (k : ℕ) → Made px pz b l → used k (listing b) ≡ used k l
used_listed {px} {pz} {b} {l} k m = ap (used k) m.sorted ∙ used_perm k (sort_permutes (is_before px pz) l)

made_entry : (px pz : Float) (b : Board) (l : List Entry) (e : Entry) {n : ℕ} → Made px pz b l → Tested (listing b) e n
    → Made px pz (given b e n).board (kept (given b e n).answer e l)
unfolding with_entry with_listing sort All Distinct
made_entry px pz b l e m (no_bay p) = m
made_entry px pz b l e m (far p q) = m
made_entry px pz b l e m (repeated p q) = m
made_entry px pz b l e m (full k p q) = m
made_entry px pz b l e m (taken k p q u r) =
    record {
      sound = with_sound b m.sound e r;
      pin_x_lem = m.pin_x_lem;
      pin_z_lem = m.pin_z_lem;
      sorted = with_listing_lem b m.sound e r ∙ rw (m.pin_x_lem, m.pin_z_lem, m.sorted);
      near = (is_near_lem e p, m.near);
      distinct = (
        all_perm (λ (f : Entry). e.shot ≡ f.shot → ⊥) (sort_permutes (is_before px pz) l)
            (subst (All (λ (f : Entry). e.shot ≡ f.shot → ⊥)) m.sorted (held_not e.shot (listing b) q)),
        m.distinct,
      );
      bays = (k, m.bays);
      share = one_more e l (subst (λ (i : ℕ). i < 32) (used_listed e.bay m) u) m.share;
    }

pub made_call : (px pz : Float) (b : Board) (l : List Entry) (e : Entry) → Made px pz b l → Made px pz (enter_of b e).board (kept (enter_of b e).answer e l)
unfolding enter_of
made_call px pz b l e m = made_entry px pz b l e m (tested (listing b) e)

pub made_calls : (px pz : Float) (b : Board) (calls : List Entry) (l : List Entry) → Made px pz b l → Made px pz (after b calls) (accepted b calls l)
unfolding after accepted
made_calls px pz b [] l m = m
made_calls px pz b (e ∷ calls) l m = made_calls px pz (enter_of b e).board calls _ (made_call px pz b l e m)

pub made_new : (px pz : Float) → Made px pz (empty_board px pz) []
unfolding sort All Distinct used
made_new px pz =
    record {
      sound = record { places = length-replicate {A = Entry} 256 empty_entry; most = omega arith };
      pin_x_lem = refl;
      pin_z_lem = refl;
      sorted = refl;
      near = tt;
      distinct = tt;
      bays = tt;
      share = λ k. omega arith;
    }

-- an entry in range, under a new number, for a bay with entries left, is taken
pub made_room : {px pz : Float} {b : Board} {l : List Entry} → Made px pz b l → (e : Entry) → Near e → InBay e → holds e.shot (listing b) ≡ false
    → used e.bay l < 32 → (enter_of b e).answer ≡ 0
made_room {px} {pz} {b} {l} m e h k i u =
    let s = length-perm (sort_permutes (is_before px pz) l) in
    is_taken b e k h i (rw (used_listed e.bay m) u) (rw (m.sorted, s) (bays_fit l m.bays m.share e.bay k u))

-- ---- for every list of calls from a new board
module _ (px pz : Float) (calls : List Entry) where
  abbrev board : Board
  board = after (empty_board px pz) calls

  abbrev entries : List Entry
  entries = accepted (empty_board px pz) calls []

  pub made : Made px pz board entries
  made = made_calls px pz (empty_board px pz) calls [] (made_new px pz)

  -- the listing is the accepted entries, sorted, and so a permutation of them
  pub listing_sorts : listing board ≡ sort (is_before px pz) entries
  listing_sorts = made.sorted

  pub listing_permutes : Permᴰ (listing board) entries
  listing_permutes = rw listing_sorts (sort_permutes (is_before px pz) entries)

  -- no shot number stands twice on it
  pub listing_distinct : Distinct (listing board)
  listing_distinct = distinct_perm (Permᴰ.symm listing_permutes) made.distinct

  -- 02, paper 6: no bay has more than 32, so the board never needs more than its 256 places: a bay with entries left finds one
  pub bay_share : (k : ℕ) → used k entries ≤ 32
  bay_share = made.share

  pub has_room : (k : ℕ) → k ≤ 7 → used k entries < 32 → length (listing board) < 256
  has_room k h u = rw (length-perm listing_permutes) (bays_fit entries made.bays made.share k h u)

  -- "a bay with entries left is never turned back by 24"
  pub never_24 : (e : Entry) → used e.bay entries < 32 → (enter_of board e).answer ≡ 24 → ⊥
  unfolding enter_of
  never_24 e u = go (tested (listing board) e)
    where
      go : {n : ℕ} → Tested (listing board) e n → (given board e n).answer ≡ 24 → ⊥
      go (no_bay p) k = omega arith
      go (far p q) k = omega arith
      go (repeated p q) k = omega arith
      go (full i p q) k = q (rw (used_listed e.bay made) u) (has_room e.bay i u)
      go (taken p q r s t) k = omega arith

  -- under a new number it is taken
  pub made_taken : (e : Entry) → Near e → InBay e → holds e.shot (listing board) ≡ false → used e.bay entries < 32 → (enter_of board e).answer ≡ 0
  made_taken e h k i u = made_room made e h k i u

  -- and one that has used its 32 always is turned back, where 31, 10 and 25 do not come first
  pub always_24 : (e : Entry) → InBay e → Near e → holds e.shot (listing board) ≡ false → 32 ≤ used e.bay entries → (enter_of board e).answer ≡ 24
  unfolding enter_of
  always_24 e k h i u = go (tested (listing board) e)
    where
      go : {n : ℕ} → Tested (listing board) e n → (given board e n).answer ≡ 24
      go (no_bay p) = absurd (omega arith)
      go (far p q) = absurd (q (near_is e h))
      go (repeated p q) = absurd (subst T (sym q ∙ i) tt)
      go (full j p q) = refl
      go (taken p q r s t) = absurd (omega (arith, used_listed e.bay made))

  -- it is sorted by the stated order, and every key on it is a finite number
  module _ (i : T (about_of (dec 100000 1) px)) (j : T (about_of (dec 100000 1) pz)) where
    pub keys_finite : All (Finite px pz) entries
    keys_finite = all_map Near (Finite px pz) entries (λ e. key_finite px pz e (wider px i) (wider pz j)) made.near

    pub listing_sorted : Sorted (is_before px pz) (listing board)
    listing_sorted = rw listing_sorts (sort_sorts (Finite px pz) (is_before px pz) (key_order px pz) entries keys_finite)

    -- 02, paper 2: "Those that ended by time or by impacts are listed after every rest entry"
    pub rest_first : RestFirst (listing board)
    rest_first = sorted_rest_first px pz (listing board) listing_sorted

    pub no_nan_key : All (λ (e : Entry). T (finite_of (key_of px pz e))) (listing board)
    no_nan_key = all_perm (Finite px pz) (Permᴰ.symm listing_permutes) keys_finite
