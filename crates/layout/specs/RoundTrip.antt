-- Statements. A board as doubles is read back as it was, for every board that the functions of crates/board make. Assumes nothing.
use Prim.Native.Nat.{ℕ, zero, suc, ◌+◌, ◌*◌, ◌≤◌, ◌<◌}
use Rattle.std.proofs.Common.{eq-or-lt_of_le, ◌∙◌, sym, inl, inr, ltb→lt, take-suc, get_or-take}
use native.Mathlib.Omega.{arith}
use Rattle.std.specs.Prelude.{◌≡◌, ◌⊎◌, Bool, ◌&&◌, T, ltb, take, drop, replicate, Float}
use Rattle.std.proofs.Math.Path.{refl, ap}
use Rattle.std.proofs.Math.Bool.{true, false, cond}
use mathlib.Core.List.{List, [], ◌∷◌, ◌++◌}
use Rattle.std.proofs.Math.ListN.{length, get_or, length-append, get_or-append}
use Rattle.std.proofs.lemmas.List.{length-replicate}
use Rattle.std.proofs.Math.Seq.{get_or-append-add, take_all, length-take-le}
use Rattle.std.specs.Float.Ieee.{nan, lt, le, eq, neg, round}
use Rattle.std.specs.Float.Ieee.Bits.{is_true}
use Rattle.number.specs.Ops.{dec}
use Rattle.number.specs.Number.{about_of, within_of}
use Rattle.fields.specs.Fields.{whole_of, double_at}
use Rattle.fields.specs.WholeBack.{nat_whole, whole_is_whole}
use Rattle.state.specs.declared.Termination.{Termination}
use Rattle.state.specs.declared.Termination.TheVariants.{Rest, MaxTime, MaxImpacts}
use Rattle.std.specs.Prelude.{Option, Some, None}
use Rattle.board.specs.declared.Board.{Board}
use Rattle.board.specs.declared.Entry.{Entry}
use Rattle.board.specs.Rules.{is_before, insert}
use Rattle.board.specs.Inner.{none}
use Rattle.board.specs.Board.{listing, with_listing, empty_entry, empty_board, answered, given, new_of, with_entry, enter_of}
use Rattle.board.specs.Words.{All, Near}
use Rattle.board.specs.Sorting.{all_insert}
use Rattle.board.specs.Bays.{InBay}
use Rattle.board.proofs.Tests.{Tested, no_bay, far, repeated, full, taken, tested, is_near_lem}
use Rattle.board.proofs.Listing.{Sound, with_listing_lem, with_sound}
use Rattle.state.specs.Numbers.{termination_number}
use Rattle.layout.specs.Layout.{width, start, board_length, termination_of, least_at, entry_ok, entry_at}
use Rattle.layout.specs.Layout.{entries_ok, entries_at, board_ok, board_at, entry_fields, entries_fields, board_fields}

-- ---- the doubles of an entry
fields_length : (es : List Entry) (n : ℕ) → length (entries_fields es n) ≡ width * n
unfolding entries_fields
fields_length es zero = refl
fields_length es (suc n) = length-append (entries_fields es n) (entry_fields (get_or es n none)) ∙ (let h = fields_length es n in omega arith)

-- the double k of entry i
field_at : (es : List Entry) (n i k : ℕ) → i < n → k < width → get_or (entries_fields es n) (width * i + k) nan ≡ get_or (entry_fields (get_or es i none)) k nan
unfolding entries_fields
field_at es zero i k h l = absurd (omega arith)
field_at es (suc n) i k h l = let m : i ≤ n = omega arith in go (λ j. field_at es n i k j l) (eq-or-lt_of_le m)
  where
    go : (i < n → get_or (entries_fields es n) (width * i + k) nan ≡ get_or (entry_fields (get_or es i none)) k nan) → (i ≡ n) ⊎ (i < n)
        → get_or (entries_fields es n ++ entry_fields (get_or es n none)) (width * i + k) nan ≡ get_or (entry_fields (get_or es i none)) k nan
    go f (inr j) = let e = fields_length es n in get_or-append (entries_fields es n) (entry_fields (get_or es n none)) nan (width * i + k) (omega arith) ∙ f j
    go f (inl j) =
        let e = fields_length es n in
        let p : width * i + k ≡ length (entries_fields es n) + k = omega arith in
        ap (λ (m : ℕ). get_or (entries_fields es n ++ entry_fields (get_or es n none)) m nan) p
        ∙ get_or-append-add (entries_fields es n) (entry_fields (get_or es n none)) k nan
        ∙ ap (λ (m : ℕ). get_or (entry_fields (get_or es m none)) k nan) (sym j)

module _ (b : Board) where
  abbrev head : List Float
  head = b.pin_x ∷ b.pin_z ∷ whole_of b.count ∷ []

  pub written_length : length (board_fields b) ≡ board_length
  unfolding board_fields
  written_length = length-append head (entries_fields b.entries 256) ∙ ap (λ (n : ℕ). 3 + n) (fields_length b.entries 256)

  double_at_lem : (i k j : ℕ) → i < 256 → k < width → j ≡ 3 + (width * i + k) → double_at (board_fields b) j ≡ get_or (entry_fields (get_or b.entries i none)) k nan
  unfolding board_fields
  double_at_lem i k j h l e =
      ap (double_at (board_fields b)) e ∙ get_or-append-add head (entries_fields b.entries 256) (width * i + k) nan ∙ field_at b.entries 256 i k h l

  module _ (i : ℕ) (h : i < 256) where
    shot_at_lem : double_at (board_fields b) (start i) ≡ whole_of (get_or b.entries i none).shot
    shot_at_lem = double_at_lem i 0 (start i) h (omega arith) (omega arith)

    bay_at : double_at (board_fields b) (start i + 1) ≡ whole_of (get_or b.entries i none).bay
    bay_at = double_at_lem i 1 (start i + 1) h (omega arith) (omega arith)

    termination_at : double_at (board_fields b) (start i + 2) ≡ whole_of (termination_number (get_or b.entries i none).termination)
    termination_at = double_at_lem i 2 (start i + 2) h (omega arith) (omega arith)

    contacts_at : double_at (board_fields b) (start i + 3) ≡ whole_of (get_or b.entries i none).contacts
    contacts_at = double_at_lem i 3 (start i + 3) h (omega arith) (omega arith)

    x_at : double_at (board_fields b) (start i + 4) ≡ (get_or b.entries i none).x
    x_at = double_at_lem i 4 (start i + 4) h (omega arith) (omega arith)

    z_at : double_at (board_fields b) (start i + 5) ≡ (get_or b.entries i none).z
    z_at = double_at_lem i 5 (start i + 5) h (omega arith) (omega arith)

-- ---- boards

-- a shot number and a count of contacts that a u32 holds
abbrev pub Numbers : Entry → Type 0
Numbers e = (e.shot ≤ 4294967295) × (e.contacts ≤ 4294967295)

-- such numbers, a bay that passed test 31, and a spot that passed test 10
abbrev pub Kept : Entry → Type 0
Kept e = Numbers e × (InBay e × Near e)

-- a run that ended: 1 to 3 is its termination's number
abbrev pub Ended : Option Termination → Type 0
Ended t = 1 ≤ termination_number t

-- what holds of every board that calls made: 256 places, a count of at most 256, a pin that passed test 9, such an entry in each place, those past
-- the count too, and on the listing entries of runs that ended
pub record Held (b : Board) : Type 0 where
  pub sound : Sound b
  pub pin_x_lem : T (about_of (dec 100000 1) b.pin_x)
  pub pin_z_lem : T (about_of (dec 100000 1) b.pin_z)
  pub kept : All Kept b.entries
  pub ended : All (λ (e : Entry). Ended e.termination) (listing b)

number_most : (t : Option Termination) → termination_number t ≤ 3
unfolding termination_number
number_most None = omega arith
number_most (Some Rest) = omega arith
number_most (Some MaxTime) = omega arith
number_most (Some MaxImpacts) = omega arith

pub number_back : (t : Option Termination) → termination_of (termination_number t) ≡ t
unfolding termination_number termination_of
number_back None = refl
number_back (Some Rest) = refl
number_back (Some MaxTime) = refl
number_back (Some MaxImpacts) = refl

all_at : (P : Entry → Type 0) (l : List Entry) (i : ℕ) (d : Entry) → All P l → i < length l → P (get_or l i d)
unfolding All
all_at P [] i d a h = absurd (omega arith)
all_at P (e ∷ l) zero d a h = a.0
all_at P (e ∷ l) (suc i) d a h = all_at P l i d a.1 (omega arith)

module _ (b : Board) (h : Held b) where
  kept_at : (i : ℕ) → i < 256 → Kept (get_or b.entries i none)
  kept_at i l = all_at Kept b.entries i none h.kept (let s = h.sound.places in omega arith)

  entry_back : (i : ℕ) → i < 256 → entry_at (board_fields b) (start i) ≡ get_or b.entries i none
  unfolding entry_at
  entry_back i l =
      let e = get_or b.entries i none in
      let m = number_most e.termination in
      let k = kept_at i l in
      rw (
        shot_at_lem b i l,
        bay_at b i l,
        termination_at b i l,
        contacts_at b i l,
        x_at b i l,
        z_at b i l,
        nat_whole e.shot k.0.0,
        nat_whole e.bay (omega (arith, k.1.0)),
        nat_whole (termination_number e.termination) (omega arith),
        number_back e.termination,
        nat_whole e.contacts k.0.1,
      )

  least : (i : ℕ) → least_at b.count i ≤ termination_number (get_or b.entries i none).termination
  unfolding least_at
  least i = go (ltb i b.count) (ltb→lt i b.count)
    where
      go : (t : Bool) → (T t → i < b.count) → cond t 1 0 ≤ termination_number (get_or b.entries i none).termination
      go false f = omega arith
      go true f =
          let c = f tt in
          let s = h.sound.places in
          let m = h.sound.most in
          let n : length (listing b) ≡ b.count = length-take-le b.count b.entries (omega arith) in
          rw (get_or-take b.count b.entries i none c) at (all_at (λ (e : Entry). Ended e.termination) (listing b) i none h.ended (omega arith))

  entry_passes : (i : ℕ) → i < 256 → entry_ok (board_fields b) (least_at b.count i) (start i) ≡ true
  unfolding entry_ok
  entry_passes i l =
      let k = kept_at i l in
      let e = get_or b.entries i none in
      let m = number_most e.termination in
      rw (
        shot_at_lem b i l,
        bay_at b i l,
        termination_at b i l,
        contacts_at b i l,
        x_at b i l,
        z_at b i l,
        whole_is_whole e.shot k.0.0 0 4294967295 (omega arith) k.0.0,
        whole_is_whole e.bay (omega (arith, k.1.0)) 0 7 (omega arith) k.1.0,
        whole_is_whole (termination_number e.termination) (omega arith) (least_at b.count i) 3 (least i) m,
        whole_is_whole e.contacts k.0.1 0 4294967295 (omega arith) k.0.1,
        is_true (about_of (dec 1000000 1) e.x) k.1.1.0,
        is_true (about_of (dec 1000000 1) e.z) k.1.1.1,
      )

  entries_back : (n : ℕ) → n ≤ 256 → entries_at (board_fields b) n ≡ take n b.entries
  unfolding entries_at
  entries_back zero l = refl
  entries_back (suc n) l =
      let s = h.sound.places in
      rw (entries_back n (omega arith), entry_back n (omega arith)) (sym (take-suc b.entries n none (omega arith)))

  entries_pass : (n : ℕ) → n ≤ 256 → entries_ok (board_fields b) b.count n ≡ true
  unfolding entries_ok
  entries_pass zero l = refl
  entries_pass (suc n) l = rw (entries_pass n (omega arith), entry_passes n (omega arith))

  -- the doubles of such a board are a board's
  pub written_ok : board_ok (board_fields b) ≡ true
  unfolding board_ok board_fields
  written_ok =
      let m = h.sound.most in
      rw (
        is_true (about_of (dec 100000 1) b.pin_x) h.pin_x_lem,
        is_true (about_of (dec 100000 1) b.pin_z) h.pin_z_lem,
        whole_is_whole b.count (omega arith) 0 256 (omega arith) m,
        nat_whole b.count (omega arith),
        entries_pass 256 (omega arith),
      )

  -- and it is read back as it was
  pub written_back : board_at (board_fields b) ≡ b
  unfolding board_at board_fields
  written_back =
      let m = h.sound.most in
      let s = h.sound.places in
      rw (nat_whole b.count (omega arith), entries_back 256 (omega arith), take_all 256 b.entries (omega arith))

-- ---- the board that `Board::new` gives is such a board, and so is every board that `Board::enter` gives from one
module _ (P : Entry → Type 0) where
  all_append : (l m : List Entry) → All P l → All P m → All P (l ++ m)
  unfolding All
  all_append [] m a c = c
  all_append (e ∷ l) m a c = (a.0, all_append l m a.1 c)

  all_take : (n : ℕ) (l : List Entry) → All P l → All P (take n l)
  unfolding All
  all_take zero l a = tt
  all_take (suc n) [] a = tt
  all_take (suc n) (e ∷ l) a = (a.0, all_take n l a.1)

  all_drop : (n : ℕ) (l : List Entry) → All P l → All P (drop n l)
  unfolding All
  all_drop zero l a = a
  all_drop (suc n) [] a = tt
  all_drop (suc n) (e ∷ l) a = all_drop n l a.1

  all_replicate : (n : ℕ) (e : Entry) → P e → All P (replicate n e)
  unfolding All
  all_replicate zero e h = tt
  all_replicate (suc n) e h = (h, all_replicate n e h)

empty_kept : Kept empty_entry
unfolding round neg le lt eq within_of
empty_kept = ((omega arith, omega arith), (omega arith, (tt, tt)))

empty_held : (px pz : Float) → T (about_of (dec 100000 1) px) → T (about_of (dec 100000 1) pz) → Held (empty_board px pz)
unfolding All
empty_held px pz h k =
    record {
      sound = record { places = length-replicate {A = Entry} 256 empty_entry; most = omega arith };
      pin_x_lem = h;
      pin_z_lem = k;
      kept = all_replicate Kept 256 empty_entry empty_kept;
      ended = tt;
    }

pin_of_0 : T (about_of (dec 100000 1) (dec 0 1))
unfolding round neg le lt eq within_of
pin_of_0 = tt

-- on either answer
pub new_held : (px pz : Float) → Held (new_of px pz).board
unfolding new_of
new_held px pz = go (about_of (dec 100000 1) px) (about_of (dec 100000 1) pz) (λ t. t) (λ t. t)
  where
    go : (p q : Bool) → (T p → T (about_of (dec 100000 1) px)) → (T q → T (about_of (dec 100000 1) pz))
        → Held (cond (p && q) (answered 0 (empty_board px pz)) (answered 9 (empty_board (dec 0 1) (dec 0 1)))).board
    go true true f g = empty_held px pz (f tt) (g tt)
    go true false f g = empty_held (dec 0 1) (dec 0 1) pin_of_0 pin_of_0
    go false q f g = empty_held (dec 0 1) (dec 0 1) pin_of_0 pin_of_0

with_held : (b : Board) (e : Entry) → length (listing b) < 256 → Kept e → Ended e.termination → Held b → Held (with_entry b e)
unfolding with_entry with_listing
with_held b e room k t h =
    record {
      sound = with_sound b h.sound e room;
      pin_x_lem = h.pin_x_lem;
      pin_z_lem = h.pin_z_lem;
      kept =
          all_append Kept _ _ (all_insert Kept (is_before b.pin_x b.pin_z e) e (listing b) k (all_take Kept b.count b.entries h.kept))
          (all_drop Kept (length (insert (is_before b.pin_x b.pin_z e) e (listing b))) b.entries h.kept);
      ended = rw (with_listing_lem b h.sound e room)
          (all_insert (λ (f : Entry). Ended f.termination) (is_before b.pin_x b.pin_z e) e (listing b) t h.ended);
    }

-- with numbers that a u32 holds, of a run that ended, on every answer
pub enter_held : (b : Board) (e : Entry) → Numbers e → Ended e.termination → Held b → Held (enter_of b e).board
unfolding enter_of
enter_held b e m t h = go (tested (listing b) e)
  where
    go : {n : ℕ} → Tested (listing b) e n → Held (given b e n).board
    go (no_bay p) = h
    go (far p q) = h
    go (repeated p q) = h
    go (full k p q) = h
    go (taken k p q u r) = with_held b e r (m, (k, is_near_lem e p)) t h
