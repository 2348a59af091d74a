-- Laws of the board's lists. Assumes nothing.
use Prim.Native.Nat.{ℕ, zero, suc, ◌+◌, ◌-◌, ◌≤◌, ◌<◌}
use native.Mathlib.Nat.{add_comm}
use native.Mathlib.Numerals.{add-one}
use native.Mathlib.Omega.{arith}
use mathlib.Core.Path.{◌≡◌, refl, ap, ◌∙◌, sym}
use mathlib.Core.Bool.{Bool, true, false, not, cond}
use mathlib.Core.List.{List, [], ◌∷◌, ◌++◌, append_assoc}
use lib.Dec.{eqb, ltb}
use lib.ListN.{length, take, drop, set, length-take, length-drop, length-append}
use lib.Seq.{drop-drop, drop_at, length-take-le, drop-set-lt, drop-append-le, take_at, take-take, take-set-le, set_split}
use Rattle.board.specs.declared.Entry.{Entry}
use Rattle.board.specs.declared.Board.{Board}
use Rattle.board.specs.Rules.{is_before, insert, one, used, answer_of}
use Rattle.board.specs.Board.{listing, with_listing, with_entry, answered, given, enter_of}
use Rattle.refusal.specs.declared.Refusal.{Refusal}
use Rattle.refusal.specs.Refusal.{number_of}
use Rattle.refusal.proofs.Numbers.{never_0}
use Rattle.board.specs.Sorting.{insert-length}
use Rattle.board.proofs.Tests.{Tested, no_bay, far, repeated, full, taken, tested}
use Rattle.std.specs.List.{count_by, position_or_len}
use Rattle.std.specs.Prelude.{position, unwrap_or, Some, None}
use borrow.Author.Tests.{ltb-false}
use Rattle.std.proofs.lemmas.List.Recursion.{is_count_by}
use borrow.Rule.Slice.PartMut.{put_mid, mid_of, post_of}

-- ---- a bay's entries, counted in the library's word
one_is : (k : ℕ) (e : Entry) (n : ℕ) → one k e + n ≡ cond (eqb e.bay k) (1 + n) n
unfolding one
one_is k e n = go (eqb e.bay k)
  where
    go : (t : Bool) → cond t 1 0 + n ≡ cond t (1 + n) n
    go true = refl
    go false = omega arith

pub used_is : (k : ℕ) (l : List Entry) → used k l ≡ count_by (λ (e : Entry). eqb e.bay k) l
unfolding used
used_is k l = is_count_by (used k) (λ e. eqb e.bay k) refl (λ e m. one_is k e (used k m)) l

pub one_most : (k : ℕ) (e : Entry) → one k e ≤ 1
unfolding one
one_most k e = go (eqb e.bay k)
  where
    go : (t : Bool) → cond t 1 0 ≤ 1
    go true = omega arith
    go false = omega arith

-- ---- the place is where `insert` puts the entry
pub place_le : (p : Entry → Bool) (l : List Entry) → position_or_len p l ≤ length l
place_le p [] = omega arith
place_le p (f ∷ l) = go (p f) (place_le p l)
  where
    go : (b : Bool) → position_or_len p l ≤ length l → cond (not b) (1 + position_or_len p l) 0 ≤ suc (length l)
    go true h = omega arith
    go false h = omega arith

pub place_is : (p : Entry → Bool) (l : List Entry) (n : ℕ) → n ≡ length l → unwrap_or (position p l) n ≡ position_or_len p l
place_is p l n h = go (ltb (position_or_len p l) (length l)) refl
  where
    go : (b : Bool) → ltb (position_or_len p l) (length l) ≡ b → unwrap_or (cond b (Some (position_or_len p l)) None) n ≡ position_or_len p l
    go true k = refl
    go false k = let m = ltb-false _ _ k in let j = place_le p l in omega arith

pub inserts : (p : Entry → Bool) (e : Entry) (l : List Entry) → insert p e l ≡ take (position_or_len p l) l ++ (e ∷ drop (position_or_len p l) l)
unfolding insert
inserts p e [] = refl
inserts p e (f ∷ l) = go (p f) (inserts p e l)
  where
    go : (b : Bool) → insert p e l ≡ take (position_or_len p l) l ++ (e ∷ drop (position_or_len p l) l)
        → elim b [ true ↦ e ∷ f ∷ l | false ↦ f ∷ insert p e l ] ≡ take (cond (not b) (1 + position_or_len p l) 0) (f ∷ l) ++
        (e ∷ drop (cond (not b) (1 + position_or_len p l) 0) (f ∷ l))
    go true h = refl
    go false h = rw (add_comm 1 (position_or_len p l), add-one) (ap (λ (x : List Entry). f ∷ x) h)

-- ---- an entry put behind the listing, and then turned to its place
module _ (l : List Entry) (n i : ℕ) (e : Entry) (h : i ≤ n) (k : n < length l) where
  rest : drop i (set l n e) ≡ drop i (take n l) ++ (e ∷ drop (n + 1) l)
  rest = rw (add-one, set_split l n e k) (drop-append-le i (take n l) (e ∷ drop (suc n) l) (rw (length-take-le n l (omega arith)) h))

  long : length (drop i (take n l)) ≡ n - i
  long = simp (length-drop, length-take) (omega arith)

  part : mid_of i (n + 1 - i) (set l n e) ≡ drop i (take n l) ++ (e ∷ [])
  part = rw (rest, append_snoc')
      (take_at (drop i (take n l) ++ (e ∷ [])) (drop (n + 1) l) (n + 1 - i) (length-append (drop i (take n l)) (e ∷ []) ∙ omega (arith, long)))
    where
      append_snoc' : drop i (take n l) ++ (e ∷ drop (n + 1) l) ≡ (drop i (take n l) ++ (e ∷ [])) ++ drop (n + 1) l
      append_snoc' = sym (append_assoc (drop i (take n l)) (e ∷ []) (drop (n + 1) l))

  past : post_of i (n + 1 - i) (set l n e) ≡ drop (n + 1) l
  past = simp drop-drop (rw (drop-set-lt (i + (n + 1 - i)) l n e (omega arith)) (ap (λ (j : ℕ). drop j l) (omega arith)))

  pub turned : {m : List Entry} → m ≡ drop (length (mid_of i (n + 1 - i) (set l n e)) - 1) (mid_of i (n + 1 - i) (set l n e))
      ++ take (length (mid_of i (n + 1 - i) (set l n e)) - 1) (mid_of i (n + 1 - i) (set l n e))
      → put_mid i (n + 1 - i) (set l n e) m ≡ take i l ++ (e ∷ (drop i (take n l) ++ drop (n + 1) l))
  turned {m} x =
      let a = drop i (take n l) in
      let c : length (a ++ (e ∷ [])) - 1 ≡ length a = rw length-append (omega arith) in
      let y : m ≡ e ∷ a = x ∙ rw (part, c, drop_at a (e ∷ []) (length a) refl, take_at a (e ∷ []) (length a) refl) in
      ap (λ (t : List Entry). take i (set l n e) ++ (m ++ t)) past ∙ rw (y, take-set-le i l n e h)

-- where the place is that at which e is put in, and the whole list is long enough
pub placed : (p : Entry → Bool) (e : Entry) (l : List Entry) (n : ℕ) → n < length l → {i : ℕ} {m : List Entry} → i ≡ position_or_len p (take n l)
    → m ≡ drop (length (mid_of i (n + 1 - i) (set l n e)) - 1) (mid_of i (n + 1 - i) (set l n e))
    ++ take (length (mid_of i (n + 1 - i) (set l n e)) - 1) (mid_of i (n + 1 - i) (set l n e))
    → put_mid i (n + 1 - i) (set l n e) m ≡ insert p e (take n l) ++ drop (n + 1) l
placed p e l n k {i} q x =
    let h : i ≤ n = let j = place_le p (take n l) in let t = length-take-le n l (omega arith) in omega arith in
    turned l n i e h k x ∙ rw (inserts p e (take n l), append_assoc, ← q, take-take i n l h)

-- ---- the board with one entry more, its count and its array written out
pub one_more : (b : Board) (e : Entry) {l : List Entry} → length (listing b) ≡ b.count
    → l ≡ insert (is_before b.pin_x b.pin_z e) e (listing b) ++ drop (b.count + 1) b.entries
    → ◌≡◌ {A = Board} (record { pin_x = b.pin_x; pin_z = b.pin_z; count = b.count + 1; entries = l }) (with_entry b e)
unfolding with_entry with_listing
one_more b e n x =
    let p = is_before b.pin_x b.pin_z e in
    let m : length (insert p e (listing b)) ≡ b.count + 1 = insert-length p e (listing b) ∙ omega arith in
    rw (m, x)

-- ---- an entry turned back, and one taken
pub refused : (b : Board) (e : Entry) (r : Refusal) → number_of r ≡ answer_of (listing b) e → answered (number_of r) b ≡ enter_of b e
unfolding enter_of
refused b e r a = go (number_of r) (never_0 r) a
  where
    go : (n : ℕ) → (n ≡ 0 → ⊥) → n ≡ answer_of (listing b) e → answered n b ≡ given b e (answer_of (listing b) e)
    go zero h q = absurd (h refl)
    go (suc n) h q = rw (← q)

pub entered : (b : Board) (e : Entry) {m : Board} → 0 ≡ answer_of (listing b) e → m ≡ with_entry b e → answered 0 m ≡ enter_of b e
unfolding enter_of
entered b e a h = rw (← a, h)

-- where an entry is taken there is room
pub room : (b : Board) (e : Entry) → length b.entries ≡ 256 → 0 ≡ answer_of (listing b) e → (length (listing b) ≡ b.count) × (b.count < 256)
room b e h a = go (tested (listing b) e) a
  where
    go : {k : ℕ} → Tested (listing b) e k → 0 ≡ k → (length (listing b) ≡ b.count) × (b.count < 256)
    go (no_bay p) k = absurd (omega arith)
    go (far p q) k = absurd (omega arith)
    go (repeated p q) k = absurd (omega arith)
    go (full i p q) k = absurd (omega arith)
    go (taken p q r u t) k =
        let n = length-take b.count b.entries in
        (omega arith, omega arith)
