-- Lemmas. An entry among the chunks of a board's doubles is the entry at its place in them.
use Rattle.std.specs.Prelude.{Bool, true, false, ◌&&◌, ℕ, zero, suc, ◌+◌, ◌*◌, ◌<◌, ◌≤◌, ◌≡◌, refl, length, take, drop, Float}
use Rattle.std.proofs.Common.{arith, ap, ◌∙◌, get_or, get_or-drop, take_all, length-drop, sym, take-suc}
use Rattle.std.proofs.lemmas.List.{get_or-take, drop-drop}
use Rattle.std.specs.List.{list_all, enumerate_from}
use denote.Param.Members.{Mut}
use Rattle.std.specs.Fn.{Called}
use Rattle.std.specs.Array.{IsFromFnResultFrom, IsFromFnResult}
use Rattle.std.proofs.Math.Path.{subst}
use Rattle.board.specs.declared.Entry.{Entry}
use Rattle.board.specs.Inner.{none}
use Rattle.std.specs.Simd.{first_chunks}
use mathlib.Core.List.{List, [], ◌∷◌}
use Rattle.std.specs.Float.Ieee.{nan}
use Rattle.fields.specs.Fields.{double_at}
use Rattle.layout.specs.Layout.{width, start, board_length, least_at, entry_ok, entry_at, entries_ok, entries_at}

chunks_length : (n k : ℕ) (xs : List Float) → length (first_chunks n k xs) ≡ k
chunks_length n zero xs = refl
chunks_length n (suc k) xs = ap suc (chunks_length n k (drop n xs))

chunk_at : (k i : ℕ) (xs : List Float) → i < k → get_or (first_chunks width k xs) i [] ≡ take width (drop (width * i) xs)
chunk_at zero i xs h = absurd (omega arith)
chunk_at (suc k) zero xs h = refl
chunk_at (suc k) (suc i) xs h =
    let e : width + width * i ≡ width * suc i = omega arith in
    chunk_at k i (drop width xs) (omega arith) ∙ ap (take width) (drop-drop (width * i) width xs ∙ ap (λ (m : ℕ). drop m xs) e)

double_in : (l : List Float) (o k j : ℕ) → k < width → j ≡ o + k → double_at (take width (drop o l)) k ≡ double_at l j
double_in l o k j h e = get_or-take width (drop o l) k nan h ∙ (get_or-drop o l k nan ∙ ap (double_at l) (let f : o + k ≡ j = omega arith in f))

module _ (l : List Float) (o : ℕ) where
  entry_alone : entry_at (take width (drop o l)) 0 ≡ entry_at l o
  unfolding entry_at
  entry_alone =
      rw (
        double_in l o 0 o (omega arith) (omega arith),
        double_in l o 1 (o + 1) (omega arith) (omega arith),
        double_in l o 2 (o + 2) (omega arith) (omega arith),
        double_in l o 3 (o + 3) (omega arith) (omega arith),
        double_in l o 4 (o + 4) (omega arith) (omega arith),
        double_in l o 5 (o + 5) (omega arith) (omega arith),
      )

  ok_alone : (t : ℕ) → entry_ok (take width (drop o l)) t 0 ≡ entry_ok l t o
  unfolding entry_ok
  ok_alone t =
      rw (
        double_in l o 0 o (omega arith) (omega arith),
        double_in l o 1 (o + 1) (omega arith) (omega arith),
        double_in l o 2 (o + 2) (omega arith) (omega arith),
        double_in l o 3 (o + 3) (omega arith) (omega arith),
        double_in l o 4 (o + 4) (omega arith) (omega arith),
        double_in l o 5 (o + 5) (omega arith) (omega arith),
      )

-- the chunks behind a board's head
module _ (l : List Float) (n : length l ≡ board_length) (held : List (List Float)) (k i : ℕ)
    (e : held ≡ first_chunks width k (take (width * 256) (drop 3 l)))
    (h : i < length held) where
  chunk : get_or held i [] ≡ take width (drop (start i) l)
  chunk =
      let m : length (drop 3 l) ≤ width * 256 = omega (arith, length-drop 3 l) in
      let f : held ≡ first_chunks width k (drop 3 l) = e ∙ ap (first_chunks width k) (take_all (width * 256) (drop 3 l) m) in
      let c = chunks_length width k (drop 3 l) in
      let d = ap length f in
      ap (λ (c : List (List Float)). get_or c i []) f ∙ chunk_at k i (drop 3 l) (omega arith) ∙ ap (take width) (drop-drop (width * i) 3 l)

  pub entry_in : entry_at (get_or held i []) 0 ≡ entry_at l (start i)
  entry_in = rw chunk (entry_alone l (start i))

  ok_in : (t : ℕ) → entry_ok (get_or held i []) t 0 ≡ entry_ok l t (start i)
  ok_in t = rw chunk (ok_alone l (start i) t)

-- ---- a test of each, from the first on

true_after : (a : Bool) → a && true ≡ a
true_after true = refl
true_after false = refl

regroup : (a b c : Bool) → a && (b && c) ≡ (a && b) && c
regroup true b c = refl
regroup false b c = refl

abbrev passes : ℕ → ℕ × List Float → Bool
passes count p = entry_ok p.1 (least_at count p.0) 0

all_on : (l : List Float) (count : ℕ) (held : List (List Float)) (i : ℕ)
    → ((k j : ℕ) → j ≡ i + k → k < length held → passes count (j, get_or held k []) ≡ entry_ok l (least_at count j) (start j))
    → entries_ok l count i && list_all (passes count) (enumerate_from i held) ≡ entries_ok l count (i + length held)
unfolding entries_ok
all_on l count [] i h = true_after (entries_ok l count i) ∙ ap (entries_ok l count) (let e : i ≡ i + 0 = omega arith in e)
all_on l count (x ∷ held) i h =
    let r = list_all (passes count) (enumerate_from (i + 1) held) in
    let e : suc i ≡ i + 1 = omega arith in
    let f : i + 1 + length held ≡ i + suc (length held) = omega arith in
    regroup (entries_ok l count i) (passes count (i, x)) r
    ∙ ap (λ (b : Bool). (entries_ok l count i && b) && r) (h 0 i (omega arith) (omega arith))
    ∙ ap (λ (n : ℕ). entries_ok l count n && r) e
    ∙ all_on l count held (i + 1) (λ k j p m. h (suc k) j (omega arith) (omega arith))
    ∙ ap (entries_ok l count) f

pub all_in : (l : List Float) → length l ≡ board_length → (held : List (List Float)) (k : ℕ)
    → held ≡ first_chunks width k (take (width * 256) (drop 3 l))
    → length held ≡ 256
    → (count : ℕ)
    → list_all (λ (p : ℕ × List Float). entry_ok p.1 (least_at count p.0) 0) (enumerate_from 0 held) ≡ entries_ok l count 256
unfolding entries_ok
all_in l n held k e m count =
    let f : 0 + length held ≡ 256 = omega arith in
    all_on l count held 0
    (λ i j p h. let q : i ≡ j = omega arith in ok_in l n held k i e h (least_at count j) ∙ ap (λ (a : ℕ). entry_ok l (least_at count j) (start a)) q)
    ∙ ap (entries_ok l count) f

-- ---- the entries that `from_fn` makes, by a closure that changes nothing

module _ {F : Type 0} {g : Mut F (ℕ × Unit {0}) Entry} (f : F) (h : ℕ → Entry) (ys : List Entry)
    (pure : (i : ℕ) (y : Entry) (q : F) → Called g f (i, tt) y q → (q ≡ f) × (y ≡ h i)) where
  made_from : (n i : ℕ) → IsFromFnResultFrom g f ys i n → (k j : ℕ) → j ≡ i + k → k < n → get_or ys j none ≡ h j
  made_from zero i m k j e l = absurd (omega arith)
  made_from (suc n) i m zero j e l =
      let p : i ≡ j = omega arith in
      subst (λ (a : ℕ). get_or ys a none ≡ h a) p (m.2.1 none ∙ (pure i m.1 m.0 m.3).1)
  made_from (suc n) i m (suc k) j e l =
      made_from n (i + 1) (subst (λ (a : F). IsFromFnResultFrom g a ys (i + 1) n) (pure i m.1 m.0 m.3).0 m.4) k j (omega arith) (omega arith)

read_all : (l : List Float) (ys : List Entry) → length ys ≡ 256 → ((k : ℕ) → k < 256 → get_or ys k none ≡ entry_at l (start k)) → (n : ℕ) → n ≤ 256
    → take n ys ≡ entries_at l n
unfolding entries_at
read_all l ys m h zero b = refl
read_all l ys m h (suc n) b =
    let a : n < length ys = omega arith in
    take-suc ys n none a ∙ rw (read_all l ys m h n (omega arith), h n (omega arith))

pub entries_made : {F : Type 0} {g : Mut F (ℕ × Unit {0}) Entry} (l : List Float) → length l ≡ board_length → (held : List (List Float)) (k : ℕ)
    → held ≡ first_chunks width k (take (width * 256) (drop 3 l)) → length held ≡ 256
    → (f : F) (ys : List Entry)
    → ((i : ℕ) (y : Entry) (q : F) → Called g f (i, tt) y q → (q ≡ f) × (y ≡ entry_at (get_or held i []) 0))
    → IsFromFnResult g f ys 256
    → ys ≡ entries_at l 256
entries_made l n held k e m f ys pure made =
    let b : length ys ≤ 256 = omega (arith, made.long) in
    sym (take_all 256 ys b)
    ∙ read_all l ys made.long
    (λ i a. made_from f (λ j. entry_at (get_or held j []) 0) ys pure 256 0 made.each i i (omega arith) a ∙ entry_in l n held k i e (omega arith))
    256 (omega arith)
