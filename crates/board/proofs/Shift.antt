-- Laws of a list of which the last entry goes in front, one by one.
use Prim.Native.Nat.{ℕ, suc, ◌+◌, ◌≤◌, ◌<◌}
use native.Mathlib.Numerals.{add-one}
use native.Mathlib.Omega.{arith}
use Rattle.std.proofs.Common.{append-nil}
use mathlib.Core.Path.{◌≡◌, ◌∙◌}
use mathlib.Core.List.{List, [], ◌∷◌, ◌++◌}
use lib.ListN.{length, take, drop, get_or, set, drop_of_length-le}
use lib.Seq.{drop-cons, get_or-take, length-take-le, take-suc-set, drop-set-lt, take-set-lt, append_snoc, set_split}
use Rattle.board.specs.declared.Entry.{Entry}

-- e put in at i, and the entries from there to before n moved on by one
abbrev pub shifted : List Entry → ℕ → ℕ → Entry → List Entry
shifted l n i e = take i l ++ (e ∷ (drop i (take n l) ++ drop (n + 1) l))

-- the first n entries from i on, taken apart
ahead : (l : List Entry) (n i : ℕ) (d : Entry) → i < n → n ≤ length l → drop i (take n l) ≡ get_or l i d ∷ drop (i + 1) (take n l)
ahead l n i d h k =
    let e : length (take n l) ≡ n = length-take-le n l k in
    let j : i < length (take n l) = rw e h in
    drop-cons (take n l) i d j ∙ rw (get_or-take n l i d, add-one)

none_left : (l : List Entry) (n i : ℕ) → n ≤ i → n ≤ length l → drop i (take n l) ≡ []
none_left l n i h k = drop_of_length-le (take n l) {i = i} (rw (length-take-le n l k) h)

pub shift_turn : (l : List Entry) (n j : ℕ) (e d : Entry) → j < n → n < length l → shifted (set l j e) n (j + 1) (get_or l j d) ≡ shifted l n j e
shift_turn l n j e d h k =
    let a : j < j + 1 = omega arith in
    let b : j < n + 1 = omega arith in
    let i : j < length l = omega arith in
    rw (
      take-set-lt n l j e,
      drop-set-lt (j + 1) (take n l) j e,
      drop-set-lt (n + 1) l j e,
      ahead l n j d h (omega arith),
      add-one,
      take-suc-set l j e,
      append_snoc,
    )

pub shift_end : (l : List Entry) (n : ℕ) (e : Entry) → n < length l → set l n e ≡ shifted l n n e
shift_end l n e h = rw (none_left l n n (omega arith) (omega arith), add-one) (set_split l n e h)

-- of the whole list: the last in front, the others behind it
pub all_shifted : (l : List Entry) (n : ℕ) (d : Entry) → length l ≡ n + 1 → shifted l n 0 (get_or l n d) ≡ drop n l ++ take n l
all_shifted l n d h = rw (add-one, drop-cons l n d (omega arith), drop_of_length-le l {i = suc n} (omega arith), append-nil)
