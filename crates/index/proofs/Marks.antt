-- Words of marks.
use Prim.Native.Nat.{ℕ, zero, suc, ◌+◌, ◌-◌, ◌*◌, ◌/◌, ◌%◌, ◌^◌, ◌≤◌, ◌<◌, min}
use native.Mathlib.Nat.{add-zero, sub-zero, le_refl, not-suc-le-zero, le_of_suc-le-suc, pow-succ', div-div-eq-div-mul, div-one, suc-add, zero-add, sub_self}
use native.Mathlib.Nat.{le_of_lt, eq-or-lt_of_le}
use native.Mathlib.Numerals.{add-one}
use native.Mathlib.Omega.{arith}
use mathlib.Core.Path.{◌≡◌, refl, sym, ap, ◌∙◌, subst, subst⁻¹}
use mathlib.Core.Logic.{inl, inr}
use mathlib.Core.List.{List}
use lib.ListN.{length, get_or, set, length-set}
use lib.Seq.{get_or-set_same, get_or-set_other}
use lib.Ieee.{Float}
use mathlib.Core.Bool.{Bool, true, false, cond}
use lib.Bits.{bit_and, and_step}
use lib.Dec.{lit<}
use lib.Count.{count_trailing_zeros, under}
use Rattle.number.specs.Number.{within_of}
use Rattle.sheet.specs.Sheet.{first, covers}
use Rattle.index.specs.Index.{Marks, reaches, cut, strip, low, Entry, Indexed, Row, index_words, SameCuts}
use Rattle.index.proofs.Reach.{reach_x, reach_z}

-- p holds of fewer
pub marks_mono : (p q : ℕ → Bool) → ((k : ℕ) → p k ≡ true → q k ≡ true) → (m n i : ℕ) → Marks q m n i → Marks p m n i
unfolding Marks
marks_mono p q h m zero i r = tt
marks_mono p q h m (suc n) i r = (λ e. r.0 (h i e), marks_mono p q h (m / 2) n (i + 1) r.1)

half : (a b : ℕ) → b < 2 → (a * 2 + b) / 2 ≡ a
half a b l = omega arith

odd : (a b : ℕ) → b < 2 → (a * 2 + b) % 2 ≡ b
odd a b l = omega arith

pub marks_and : (p : ℕ → Bool) (a b n i : ℕ) → Marks p a n i → Marks p b n i → Marks p (bit_and a b) n i
unfolding Marks
marks_and p a b zero i r t = tt
marks_and p a b (suc n) i r t =
    let l : min (a % 2) (b % 2) < 2 = omega arith in
    rw (and_step a b) (
      (λ e. odd (bit_and (a / 2) (b / 2)) (min (a % 2) (b % 2)) l ∙ least (r.0 e) (t.0 e)),
      subst (λ (x : ℕ). Marks p x n (i + 1)) (sym (half (bit_and (a / 2) (b / 2)) (min (a % 2) (b % 2)) l))
          (marks_and p (a / 2) (b / 2) n (i + 1) r.1 t.1),
    )
  where
    least : a % 2 ≡ 1 → b % 2 ≡ 1 → min (a % 2) (b % 2) ≡ 1
    least g h = omega arith

-- one more mark, below
pub marks_more : (p : ℕ → Bool) (m b n i : ℕ) → b < 2 → (p i ≡ true → b ≡ 1) → Marks p m n (i + 1) → Marks p (m * 2 + b) (suc n) i
unfolding Marks
marks_more p m b n i l h r = (λ e. odd m b l ∙ h e, subst (λ (x : ℕ). Marks p x n (i + 1)) (sym (half m b l)) r)

-- the zeros at the end are passed over
pub record Skipped (p : ℕ → Bool) (m n i d : ℕ) : Type 0 where
  pub same : first p n i ≡ first p (n - d) (i + d)
  pub rest : Marks p (m / 2 ^ d) (n - d) (i + d)

not_there : (p : ℕ → Bool) (m i : ℕ) → (p i ≡ true → m % 2 ≡ 1) → m % 2 ≡ 0 → p i ≡ false
not_there p m i h z = go (p i) h
  where
    go : (t : Bool) → (t ≡ true → m % 2 ≡ 1) → t ≡ false
    go true g = absurd (no (g refl))
      where
        no : m % 2 ≡ 1 → ⊥
        no e = omega arith
    go false g = refl

at_zero : (x y d : ℕ) → suc d ≤ under x y → (x ≡ 0) × (d ≤ y)
at_zero zero y d l = (refl, le_of_suc-le-suc l)
at_zero (suc x) y d l = absurd (not-suc-le-zero l)

pub skip : (p : ℕ → Bool) (f m n i d : ℕ) → Marks p m n i → d ≤ count_trailing_zeros f m → d ≤ n → Skipped p m n i d
unfolding Marks first count_trailing_zeros
skip p f m n i zero r t l = record { same = rw (sub-zero, add-zero); rest = rw (sub-zero, add-zero, div-one) r }
skip p f m zero i (suc d) r t l = absurd (not-suc-le-zero l)
skip p zero m (suc n) i (suc d) r t l = absurd (not-suc-le-zero t)
skip p (suc f) m (suc n) i (suc d) r t l = go (skip p f (m / 2) n (i + 1) d r.1 (at_zero (m % 2) (count_trailing_zeros f (m / 2)) d t).1 (le_of_suc-le-suc l))
  where
    miss : p i ≡ false
    miss = not_there p m i r.0 (at_zero (m % 2) (count_trailing_zeros f (m / 2)) d t).0

    n_d : suc n - suc d ≡ n - d
    n_d = omega arith

    i_d : i + suc d ≡ i + 1 + d
    i_d = omega arith

    m_d : m / 2 ^ suc d ≡ m / 2 / 2 ^ d
    m_d = rw (pow-succ', div-div-eq-div-mul)

    go : Skipped p (m / 2) n (i + 1) d → Skipped p m (suc n) i (suc d)
    go s = record { same = rw (n_d, i_d, miss) s.same; rest = rw (n_d, i_d, m_d) s.rest }

-- no marks at all
pub none_left : (p : ℕ → Bool) (n i : ℕ) → Marks p 0 n i → first p n i ≡ i + n
unfolding Marks first
none_left p zero i r = sym (add-zero i)
none_left p (suc n) i r = rw (not_there p 0 i r.0 refl, none_left p n (i + 1) r.1) (omega arith)

-- a scan in two parts
pub first_head : (p : ℕ → Bool) (a b i : ℕ) → first p a i < i + a → first p (a + b) i ≡ first p a i
unfolding first
first_head p zero b i l = absurd (omega arith)
first_head p (suc a) b i l = rw suc-add (go (p i) l (first_head p a b (i + 1)))
  where
    go : (t : Bool) → cond t i (first p a (i + 1)) < i + suc a → (first p a (i + 1) < i + 1 + a → first p (a + b) (i + 1) ≡ first p a (i + 1))
        → cond t i (first p (a + b) (i + 1)) ≡ cond t i (first p a (i + 1))
    go true l h = refl
    go false l h = h (omega arith)

pub first_tail : (p : ℕ → Bool) (a b i : ℕ) → i + a ≤ first p a i → first p (a + b) i ≡ first p b (i + a)
unfolding first
first_tail p zero b i l = rw (zero-add, add-zero)
first_tail p (suc a) b i l = rw suc-add (go (p i) l (first_tail p a b (i + 1)))
  where
    move : i + 1 + a ≡ i + suc a
    move = omega arith

    go : (t : Bool) → i + suc a ≤ cond t i (first p a (i + 1)) → (i + 1 + a ≤ first p a (i + 1) → first p (a + b) (i + 1) ≡ first p b (i + 1 + a))
        → cond t i (first p (a + b) (i + 1)) ≡ first p b (i + suc a)
    go true l h = absurd (omega arith)
    go false l h = h (omega arith) ∙ ap (first p b) move

-- ---- the loop that makes a word
pub no_marks : (p : ℕ → Bool) (e : ℕ) → (0 < 2 ^ (e - e)) × Marks p 0 (e - e) e
unfolding Marks
no_marks p e = rw sub_self (lit< tt, tt)

pub one_more : (p : ℕ → Bool) (m b e j : ℕ) → 0 < j → j ≤ e → b < 2 → (p (j - 1) ≡ true → b ≡ 1) → m < 2 ^ (e - j) → Marks p m (e - j) j
    → (m * 2 + b < 2 ^ (e - (j - 1))) × Marks p (m * 2 + b) (e - (j - 1)) (j - 1)
one_more p m b e j l h k g u r =
    rw n (rw pow-succ' (omega arith), marks_more p m b (e - j) (j - 1) k g (subst (λ (x : ℕ). Marks p m (e - j) x) i r))
  where
    n : e - (j - 1) ≡ suc (e - j)
    n = let q : e - (j - 1) ≡ e - j + 1 = omega arith in q ∙ add-one (e - j)

    i : j ≡ j - 1 + 1
    i = omega arith

-- ---- the loop that goes through the marks: those of m are left, of the records from j to before e, and the first from j on is the first from i on
pub record Left (p : ℕ → Bool) (m e j i : ℕ) : Type 0 where
  pub marks : Marks p m (e - j) j
  pub same : first p (e - j) j ≡ first p (e - i) i

module _ {p : ℕ → Bool} {m e j i : ℕ} (r : Left p m e j i) where
  abbrev zeros : ℕ
  zeros = count_trailing_zeros 64 m

  pub far : j ≤ e → e - j ≤ zeros → e ≡ first p (e - i) i
  unfolding first
  far h l = let s = skip p 64 m (e - j) j (e - j) r.marks l (le_refl (e - j)) in end ∙ sym (rw sub_self at s.same) ∙ r.same
    where
      end : e ≡ j + (e - j)
      end = omega arith

  pub empty : j ≤ e → m ≡ 0 → e ≡ first p (e - i) i
  empty h z = end ∙ sym (none_left p (e - j) j (subst (λ (x : ℕ). Marks p x (e - j) j) z r.marks)) ∙ r.same
    where
      end : e ≡ j + (e - j)
      end = omega arith

  module _ (l : zeros < e - j) {b : Bool} (h : b ≡ p (j + zeros)) where
    passed : Skipped p m (e - j) j zeros
    passed = skip p 64 m (e - j) j zeros r.marks (le_refl zeros) (le_of_lt l)

    some : e - j - zeros ≡ suc (e - (j + zeros + 1))
    some = let q : e - j - zeros ≡ e - (j + zeros + 1) + 1 = omega arith in q ∙ add-one _

    pub hit : b ≡ true → j + zeros ≡ first p (e - i) i
    unfolding first
    hit t = rw (← r.same, passed.same, some, ← h, t)

    pub after : b ≡ false → Left p (m / 2 ^ zeros / 2) e (j + zeros + 1) i
    unfolding first Marks
    after t = record { marks = (rw some at passed.rest).1; same = rw (← r.same, passed.same, some, ← h, t) }

-- ---- the index
pub entered : (s l : List ℕ) (k v d : ℕ) {from end : ℕ} {lo hi : Float} → d ≡ k / 128 → from ≡ low s (k % 8) → end ≡ low s (k % 8 + 1) → lo ≡ cut l (strip k)
    → hi ≡ cut l (strip k + 1) → Marks (reaches s d lo hi) v (end - from) from → Entry s l k v
unfolding Entry
entered s l k v d a f e x y m = rw (← x, ← y, ← f, ← e, ← a) m

-- the records of word w that both a row and a column mark
module _ (s : List ℕ) (p : ℕ → Bool) (ix : List ℕ) (a b w from end : ℕ) (f : from ≡ low s w) (e : end ≡ low s (w + 1)) (l : w < 8) where
  taken : (k : ℕ) → Row s p ix k → Marks p (get_or ix (k + w) 0) (end - from) from
  unfolding Row
  taken k r = rw (f, e) (r w l)

  pub both_marked : Row s p ix a → Row s p ix b → Marks p (bit_and (get_or ix (a + w) 0) (get_or ix (b + w) 0)) (end - from) from
  both_marked g h = marks_and p (get_or ix (a + w) 0) (get_or ix (b + w) 0) (end - from) from (taken a g) (taken b h)

-- the words before k have their marks, by the cuts that were there
pub record Filled (s start l : List ℕ) (k : ℕ) : Type 0 where
  pub long : length l ≡ index_words
  pub words : (i : ℕ) → i < k → Entry s l i (get_or l i 0)
  pub cuts : SameCuts l start

-- one more word: the words before it and the cuts stay
module _ {s start l : List ℕ} {k : ℕ} (r : Filled s start l k) (few : k < 256) (v : ℕ) where
  same_cut : (j : ℕ) → get_or (set l k v) (256 + j) 0 ≡ get_or l (256 + j) 0
  same_cut j = get_or-set_other l k (256 + j) v 0 (omega arith)

  kept : (i m : ℕ) → Entry s l i m → Entry s (set l k v) i m
  unfolding Entry
  kept i m e = rw (same_cut (strip i), same_cut (strip i + 1)) e

  pub filled : Entry s l k v → Filled s start (set l k v) (k + 1)
  filled e = record { long = simp length-set r.long; words = word; cuts = λ j. same_cut j ∙ r.cuts j }
    where
      b : k < length l
      b = omega (arith, r.long)

      word : (i : ℕ) → i < k + 1 → Entry s (set l k v) i (get_or (set l k v) i 0)
      word i h = kept i (get_or (set l k v) i 0) (elim (eq-or-lt_of_le (i_le h)) [
        | inl q ↦ subst⁻¹ (λ (j : ℕ). Entry s l j (get_or (set l k v) j 0)) q (subst⁻¹ (Entry s l k) (get_or-set_same l k v 0 b) e)
        | inr q ↦ subst⁻¹ (Entry s l i) (get_or-set_other l k i v 0 (λ r. apart q r)) (r.words i q)
      ])
        where
          i_le : i < k + 1 → i ≤ k
          i_le g = omega arith

          apart : i < k → i ≡ k → ⊥
          apart g r = omega arith

-- the words of column or row c, where a spot is that p holds of
row : (s ix : List ℕ) (p : ℕ → Bool) (d c b k : ℕ) → d < 2 → c < 16 → b ≡ 17 * d + c → k ≡ 128 * d + 8 * c → Indexed s ix
    → ((i : ℕ) → p i ≡ true → reaches s d (cut ix b) (cut ix (b + 1)) i ≡ true) → Row s p ix k
unfolding Indexed Entry Row
row s ix p d c b k ld lc eb ek t h w lw =
    marks_mono p (reaches s d (cut ix b) (cut ix (b + 1))) h (get_or ix (k + w) 0) (low s (w + 1) - low s w) (low s w)
    (subst (λ (v : ℕ). Marks (reaches s d (cut ix b) (cut ix (b + 1))) (get_or ix (k + w) 0) (low s (v + 1) - low s v) (low s v)) at_w
    (subst (λ (j : ℕ). Marks (reaches s d (cut ix j) (cut ix (j + 1))) (get_or ix (k + w) 0) (low s ((k + w) % 8 + 1) - low s ((k + w) % 8))
    (low s ((k + w) % 8))) at_b
    (subst (λ (j : ℕ). Marks (reaches s j (cut ix (strip (k + w))) (cut ix (strip (k + w) + 1))) (get_or ix (k + w) 0)
    (low s ((k + w) % 8 + 1) - low s ((k + w) % 8)) (low s ((k + w) % 8))) at_d
    (t (k + w) (omega arith)))))
  where
    at_d : (k + w) / 128 ≡ d
    at_d = omega arith

    at_b : strip (k + w) ≡ b
    at_b = omega arith

    at_w : (k + w) % 8 ≡ w
    at_w = omega arith

module _ (s ix : List ℕ) (x z : Float) (t : Indexed s ix) (c : ℕ) (l : c < 16) {lo hi : Float} {w : Bool} where
  pub in_column : lo ≡ cut ix c → hi ≡ cut ix (c + 1) → w ≡ within_of lo hi x → w ≡ true → Row s (covers s x z) ix (8 * c)
  in_column e f v g =
      row s ix (covers s x z) 0 c c (8 * c) (lit< tt) l (omega arith) (omega arith) t
      (λ i h. reach_x s x z i h (cut ix c) (cut ix (c + 1)) (rw (← e, ← f, ← v) g))

  pub in_row : lo ≡ cut ix (17 + c) → hi ≡ cut ix (17 + c + 1) → w ≡ within_of lo hi z → w ≡ true → Row s (covers s x z) ix (128 + 8 * c)
  in_row e f v g =
      row s ix (covers s x z) 1 c (17 + c) (128 + 8 * c) (lit< tt) l (omega arith) (omega arith) t
      (λ i h. reach_z s x z i h (cut ix (17 + c)) (cut ix (17 + c + 1)) (rw (← e, ← f, ← v) g))

-- a scan in parts: what is left of it from `from` on
module _ (p : ℕ → Bool) (count n : ℕ) where
  abbrev pub Scan : ℕ → Type 0
  Scan from = first p (count + n - from) from ≡ first p n count

  pub scan_start : (from : ℕ) → from ≡ count → Scan from
  scan_start from e = let a : count + n - count ≡ n = omega arith in rw (e, a)

  pub scan_end : (from : ℕ) → from ≡ count + n → Scan from → count + n ≡ first p n count
  unfolding first
  scan_end from e h = rw (e, sub_self) at h

  -- the part from a to before b
  module _ (a b : ℕ) {from end i : ℕ} (f : from ≡ a) (t : end ≡ b) (l : a ≤ b) (m : b ≤ count + n) (e : i ≡ first p (end - from) from) (h : Scan a) where
    parts : count + n - from ≡ end - from + (count + n - end)
    parts = omega arith

    left : first p (end - from + (count + n - end)) from ≡ first p n count
    left = rw (← parts, f) h

    pub in_part : count ≤ a → (from ≤ i) × (i < from + (end - from)) → ((count ≤ i) × (i < count + n)) × (i ≡ first p n count)
    in_part k g = (omega arith, e ∙ sym (first_head p (end - from) (count + n - end) from (rw (← e) g.1)) ∙ left)

    pub past_part : i ≡ from + (end - from) → Scan b
    past_part g =
        let q : from + (end - from) ≡ end = omega arith in
        rw (← t) (sym (first_tail p (end - from) (count + n - end) from (rw (← e) (omega arith)) ∙ ap (first p (count + n - end)) q) ∙ left)
