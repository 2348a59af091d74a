-- Lemmas: the boxes of few patches.
use Prim.Native.Nat.{ℕ, zero, suc, ◌+◌, ◌-◌, ◌*◌, ◌≤◌, ◌<◌}
use native.Mathlib.Nat.{add-zero, le_refl, eq-or-lt_of_le}
use native.Mathlib.Omega.{arith}
use mathlib.Core.Path.{◌≡◌, refl, sym, ap, ◌∙◌, subst, subst⁻¹}
use mathlib.Core.Logic.{inl, inr}
use mathlib.Core.List.{List}
use mathlib.Core.Bool.{Bool, true, false, ◌&&◌, not}
use lib.ListN.{length, get_or, set, length-set}
use lib.Seq.{get_or-set_same, get_or-set_other}
use lib.Dec.{T}
use lib.Ieee.{Float, nan, inf, fin, le, lt, eq, binary64, of_bits, to_bits, is_nan, nan_bits, fits}
use lib.Ieee.Bits.{of_bits-to_bits, nan_bits_is}
use Rattle.std.proofs.Common.{◌≢◌, true≢false}
use Rattle.number.specs.Number.{within_of}
use Rattle.sheet.specs.Sheet.{first, covers, real}
use Rattle.sheet.specs.Accepted.{and_l, and_r}
use Rattle.index.specs.Index.{edge, in_box, encloses, block, Around, Numbers, with_box, SameElsewhere, SameCuts, index_words, bits_of}
use Rattle.index.specs.declared.Edges.{Edges}
use Rattle.index.proofs.Reach.{through}

-- p holds of none of the n numbers from i on
first_none : (p : ℕ → Bool) (n i : ℕ) → ((j : ℕ) → i ≤ j → j < i + n → p j ≡ false) → first p n i ≡ i + n
unfolding first
first_none p zero i h = sym (add-zero i)
first_none p (suc n) i h = rw (h i (le_refl i) (omega arith), first_none p n (i + 1) (λ j l m. h j (omega arith) (omega arith))) (omega arith)

-- the spot is in no patch of a block where it is not in the box
pub outside : (s ix : List ℕ) (x z : Float) (b from end : ℕ) {t : Bool} → Around s ix b from end → t ≡ in_box ix b x z → t ≡ false
    → first (covers s x z) (end - from) from ≡ from + (end - from)
unfolding Around
outside s ix x z b from end r e f = first_none (covers s x z) (end - from) from (λ j g h. none j (covers s x z j) (r j g (omega arith) x z))
  where
    none : (j : ℕ) (c : Bool) → (c ≡ true → in_box ix b x z ≡ true) → c ≡ false
    none j true h = absurd (true≢false (sym (h refl) ∙ sym e ∙ f))
    none j false h = refl

-- along one axis: the spot in the patch, and the patch in the box
along : (lo hi e f x : Float) → le lo e ≡ true → le f hi ≡ true → within_of e f x ≡ true → within_of lo hi x ≡ true
unfolding within_of
along lo hi e f x p q w = rw (through lo e x p (and_l (le e x) (le x f) w), through x f hi (and_r (le e x) (le x f) w) q)

-- a patch that lies in the box
passed : (s ix : List ℕ) (b i : ℕ) → encloses s ix b i ≡ true → (x z : Float) → covers s x z i ≡ true → in_box ix b x z ≡ true
unfolding encloses covers in_box
passed s ix b i t x z w =
    let p = le (edge ix (4 * b)) (real s i 0) in
    let q = le (real s i 1) (edge ix (4 * b + 1)) in
    let r = le (edge ix (4 * b + 2)) (real s i 2) in
    let o = le (real s i 3) (edge ix (4 * b + 3)) in
    let u = within_of (real s i 0) (real s i 1) x in
    let v = within_of (real s i 2) (real s i 3) z in
    let l = and_l (p && q && r) o t in
    let m = and_l (p && q) r l in
    rw (along (edge ix (4 * b)) (edge ix (4 * b + 1)) (real s i 0) (real s i 1) x (and_l p q m) (and_r p q m) (and_l u v w))
    (along (edge ix (4 * b + 2)) (edge ix (4 * b + 3)) (real s i 2) (real s i 3) z (and_r (p && q) r l) (and_r (p && q && r) o t) (and_r u v w))

-- a block with no patch, and one patch more
pub around_none : (s ix : List ℕ) (b from end : ℕ) → end ≤ from → Around s ix b from end
unfolding Around
around_none s ix b from end h i l m = absurd (omega arith)

pub around_more : (s ix : List ℕ) (b from k : ℕ) {t : Bool} → Around s ix b from k → t ≡ encloses s ix b k → t ≡ true → Around s ix b from (k + 1)
unfolding Around
around_more s ix b from k r e f i l m = elim (eq-or-lt_of_le i_le) [
  | inl q ↦ passed s ix b i (subst⁻¹ (λ (j : ℕ). encloses s ix b j ≡ true) q (sym e ∙ f))
  | inr q ↦ r i l q
]
  where
    i_le : i ≤ k
    i_le = omega arith

-- ---- the words of a box
module _ (ix : List ℕ) (b : ℕ) (e : Edges) {iy : List ℕ} (w : iy ≡ with_box ix b e) where
  pub elsewhere : SameElsewhere iy ix b
  unfolding with_box
  elsewhere k h =
      let n0 : k ≢ 4 * b = omega arith in
      let n1 : k ≢ 4 * b + 1 = omega arith in
      let n2 : k ≢ 4 * b + 2 = omega arith in
      let n3 : k ≢ 4 * b + 3 = omega arith in
      rw w (simp get_or-set_other)

-- ---- a box without an end
abbrev everywhere : Edges
everywhere = record { x_lo = inf true; x_hi = inf false; z_lo = inf true; z_hi = inf false }

ends : (t : Bool) → of_bits binary64 (bits_of (inf t)) ≡ inf t
unfolding bits_of of_bits to_bits eq
ends true = refl
ends false = refl

lowest : (e x : Float) → le e x ≡ true → le (inf true) x ≡ true
unfolding le lt eq
lowest e (inf true) p = refl
lowest e (inf false) p = refl
lowest e (fin s m k) p = refl
lowest nan nan p = absurd (true≢false (sym p))
lowest (inf s) nan p = absurd (true≢false (sym p))
lowest (fin s m k) nan p = absurd (true≢false (sym p))

highest : (x f : Float) → le x f ≡ true → le x (inf false) ≡ true
unfolding le lt eq
highest (inf true) f p = refl
highest (inf false) f p = refl
highest (fin s m k) f p = refl
highest nan f p = absurd (true≢false (sym p))

-- four words in a row, written one by one
four : (ix : List ℕ) (k p q r t : ℕ) → k + 3 < length ix → let iy = set (set (set (set ix k p) (k + 1) q) (k + 2) r) (k + 3) t in
    (get_or iy k 0 ≡ p) × (get_or iy (k + 1) 0 ≡ q) × (get_or iy (k + 2) 0 ≡ r) × (get_or iy (k + 3) 0 ≡ t)
four ix k p q r t l =
    let l0 : k < length ix = omega arith in
    let l1 : k + 1 < length ix = omega arith in
    let l2 : k + 2 < length ix = omega arith in
    let n01 : k ≢ k + 1 = omega arith in
    let n02 : k ≢ k + 2 = omega arith in
    let n03 : k ≢ k + 3 = omega arith in
    let n12 : k + 1 ≢ k + 2 = omega arith in
    let n13 : k + 1 ≢ k + 3 = omega arith in
    let n23 : k + 2 ≢ k + 3 = omega arith in (
      simp get_or-set_other (get_or-set_same ix k p 0 l0),
      simp get_or-set_other (get_or-set_same (set ix k p) (k + 1) q 0 (simp length-set l1)),
      simp get_or-set_other (get_or-set_same (set (set ix k p) (k + 1) q) (k + 2) r 0 (simp length-set l2)),
      get_or-set_same (set (set (set ix k p) (k + 1) q) (k + 2) r) (k + 3) t 0 (simp length-set l),
    )

module _ (ix iy : List ℕ) (b : ℕ) (w : iy ≡ with_box ix b everywhere) (l : b < 6) (long : length ix ≡ index_words) where
  edges : (edge iy (4 * b) ≡ inf true) × (edge iy (4 * b + 1) ≡ inf false) × (edge iy (4 * b + 2) ≡ inf true) × (edge iy (4 * b + 3) ≡ inf false)
  unfolding with_box
  edges =
      let lo = bits_of (inf true) in
      let hi = bits_of (inf false) in
      let f = four ix (4 * b) lo hi lo hi (omega arith) in
      rw (w, f.0, f.1, f.2, f.3) (ends true, ends false, ends true, ends false)

  has_all : (x z : Float) (e f g h : Float) → within_of e f x ≡ true → within_of g h z ≡ true → in_box iy b x z ≡ true
  unfolding in_box within_of
  has_all x z e f g h u v =
      rw (
        edges.0,
        edges.1,
        edges.2,
        edges.3,
        lowest e x (and_l (le e x) (le x f) u),
        highest x f (and_r (le e x) (le x f) u),
        lowest g z (and_l (le g z) (le z h) v),
        highest z h (and_r (le g z) (le z h) v),
      ) refl

  pub around_all : (s : List ℕ) (from end : ℕ) → Around s iy b from end
  unfolding Around covers
  around_all s from end i j k x z c =
      let u = within_of (real s i 0) (real s i 1) x in
      let v = within_of (real s i 2) (real s i 3) z in
      has_all x z (real s i 0) (real s i 1) (real s i 2) (real s i 3) (and_l u v c) (and_r u v c)

-- ---- the words of a box are no NaN patterns
number : (x : Float) → eq x x ≡ true → T (not (is_nan x))
unfolding is_nan eq
number nan e = absurd (true≢false (sym e))
number (inf s) e = tt
number (fin s m k) e = tt

pub bits_number : (x : Float) → T (fits binary64 x) → eq x x ≡ true → T (not (nan_bits binary64 (to_bits binary64 x)))
bits_number x f e =
    subst (λ (t : Bool). T (not t)) (sym (nan_bits_is binary64 (to_bits binary64 x) ∙ ap is_nan (of_bits-to_bits binary64 x f))) (number x e)

numbers_same : (ix iy : List ℕ) (a b : ℕ) → SameElsewhere iy ix b → a ≢ b → Numbers ix a → Numbers iy a
numbers_same ix iy a b r n m = record {
  n0 = rw (r (4 * a) (omega arith)) m.n0;
  n1 = rw (r (4 * a + 1) (omega arith)) m.n1;
  n2 = rw (r (4 * a + 2) (omega arith)) m.n2;
  n3 = rw (r (4 * a + 3) (omega arith)) m.n3;
}

-- ---- all boxes
in_box_same : (ix iy : List ℕ) (a b : ℕ) (x z : Float) → SameElsewhere iy ix b → a ≢ b → in_box iy a x z ≡ in_box ix a x z
unfolding in_box
in_box_same ix iy a b x z r n =
    rw (r (4 * a) (omega arith), r (4 * a + 1) (omega arith), r (4 * a + 2) (omega arith), r (4 * a + 3) (omega arith))

abbrev Box : List ℕ → List ℕ → ℕ → Type 0
Box s ix b = Around s ix b (block s b) (block s (b + 1)) × Numbers ix b

-- the boxes before b are made, and the cuts stay
pub record Made (s start ix : List ℕ) (b : ℕ) : Type 0 where
  pub boxes : (a : ℕ) → a < b → Box s ix a
  pub cuts : SameCuts ix start

pub made : (s start ix iy : List ℕ) (b : ℕ) → b < 6 → Made s start ix b → SameElsewhere iy ix b → Box s iy b → Made s start iy (b + 1)
unfolding Around
made s start ix iy b l m r w = record {
  boxes = λ a h. elim (eq-or-lt_of_le (i_le a h)) [
    | inl q ↦ subst⁻¹ (Box s iy) q w
    | inr q ↦ (
      λ i j k x z c. in_box_same ix iy a b x z r (omega arith) ∙ (m.boxes a q).0 i j k x z c,
      numbers_same ix iy a b r (omega arith) (m.boxes a q).1,
    )
  ];
  cuts = λ j. r (256 + j) (omega arith) ∙ m.cuts j;
}
  where
    i_le : (a : ℕ) → a < b + 1 → a ≤ b
    i_le a h = omega arith
