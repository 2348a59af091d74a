-- Contracts of inner functions. The index of the patches: what inner functions promise each other, and what a look asks (`Ready`). The contracts of
-- `settle` and of the exported functions do not mention the index.
--
-- There are 16 columns along x and 16 rows along z, each between two of 17 cuts. The index is `index_words` words:
--   128 d + 8 c + w   marks of column c (d = 0) or row c (d = 1): bit k is that of patch 64 w + k
--   256 + 17 d + c    cut c along that axis, as the bits of a double
-- Where there are few patches the index has no marks and no cuts, and a box for each block of eight patches, the smallest rectangle around them:
--   4 b, 4 b + 1      where the box of block b begins and ends along x, as the bits of a double
--   4 b + 2, 4 b + 3  the same along z
use Rattle.std.specs.Prelude.{ℕ, zero, suc, ◌+◌, ◌-◌, ◌*◌, ◌/◌, ◌%◌, ◌^◌, ◌≤◌, ◌<◌, min, ◌≡◌, ◌≢◌}
use Rattle.std.specs.Prelude.{List, Bool, true, not, T, ◌&&◌, cond, leb, length, get_or, set, Float, Option, None, Some}
use Rattle.std.specs.Float.Ieee.{le, eq, neg, of_bits, to_bits, nan_bits}
use Rattle.std.specs.Float.{binary64}
use Rattle.number.specs.Ops.{◌⊕◌, ◌⊖◌, ◌⊘◌, dec}
use Rattle.number.specs.Number.{min_of, max_of, within_of}
use Rattle.sheet.specs.Sheet.{surfaces, patches, real, answer_of, first, covers}
use Rattle.index.specs.declared.Edges.{Edges}
use Rattle.index.specs.declared.Axis.{Axis}
use Rattle.index.specs.declared.Axis.TheVariants.{X, Z}

-- the number of an axis: 0 for x, 1 for z
abbrev pub axis_number : Axis → ℕ
axis_number X = 0
axis_number Z = 1

-- 16 columns and 16 rows of 8 words, and 34 cuts
abbrev pub index_words : ℕ
index_words = 290

-- as many patches, and fewer, have boxes and no marks
abbrev pub few : ℕ
few = 48

-- of the n numbers from i on, each of which p holds has its bit set in m: bit k is that of i + k
unfoldable pub Marks : (ℕ → Bool) → ℕ → ℕ → ℕ → Type 0
Marks p m zero i = Unit
Marks p m (suc n) i = (p i ≡ true → m % 2 ≡ 1) × Marks p (m / 2) n (i + 1)

-- what a search of the n numbers from i on finds: the first of which p holds, or none
abbrev pub Finds : (ℕ → Bool) → ℕ → ℕ → Option ℕ → Type 0
Finds p n i None = first p n i ≡ i + n
Finds p n i (Some k) = ((i ≤ k) × (k < i + n)) × (k ≡ first p n i)

-- the first listed patch with the spot in it, or none
abbrev pub FindsPatch : List ℕ → Float → Float → Option ℕ → Type 0
FindsPatch s x z r = Finds (covers s x z) (patches s) (surfaces s) r

-- the patch that is record i reaches into lo to hi, along x (d = 0) or z (d = 1)
unfoldable pub reaches : List ℕ → ℕ → Float → Float → ℕ → Bool
reaches s d lo hi i = le lo (real s i (2 * d + 1)) && le (real s i (2 * d)) hi

-- one of the 34 cuts
abbrev pub cut : List ℕ → ℕ → Float
cut ix j = of_bits binary64 (get_or ix (256 + j) 0)

-- ---- the cuts

-- the bits of a double; 0 for a NaN
unfoldable pub bits_of : Float → ℕ
bits_of x = cond (eq x x) (to_bits binary64 x) 0

-- the least of x and of the lower edges along d of the n patches from record i on; the greatest of x and of their upper edges
unfoldable pub least_from : List ℕ → ℕ → ℕ → ℕ → Float → Float
least_from s d zero i x = x
least_from s d (suc n) i x = least_from s d n (i + 1) (min_of x (real s i (2 * d)))

unfoldable pub greatest_from : List ℕ → ℕ → ℕ → ℕ → Float → Float
greatest_from s d zero i x = x
greatest_from s d (suc n) i x = greatest_from s d n (i + 1) (max_of x (real s i (2 * d + 1)))

-- the n cuts from `at` + step on, a step apart, written from word k on
unfoldable pub steps_from : Float → ℕ → ℕ → Float → List ℕ → List ℕ
steps_from step zero k at ix = ix
steps_from step (suc n) k at ix = steps_from step n (k + 1) (at ⊕ step) (set ix k (bits_of (at ⊕ step)))

-- the index with its cuts along d written: 17, evenly over the edges of the patches, the outer two beyond every spot
unfoldable pub spread_of : List ℕ → ℕ → List ℕ → List ℕ
spread_of s d ix =
    let lo = least_from s d (patches s) (surfaces s) (dec 1000000 1) in
    let hi = greatest_from s d (patches s) (surfaces s) (neg (dec 1000000 1)) in
    let b = 256 + 17 * d in
    set (steps_from ((hi ⊖ lo) ⊘ dec 16 1) 15 (b + 1) lo (set ix b (bits_of (neg (dec 1000000 1))))) (b + 16) (bits_of (dec 1000000 1))

-- the cuts of a sheet's index, made in ix: none where there are few patches
unfoldable pub cuts_in : List ℕ → List ℕ → List ℕ
cuts_in s ix = cond (leb (patches s) few) ix (spread_of s 1 (spread_of s 0 ix))

-- from word 256 on, where the cuts are
abbrev pub SameCuts : List ℕ → List ℕ → Type 0
SameCuts ix iy = (j : ℕ) → get_or ix (256 + j) 0 ≡ get_or iy (256 + j) 0

-- ---- the strips

-- from strip c on, the last whose cut is not above x, by k halvings, where the cuts are in order
unfoldable pub strip_from : List ℕ → ℕ → Float → ℕ → ℕ → ℕ
strip_from ix d x zero c = c
strip_from ix d x (suc k) c = strip_from ix d x k (cond (le (cut ix (17 * d + c + 2 ^ k)) x) (c + 2 ^ k) c)

-- the column (d = 0) or row (d = 1) that is guessed to have x between its cuts
abbrev pub strip_of : List ℕ → ℕ → Float → ℕ
strip_of ix d x = strip_from ix d x 4 0

-- the spot is between the cuts of the column and of the row that are guessed
unfoldable pub is_guessed : List ℕ → Float → Float → Bool
is_guessed ix x z =
    let c = strip_of ix 0 x in
    let e = strip_of ix 1 z in
    within_of (cut ix c) (cut ix (c + 1)) x && within_of (cut ix (17 + e)) (cut ix (17 + e + 1)) z

-- the cut at which the column or row of word k begins
abbrev pub strip : ℕ → ℕ
strip k = 17 * (k / 128) + k / 8 % 16

-- the records of word w: from `low`, to before `low` of the next
abbrev pub low : List ℕ → ℕ → ℕ
low s w = surfaces s + min (64 * w) (patches s)

-- word k of marks: the records of word k % 8 that reach into its column or row
unfoldable pub Entry : List ℕ → List ℕ → ℕ → ℕ → Type 0
Entry s ix k m = Marks (reaches s (k / 128) (cut ix (strip k)) (cut ix (strip k + 1))) m (low s (k % 8 + 1) - low s (k % 8)) (low s (k % 8))

unfoldable pub Indexed : List ℕ → List ℕ → Type 0
Indexed s ix = (k : ℕ) → k < 256 → Entry s ix k (get_or ix k 0)

-- the eight words from k on mark the records of which p holds
unfoldable pub Row : List ℕ → (ℕ → Bool) → List ℕ → ℕ → Type 0
Row s p ix k = (w : ℕ) → w < 8 → Marks p (get_or ix (k + w) 0) (low s (w + 1) - low s w) (low s w)

-- ---- the boxes

-- an edge of a box
abbrev pub edge : List ℕ → ℕ → Float
edge ix k = of_bits binary64 (get_or ix k 0)

-- the spot is in the box of block b
unfoldable pub in_box : List ℕ → ℕ → Float → Float → Bool
in_box ix b x z = within_of (edge ix (4 * b)) (edge ix (4 * b + 1)) x && within_of (edge ix (4 * b + 2)) (edge ix (4 * b + 3)) z

-- the patch that is record i lies in the box of block b
unfoldable pub encloses : List ℕ → List ℕ → ℕ → ℕ → Bool
encloses s ix b i =
    le (edge ix (4 * b)) (real s i 0) && le (real s i 1) (edge ix (4 * b + 1))
    && le (edge ix (4 * b + 2)) (real s i 2) && le (real s i 3) (edge ix (4 * b + 3))

-- the records of block b: from `block`, to before `block` of the next
abbrev pub block : List ℕ → ℕ → ℕ
block s b = surfaces s + min (8 * b) (patches s)

-- each spot in a patch from record `from` to before `end` is in the box of block b
unfoldable pub Around : List ℕ → List ℕ → ℕ → ℕ → ℕ → Type 0
Around s ix b from end = (i : ℕ) → from ≤ i → i < end → (x z : Float) → covers s x z i ≡ true → in_box ix b x z ≡ true

-- the edges of the box of block b are no NaN patterns
pub record Numbers (ix : List ℕ) (b : ℕ) : Type 0 where
  pub n0 : T (not (nan_bits binary64 (get_or ix (4 * b) 0)))
  pub n1 : T (not (nan_bits binary64 (get_or ix (4 * b + 1) 0)))
  pub n2 : T (not (nan_bits binary64 (get_or ix (4 * b + 2) 0)))
  pub n3 : T (not (nan_bits binary64 (get_or ix (4 * b + 3) 0)))

unfoldable pub Boxed : List ℕ → List ℕ → Type 0
Boxed s ix = (b : ℕ) → b < 6 → Around s ix b (block s b) (block s (b + 1)) × Numbers ix b

-- the index with the box of block b written
unfoldable pub with_box : List ℕ → ℕ → Edges → List ℕ
with_box ix b e =
    set (set (set (set ix (4 * b) (bits_of e.x_lo)) (4 * b + 1) (bits_of e.x_hi)) (4 * b + 2) (bits_of e.z_lo)) (4 * b + 3) (bits_of e.z_hi)

-- the same words, but for the box of block b
abbrev pub SameElsewhere : List ℕ → List ℕ → ℕ → Type 0
SameElsewhere ix iy b = (k : ℕ) → k / 4 ≢ b → get_or ix k 0 ≡ get_or iy k 0

-- What a look asks: an accepted sheet, and its index: boxes where there are few patches, and otherwise marks.
pub record Ready (s : List ℕ) (ix : List ℕ) : Type 0 where
  pub ok : answer_of s ≡ 0
  pub long : length ix ≡ index_words
  pub boxes : patches s ≤ few → Boxed s ix
  pub marks : few < patches s → Indexed s ix
