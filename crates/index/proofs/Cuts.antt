-- Lemmas: the cuts of an index.
use Prim.Native.Nat.{ℕ, zero, suc, ◌+◌, ◌-◌, ◌*◌, ◌^◌, ◌≤◌, ◌<◌}
use native.Mathlib.Omega.{arith}
use mathlib.Core.Path.{◌≡◌, refl, ap}
use mathlib.Core.Bool.{true, false, cond}
use native.Mathlib.Nat.{pow-succ'}
use mathlib.Core.List.{List}
use lib.ListN.{set}
use lib.Ieee.{Float, le, neg, binary64, of_bits}
use borrow.Author.Tests.{le-leb, lt-leb}
use Rattle.number.specs.Ops.{◌⊕◌, ◌⊖◌, ◌⊘◌, dec}
use Rattle.number.specs.Number.{min_of, max_of}
use Rattle.sheet.specs.Sheet.{surfaces, patches, real}
use Rattle.index.specs.Index.{cut, few, bits_of, least_from, greatest_from, steps_from, spread_of, cuts_in, SameCuts, strip_from, strip_of, is_guessed}

-- one edge more of those that are left
pub least_next : (s : List ℕ) (d left rest i : ℕ) (x : Float) {y : Float} → left ≡ suc rest → y ≡ min_of x (real s i (2 * d))
    → least_from s d rest (i + 1) y ≡ least_from s d left i x
unfolding least_from
least_next s d left rest i x l e = rw (l, e)

pub greatest_next : (s : List ℕ) (d left rest i : ℕ) (x : Float) {y : Float} → left ≡ suc rest → y ≡ max_of x (real s i (2 * d + 1))
    → greatest_from s d rest (i + 1) y ≡ greatest_from s d left i x
unfolding greatest_from
greatest_next s d left rest i x l e = rw (l, e)

-- none is left
pub least_last : (s : List ℕ) (d left i : ℕ) (x : Float) → left ≡ 0 → least_from s d left i x ≡ x
unfolding least_from
least_last s d left i x e = rw e

pub greatest_last : (s : List ℕ) (d left i : ℕ) (x : Float) → left ≡ 0 → greatest_from s d left i x ≡ x
unfolding greatest_from
greatest_last s d left i x e = rw e

-- one cut more of those that are left
pub steps_next : (step : Float) (left rest k l : ℕ) (at : Float) (ix : List ℕ) {w : ℕ} → left ≡ suc rest → l ≡ k + 1 → w ≡ bits_of (at ⊕ step)
    → steps_from step rest l (at ⊕ step) (set ix k w) ≡ steps_from step left k at ix
unfolding steps_from
steps_next step left rest k l at ix e f g = rw (e, f, g)

pub steps_last : (step : Float) (left k : ℕ) (at : Float) (ix : List ℕ) → left ≡ 0 → steps_from step left k at ix ≡ ix
unfolding steps_from
steps_last step left k at ix e = rw e

-- all are written
pub spread_is : (s : List ℕ) (d count n : ℕ) (ix index : List ℕ) {lo hi : Float} {w v : ℕ} → count ≡ surfaces s → n ≡ patches s
    → lo ≡ least_from s d n count (dec 1000000 1) → hi ≡ greatest_from s d n count (neg (dec 1000000 1))
    → w ≡ bits_of (neg (dec 1000000 1)) → v ≡ bits_of (dec 1000000 1)
    → index ≡ steps_from ((hi ⊖ lo) ⊘ dec 16 1) 15 (256 + 17 * d + 1) lo (set ix (256 + 17 * d) w) → set index (256 + 17 * d + 16) v ≡ spread_of s d ix
unfolding spread_of
spread_is s d count n ix index ec en el eh ew ev e = rw (e, el, eh, ew, ev, ec, en)

pub cuts_few : (s ix : List ℕ) → patches s ≤ few → SameCuts ix (cuts_in s ix)
unfolding cuts_in
cuts_few s ix h j = rw (le-leb (patches s) few h)

pub cuts_many : (s ix iy iz iw : List ℕ) → few < patches s → iy ≡ spread_of s 0 ix → iz ≡ spread_of s 1 iy → SameCuts iw iz → SameCuts iw (cuts_in s ix)
unfolding cuts_in
cuts_many s ix iy iz iw h e f r j = rw (lt-leb (patches s) few h, ← e, ← f) (r j)

-- ---- the strip that is guessed, found by halving
pub half : (k : ℕ) → 0 < k → 2 ^ k ≡ 2 * 2 ^ (k - 1)
half zero l = absurd (omega arith)
half (suc k) l = let e : suc k - 1 ≡ k = omega arith in rw e (pow-succ' 2 k)

module _ (ix : List ℕ) (d : ℕ) (x : Float) (k c : ℕ) {y : Float} {s : ℕ} (l : 0 < k) (f : s ≡ 2 ^ (k - 1)) (e : y ≡ cut ix (17 * d + c + s)) where
  next : strip_from ix d x (k - 1) (cond (le y x) (c + s) c) ≡ strip_from ix d x k c
  unfolding strip_from
  next = rw (e, f) (go k l)
    where
      go : (k : ℕ) → 0 < k → strip_from ix d x (k - 1) (cond (le (cut ix (17 * d + c + 2 ^ (k - 1))) x) (c + 2 ^ (k - 1)) c) ≡ strip_from ix d x k c
      go zero l = absurd (omega arith)
      go (suc k) l = let e : suc k - 1 ≡ k = omega arith in rw e

  pub moved : le y x ≡ true → strip_from ix d x (k - 1) (c + s) ≡ strip_from ix d x k c
  moved t = rw t at next

  pub stayed : le y x ≡ false → strip_from ix d x (k - 1) c ≡ strip_from ix d x k c
  stayed t = rw t at next

pub strip_last : (ix : List ℕ) (d : ℕ) (x : Float) (k c : ℕ) → k ≡ 0 → c ≡ strip_from ix d x k c
unfolding strip_from
strip_last ix d x k c e = rw e

module _ (ix iy : List ℕ) (r : SameCuts ix iy) where
  cut_same : (j : ℕ) → cut ix j ≡ cut iy j
  cut_same j = ap (of_bits binary64) (r j)

  strip_same : (d : ℕ) (x : Float) (k c : ℕ) → strip_from ix d x k c ≡ strip_from iy d x k c
  unfolding strip_from
  strip_same d x zero c = refl
  strip_same d x (suc k) c = rw (cut_same (17 * d + c + 2 ^ k)) (strip_same d x k _)

  -- a guess depends on the cuts alone
  pub guess_same : (x z : Float) → is_guessed ix x z ≡ is_guessed iy x z
  unfolding is_guessed
  guess_same x z =
      let c = strip_of iy 0 x in
      let e = strip_of iy 1 z in
      rw (strip_same 0 x 4 0, strip_same 1 z 4 0, cut_same c, cut_same (c + 1), cut_same (17 + e), cut_same (17 + e + 1))
