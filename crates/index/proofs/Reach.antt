-- A patch with the spot in it reaches into the column and the row that the spot is in.
use Prim.Native.Nat.{ℕ}
use mathlib.Core.Path.{◌≡◌, sym, subst}
use mathlib.Core.List.{List}
use mathlib.Core.Bool.{true, ◌&&◌}
use lib.Dec.{T}
use lib.Ieee.{Float, le}
use lib.Ieee.Bits.{is_true}
use Rattle.number.specs.Number.{within_of}
use Rattle.number.specs.Order.{le_through}
use Rattle.sheet.specs.Sheet.{covers, real}
use Rattle.sheet.specs.Accepted.{and_l, and_r}
use Rattle.index.specs.Index.{reaches}

pub through : (x y z : Float) → le x y ≡ true → le y z ≡ true → le x z ≡ true
through x y z p q = is_true (le x z) (le_through x y z (subst T (sym p) tt) (subst T (sym q) tt))

-- along one axis: lo ≤ x ≤ hi, and the patch's edges e ≤ x ≤ f
along : (lo hi e f x : Float) → within_of lo hi x ≡ true → within_of e f x ≡ true → (le lo f && le e hi) ≡ true
unfolding within_of
along lo hi e f x v w =
    rw (through lo x f (and_l (le lo x) (le x hi) v) (and_r (le e x) (le x f) w), through e x hi (and_l (le e x) (le x f) w) (and_r (le lo x) (le x hi) v))

module _ (s : List ℕ) (x z : Float) (i : ℕ) (w : covers s x z i ≡ true) (lo hi : Float) where
  pub reach_x : within_of lo hi x ≡ true → reaches s 0 lo hi i ≡ true
  unfolding covers reaches
  reach_x v = along lo hi (real s i 0) (real s i 1) x v (and_l (within_of (real s i 0) (real s i 1) x) (within_of (real s i 2) (real s i 3) z) w)

  pub reach_z : within_of lo hi z ≡ true → reaches s 1 lo hi i ≡ true
  unfolding covers reaches
  reach_z v = along lo hi (real s i 2) (real s i 3) z v (and_r (within_of (real s i 0) (real s i 1) x) (within_of (real s i 2) (real s i 3) z) w)
