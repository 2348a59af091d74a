-- Lemmas. Where the root is finite, and where it is a NaN; it is never below 0. Assumes nothing.
use Rattle.std.specs.Prelude.{◌≡◌, refl, ◌⊎◌, ℕ, zero, suc, ◌*◌, ◌/◌, ◌^◌, true, false, T, ℤ, pos, Float}
use Rattle.std.proofs.Common.{sym, subst, inl, inr, mul-pos, zero-lt-suc, arith}
use Rattle.std.proofs.Math.Dec.{not_T}
use Rattle.std.specs.Float.{nan, inf, fin}
use Rattle.std.specs.Float.Ieee.{odd, round, lt, le, is_nan}
use Rattle.std.specs.Float.Ieee.Fits.{up_pos}
use Rattle.number.specs.Number.{finite_of}
use Rattle.number.specs.Order.{le→, →le, nle-lt, eq-le, zeros_eq}
use Rattle.number.specs.Rounding.{zero_is}
use Rattle.number.specs.Against0.{NotBelow, not_below}
use Rattle.root.specs.Root.{in_units, dropped, near_root, root_units, root_of}

abbrev pub +0 : Float
+0 = fin false 0 (pos 0)

-- finite, with the sign +
pub record Plus (x : Float) : Type 0 where
  pub m : ℕ
  pub e : ℤ
  pub is : x ≡ fin false m e

odd_plus : (d q k l : ℕ) → Plus (odd d false q k l)
unfolding odd
odd_plus d zero k l = record { m = _; e = _; is = refl }
odd_plus d (suc q) k l = record { m = _; e = _; is = refl }

units_plus : (n : ℕ) → Plus (root_units n)
unfolding root_units
units_plus n = let k = dropped n in odd_plus 53 (near_root (n / (2 ^ k * 2 ^ k))) k 1074

pub root-plus : (m : ℕ) (e : ℤ) → Plus (root_of (fin false m e))
unfolding root_of
root-plus zero e = record { m = zero; e = e; is = refl }
root-plus (suc m) e = units_plus (in_units (fin false (suc m) e) * 2 ^ 1074)

plus_above : (m : ℕ) (e : ℤ) → T (le +0 (fin false m e))
plus_above m e = →le false 0 (pos 0) false m e (omega arith)

minus_below : (m : ℕ) (e : ℤ) → T (le +0 (fin true (suc m) e)) → ⊥
minus_below m e h = let l = le→ false 0 (pos 0) true (suc m) e h in let p = mul-pos (zero-lt-suc m) (up_pos e) in omega arith

-- the root of a finite double that is not below 0 is finite and not below 0
pub root_finite : (x : Float) → T (finite_of x) → T (le +0 x) → T (finite_of (root_of x)) × T (le +0 (root_of x))
unfolding root_of
root_finite nan f h = absurd f
root_finite (inf s) f h = absurd f
root_finite (fin false m e) f h = let p = root-plus m e in subst (λ (y : Float). T (finite_of y) × T (le +0 y)) (sym p.is) (tt, plus_above p.m p.e)
root_finite (fin true zero e) f h = (tt, h)
root_finite (fin true (suc m) e) f h = absurd (minus_below m e h)

-- the root is a NaN only of a NaN or of a double below 0
pub root_nan : (x : Float) → T (is_nan (root_of x)) → T (is_nan x) ⊎ T (lt x +0)
unfolding root_of is_nan
root_nan nan n = inl tt
root_nan (inf false) n = absurd n
root_nan (inf true) n = inr (unfold lt in tt)
root_nan (fin false m e) n = let p = root-plus m e in absurd (subst (λ (y : Float). T (is_nan y)) p.is n)
root_nan (fin true zero e) n = absurd n
root_nan (fin true (suc m) e) n = inr (nle-lt +0 (fin true (suc m) e) tt tt (not_T (le +0 (fin true (suc m) e)) (minus_below m e)))

from_0 : (x : Float) → T (le +0 x) → NotBelow x
from_0 x h = not_below x (subst (λ (z : Float). T (le z x)) (sym zero_is) h)

-- the root is never below 0: it is a NaN, or from 0 on
pub root_not_below : (x : Float) → NotBelow (root_of x)
unfolding root_of
root_not_below nan = unfold lt in tt
root_not_below (inf true) = unfold lt in tt
root_not_below (inf false) = unfold round in unfold lt in tt
root_not_below (fin true zero e) = from_0 (fin true zero e) (eq-le +0 (fin true zero e) (zeros_eq false (pos 0) true e))
root_not_below (fin true (suc m) e) = unfold lt in tt
root_not_below (fin false m e) = let p = root-plus m e in rw p.is (from_0 (fin false p.m p.e) (plus_above p.m p.e))
