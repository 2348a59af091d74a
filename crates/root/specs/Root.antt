-- Definitions. 01, Arithmetic: the square root of a double and hypot. `specs/Nearest.antt` proves that the root is the double nearest the true root.
use Rattle.std.specs.Prelude.{ℕ, zero, suc, ◌+◌, ◌-◌, ◌*◌, ◌/◌, ◌^◌, true, false, cond, leb, Float}
use Rattle.std.specs.Float.{nan, inf, fin}
use Rattle.std.specs.Float.Ieee.{up, down, size, odd}
use Rattle.number.specs.Ops.{◌⊕◌, ◌⊗◌}

-- the greatest r with r * r ≤ n, for n < 4 ^ k, binary digit by binary digit
unfoldable pub floor_root : ℕ → ℕ → ℕ
floor_root zero n = 0
floor_root (suc k) n = let r = 2 * floor_root k (n / 4) in cond (leb ((r + 1) * (r + 1)) n) (r + 1) r

-- the whole number nearest the root of n, for n < 4 ^ 53. The root is above r + 1/2 exactly where n > r * r + r, and is never r + 1/2.
unfoldable pub near_root : ℕ → ℕ
unfolding floor_root
near_root n = let r = floor_root 53 n in cond (leb n (r * r + r)) r (r + 1)

-- the magnitude of a finite double in units of 2 ^ -1074, the least double above 0; every finite double is a whole number of them
abbrev pub in_units : Float → ℕ
in_units nan = 0
in_units (inf s) = 0
in_units (fin s m e) = m * up e * 2 ^ 1074 / down e

-- how many low binary digits of the root of n are dropped, so that 53 remain
abbrev pub dropped : ℕ → ℕ
dropped n = (size n - 105) / 2

-- the root of n units of 2 ^ -2148, which is the root of n in units of 2 ^ -1074, rounded to 53 binary digits
unfoldable pub root_units : ℕ → Float
unfolding near_root size odd
root_units n = let k = dropped n in odd 53 false (near_root (n / (2 ^ k * 2 ^ k))) k 1074

-- root: of ±0 that zero; below 0 and of NaN, NaN; infinity stays
unfoldable pub root_of : Float → Float
unfolding root_units
root_of nan = nan
root_of (inf false) = inf false
root_of (inf true) = nan
root_of (fin s zero e) = fin s zero e
root_of (fin true (suc m) e) = nan
root_of (fin false (suc m) e) = root_units (in_units (fin false (suc m) e) * 2 ^ 1074)

-- hypot(a, b) = root(a×a + b×b)
unfoldable pub hypot_of : Float → Float → Float
unfolding root_of
hypot_of a b = root_of (a ⊗ a ⊕ b ⊗ b)
