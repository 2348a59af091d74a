-- Definitions. Min, max, clamp, abs, signum and the range tests on doubles, as 01, "Arithmetic", has them.
use Rattle.std.specs.Prelude.{Bool, true, false, cond, ◌&&◌, pos, is_nan, Float}
use Rattle.std.specs.Float.{nan, inf, fin}
use Rattle.std.specs.Float.Ieee.{neg, lt, le}

-- Rust's f64::min: a NaN gives the other. Of two equal values the left one.
unfoldable pub min_of : Float → Float → Float
min_of a b = cond (is_nan a) b (cond (lt b a) b a)

-- Rust's f64::max: a NaN gives the other. Of two equal values the left one.
unfoldable pub max_of : Float → Float → Float
max_of a b = cond (is_nan a) b (cond (lt a b) b a)

-- Rust's f64::clamp, with no demand on lo and hi: below lo it is lo, then above hi it is hi.
unfoldable pub clamp_of : Float → Float → Float → Float
clamp_of x lo hi = let low = cond (lt x lo) lo x in cond (lt hi low) hi low

-- Rust's f64::abs
unfoldable pub abs_of : Float → Float
abs_of nan = nan
abs_of (inf s) = inf false
abs_of (fin s m e) = fin false m e

-- Rust's f64::signum: 1 with the sign of x, that of a zero included
unfoldable pub signum_of : Float → Float
signum_of nan = nan
signum_of (inf s) = fin s 1 (pos 0)
signum_of (fin s m e) = fin s 1 (pos 0)

-- neither a NaN nor an infinity
abbrev pub finite_of : Float → Bool
finite_of nan = false
finite_of (inf s) = false
finite_of (fin s m e) = true

-- lo ≤ x ≤ hi by value: -0 counts as 0, and a NaN is never within
unfoldable pub within_of : Float → Float → Float → Bool
within_of lo hi x = le lo x && le x hi

-- a magnitude of at most r
abbrev pub about_of : Float → Float → Bool
about_of r x = within_of (neg r) r x
