-- Definitions. 01, Arithmetic: cosine, sine and arctangent.
use Rattle.std.specs.Prelude.{ℕ, zero, suc, ◌+◌, ◌-◌, ◌*◌, cond, pos, Float}
use Rattle.std.specs.Float.{binary64}
use Rattle.std.specs.Float.Ieee.{le, of_int}
use Rattle.number.specs.Ops.{◌⊕◌, ◌⊖◌, ◌⊗◌, ◌⊘◌, dec}
use Rattle.root.specs.Root.{root_of}

abbrev pub one : Float
one = dec 1 1

-- a whole number as a double
abbrev pub whole : ℕ → Float
whole n = of_int binary64 (pos n)

-- from c, for k down to 1: c = 1 − (s/d(k))×c
unfoldable pub series : (ℕ → ℕ) → ℕ → Float → Float → Float
series d zero s c = c
series d (suc k) s c = series d k s (one ⊖ s ⊘ whole (d (suc k)) ⊗ c)

-- (2k−1)(2k)
abbrev pub cosine_divisor : ℕ → ℕ
cosine_divisor k = (2 * k - 1) * (2 * k)

-- (2k)(2k+1)
abbrev pub sine_divisor : ℕ → ℕ
sine_divisor k = 2 * k * (2 * k + 1)

-- the first, or the second
abbrev pub divisor : ℕ → ℕ → ℕ
divisor zero = cosine_divisor
divisor (suc o) = sine_divisor

-- s = β×β, c = 1; k = 10 down to 1
unfoldable pub cosine_of : Float → Float
unfolding series
cosine_of b = series cosine_divisor 10 (b ⊗ b) one

-- the same with (2k)(2k+1), then β×c
unfoldable pub sine_of : Float → Float
unfolding series
sine_of b = b ⊗ series sine_divisor 10 (b ⊗ b) one

-- q/(1 + root(1 + q×q)), the tangent of half the angle
unfoldable pub halved : Float → Float
halved q = q ⊘ (one ⊕ root_of (one ⊕ q ⊗ q))

-- from s, for m from the one below the given number down to 0: s = 1/(2m+1) − z×s
unfoldable pub odd_series : ℕ → Float → Float → Float
odd_series zero z s = s
odd_series (suc m) z s = odd_series m z (one ⊘ whole (2 * m + 1) ⊖ z ⊗ s)

-- A(q): twice q = q/(1 + root(1 + q×q)); z = q×q; s = 1/25; m = 11 down to 0; 4×(q×s)
unfoldable pub angle_of : Float → Float
unfolding halved odd_series
angle_of q = let t = halved (halved q) in dec 4 1 ⊗ (t ⊗ odd_series 12 (t ⊗ t) (one ⊘ dec 25 1))

-- arctangent(y, x): if y ≤ x then A(y/x), else 1.5707963267948966 − A(x/y)
unfoldable pub arctangent_of : Float → Float → Float
unfolding angle_of
arctangent_of y x = cond (le y x) (angle_of (y ⊘ x)) (dec 15707963267948966 10000000000000000 ⊖ angle_of (x ⊘ y))
