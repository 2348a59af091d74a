-- The cases of exp. Assumes nothing.
use mathlib.Core.Path.{◌≡◌}
use mathlib.Core.Bool.{true, false}
use lib.IntN.{pos}
use lib.Ieee.{Float, inf, fin, lt, ne, neg}
use Rattle.exponential.specs.Exp.{limit, within, exp_of}

pub at_nan : (x : Float) → ne x x ≡ true → x ≡ exp_of x
unfolding exp_of
at_nan x a = rw a

pub above : (x : Float) → ne x x ≡ false → lt limit x ≡ true → inf false ≡ exp_of x
unfolding exp_of
above x a b = rw (a, b)

pub below : (x : Float) → ne x x ≡ false → lt limit x ≡ false → lt x (neg limit) ≡ true → fin false 0 (pos 0) ≡ exp_of x
unfolding exp_of
below x a b c = rw (a, b, c)

pub between : (x : Float) → ne x x ≡ false → lt limit x ≡ false → lt x (neg limit) ≡ false → within x ≡ exp_of x
unfolding exp_of
between x a b c = rw (a, b, c)
