-- Lemmas. A double differs from itself exactly where it is a NaN. Assumes nothing.
use mathlib.Core.Path.{◌≡◌, refl}
use mathlib.Core.Bool.{false, true}
use Prim.Native.Nat.{◌*◌}
use lib.Dec.{eqb, eqb_refl}
use lib.Ieee.{Float, nan, inf, fin, up, down, is_nan, ne}
use lib.Ieee.Bits.{is_true}

pub ne_self : (x : Float) → ne x x ≡ is_nan x
unfolding ne is_nan
ne_self nan = refl
ne_self (inf true) = refl
ne_self (inf false) = refl
ne_self (fin true m e) = rw (is_true (eqb (m * up e * down e) (m * up e * down e)) (eqb_refl (m * up e * down e)))
ne_self (fin false m e) = rw (is_true (eqb (m * up e * down e) (m * up e * down e)) (eqb_refl (m * up e * down e)))
