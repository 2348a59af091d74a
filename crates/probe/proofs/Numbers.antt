-- Lemmas. The library's number of a truth value is the one that the doors write; and the spin decay 0.04, a literal of the code. Assumes nothing.
use Rattle.std.specs.Prelude.{◌≡◌, ℕ, Bool, true, false, pos}
use Rattle.std.proofs.Common.{refl, ap}
use Rattle.std.specs.Int.{from_bool}
use Rattle.std.specs.Float.{binary64}
use Rattle.std.specs.Float.Ieee.{of_bits, of_int, round}
use Rattle.number.specs.Ops.{dec}
use Rattle.probe.specs.Rows.{truth_number}

pub truth : (b : Bool) → of_int binary64 (pos (from_bool b)) ≡ truth_number b
unfolding truth_number of_int round
truth true = refl
truth false = refl

pub decay : (b : ℕ) → b ≡ 4585925428558828667 → of_bits binary64 b ≡ dec 4 100
unfolding of_bits round
decay b e = ap (of_bits binary64) e
