use mathlib.Core.Path.{refl, sym, subst}
use native.Mathlib.Omega.{arith}
use lib.Dec.{T}
use lib.Ieee.{binary64, fits}
use lib.Ieee.Bits.{of_bits-to_bits, to_bits-lt, nan_bits_is}
use Rattle.root.specs.Guess.{cut_of}
use Rattle.root.proofs.Patterns.{cut_no_nan}
use Rattle.root.proofs.cut.Goals as goal

held : (c : goal.Start) → T (fits binary64 c.args.s)
held c = subst T (sym c.well_formed.0.1) tt

pub overflow_mul-result : goal.overflow_mul-result
overflow_mul-result c = omega (arith, to_bits-lt binary64 c.args.s (held c))

pub float_from_bits-result : goal.float_from_bits-result
float_from_bits-result c = cut_no_nan _ (rw (nan_bits_is, of_bits-to_bits binary64 _ (held c)) c.requires)

pub returns : goal.returns
unfolding cut_of
returns c = refl
