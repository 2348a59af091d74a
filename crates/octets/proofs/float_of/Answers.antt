use mathlib.Core.Path.{◌∙◌, sym}
use lib.Ieee.{binary64, of_bits}
use lib.Ieee.Bits.{nan_bits_above, nan_bits_is}
use borrow.Author.Tests.{lt-ltb, le-ltb}
use Rattle.octets.proofs.Nans.{is_nan_lem}
use Rattle.octets.proofs.float_of.Goals as goal

pub float_from_bits-result : goal.float_from_bits-result
float_from_bits-result c = rw (nan_bits_above, le-ltb _ _ c.if-bits-gt9218868437227405312.false) tt

pub returns-then-bits-gt9218868437227405312 : goal.returns-then-bits-gt9218868437227405312
unfolding of_bits
returns-then-bits-gt9218868437227405312 c = sym (is_nan_lem (of_bits binary64 c.args.bits)
    (sym (nan_bits_is binary64 c.args.bits) ∙ nan_bits_above binary64 c.args.bits ∙ lt-ltb _ _ c.if-bits-gt9218868437227405312.true))
