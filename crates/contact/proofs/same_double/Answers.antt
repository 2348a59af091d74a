use Rattle.std.proofs.Common.{◌≡◌, sym, ap, ◌∙◌, subst, arith}
use lib.Dec.{T}
use lib.Ieee.{binary64, of_bits, to_bits}
use lib.Ieee.Bits.{of_bits-to_bits}
use Rattle.std.proofs.lemmas.Bool.Decides.{nat_tests}
use Rattle.contact.proofs.same_double.Goals as goal

pub returns : goal.returns
returns c e =
    let w = c.well_formed in
    let b : to_bits binary64 c.args.a ≡ to_bits binary64 c.args.b = sym c.f64_to_bits_with_nan.ensures ∙ grind (arith, nat_tests, e)
    ∙ c.f64_to_bits_with_nan-2.ensures in
    sym (of_bits-to_bits binary64 c.args.a (subst T (sym w.0.1) tt)) ∙ ap (of_bits binary64) b ∙ of_bits-to_bits binary64 c.args.b (subst T (sym w.1.0.1) tt)
