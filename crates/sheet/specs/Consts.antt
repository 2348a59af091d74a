-- Lemmas. The constants of the tests: each bit pattern is the decimal, correctly rounded.
use Rattle.std.specs.Float.{binary64}
use Rattle.std.specs.Float.Ieee.{of_bits, round}
use Rattle.std.specs.Prelude.{◌≡◌, refl}
use Rattle.number.specs.Ops.{dec}

pub c0 : of_bits binary64 0 ≡ dec 0 1
unfolding of_bits round
c0 = refl

pub c1 : of_bits binary64 4607182418800017408 ≡ dec 1 1
unfolding of_bits round
c1 = refl

pub c10 : of_bits binary64 4621819117588971520 ≡ dec 10 1
unfolding of_bits round
c10 = refl

pub c001 : of_bits binary64 4576918229304087675 ≡ dec 1 100
unfolding of_bits round
c001 = refl

pub c1000 : of_bits binary64 4652007308841189376 ≡ dec 1000 1
unfolding of_bits round
c1000 = refl

pub c100000 : of_bits binary64 4681608360884174848 ≡ dec 100000 1
unfolding of_bits round
c100000 = refl

pub c4 : of_bits binary64 4616189618054758400 ≡ dec 4 1
unfolding of_bits round
c4 = refl
