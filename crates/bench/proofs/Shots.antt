-- Statements. Each input of the table gives its line, computed from the definitions.
use Rattle.std.specs.Prelude.{◌≡◌, refl}
use Rattle.std.specs.Float.Ieee.{neg}
use Rattle.number.specs.Ops.{dec}
use Rattle.root.specs.Root.{root_of}
use Rattle.exponential.specs.Exp.{exp_of}
use Rattle.trigonometry.specs.Trig.{cosine_of}
use Rattle.bench.specs.Numbers.{root_four, cosine_zero, exp_at_zero, exp_at_minus_701}
use Rattle.bench.specs.Definitions.{definitions}
use Rattle.bench.specs.Shots.{table, Prints}

pub bench_shots : Prints table
unfolding definitions
bench_shots = (refl, (refl, (refl, (refl, (refl, (refl, (refl, (refl, tt))))))))

-- the starred shots and the starred numbers
pub bench_table : Prints table × (root_of (dec 4 1) ≡ dec 2 1) × (cosine_of (dec 0 1) ≡ dec 1 1) × (exp_of (dec 0 1) ≡ dec 1 1) × (exp_of (neg
    (dec 701 1)) ≡ dec 0 1)
bench_table = (bench_shots, root_four, cosine_zero, exp_at_zero, exp_at_minus_701)
