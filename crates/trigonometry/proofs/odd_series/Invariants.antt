use Rattle.std.proofs.Common.{◌≡◌}
use Rattle.number.specs.Ops.{◌⊘◌, dec}
use Rattle.trigonometry.specs.Trig.{odd_series, one}
use Rattle.trigonometry.proofs.odd_series.Given as goal

abbrev pub invariant-loop-m : goal.invariant-loop-m
invariant-loop-m l = odd_series l.m l.fn.z l.s ≡ odd_series 12 l.fn.z (one ⊘ dec 25 1)
