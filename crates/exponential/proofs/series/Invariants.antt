use Rattle.std.proofs.Common.{◌≡◌, ◌-◌, ◌≤◌}
use Rattle.exponential.specs.Exp.{horner, one}
use Rattle.exponential.proofs.series.Given as goal

abbrev pub invariant-loop-k : goal.invariant-loop-k
invariant-loop-k l = (1 ≤ l.k) × (horner (l.k - 1) l.fn.r l.p ≡ horner 14 l.fn.r one)
