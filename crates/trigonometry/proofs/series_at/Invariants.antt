use Rattle.std.proofs.Common.{◌≡◌, ◌-◌, ◌≤◌}
use Rattle.trigonometry.specs.Trig.{series, divisor, one}
use Rattle.trigonometry.proofs.series_at.Given as goal

abbrev pub invariant-loop-k : goal.invariant-loop-k
invariant-loop-k g l = (1 ≤ l.k) × (series (divisor g.row.O) (l.k - 1) l.fn.s l.c ≡ series (divisor g.row.O) 10 l.fn.s one)
