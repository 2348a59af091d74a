-- What is left from i on decides.
use Rattle.std.proofs.Common.{◌≡◌, drop}
use Rattle.listen.specs.Listen.{firsts, in_order, times_ok}
use Rattle.listen.proofs.times_ok.Given as goal

abbrev pub invariant-loop-i : goal.invariant-loop-i
invariant-loop-i l = in_order l.before (drop l.i (firsts l.width l.n l.list)) ≡ times_ok (firsts l.width l.n l.list)
