use Rattle.root.proofs.Steps.{State}
use Rattle.root.proofs.digits.Given as goal

abbrev pub invariant-loop : goal.invariant-loop
invariant-loop l = State l.fn.m l.root l.rem l.rest l.counter
