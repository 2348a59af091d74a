use Rattle.std.proofs.Common.{arith}
use Rattle.root.proofs.Patterns.{no_nan}
use Rattle.root.proofs.root.Goals as goal

pub float_from_bits-result : goal.float_from_bits-result
float_from_bits-result c =
    let s = c.guess.ensures.sure c.in-Some.r c.in-Some.is in
    let f = s.finite in
    no_nan _ (omega arith)
