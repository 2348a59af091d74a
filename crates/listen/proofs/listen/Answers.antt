use Rattle.std.proofs.Common.{arith, refl, sym}
use Rattle.refusal.proofs.Failed.{failed}
use Rattle.refusal.proofs.Numbers.{never_0}
use Rattle.listen.proofs.Accepted.{accepted}
use Rattle.listen.proofs.Made.{refused, heard_rest, contacts_rest, made}
use Rattle.listen.proofs.listen.Goals as goal

pub returns-in_err-test : goal.returns-in_err-test
returns-in_err-test c =
    rw (failed c.from_residual.result c.from_residual.ensures.1) (refused _ _ _ _ _ c.in_err-test.ensures (never_0 c.in_err-test.field-0.0))

pub walk-pairs-requires : goal.walk-pairs-requires
walk-pairs-requires c = let p = accepted _ _ _ _ _ (sym c.in_ok-test.ensures) in (p.whole, p.room_for)

pub overflow_sub-result : goal.overflow_sub-result
overflow_sub-result c = omega (arith, heard_rest _ _ _ _ _ c.walk-pairs.ensures)

pub overflow_sub-result-2 : goal.overflow_sub-result-2
overflow_sub-result-2 c = omega (arith, contacts_rest _ _ _ _ _ c.walk-pairs.ensures)

pub returns : goal.returns
returns c = made _ _ _ _ _ c.walk-pairs.ensures c.in_ok-test.ensures refl
