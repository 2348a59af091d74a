use Rattle.std.proofs.Common.{refl}
use borrow.Author.Tests.{lt-leb, le-leb}
use Rattle.std.specs.Prelude.{◌≡◌, Result, Ok, Err}
use Rattle.std.specs.Result.{result_ok}
use Rattle.refusal.specs.declared.Refusal.{Refusal}
use Rattle.state.specs.declared.Termination.{Termination}
use Rattle.ground.specs.Settle.{ended_by}
use Rattle.capi.specs.Doors.{reported}
use Rattle.capi.proofs.write_result.Goals as goal

-- what the library's `ok` gives of an outcome is the termination told by it
ended : (r : Result Termination Refusal) → result_ok r ≡ ended_by r
ended (Ok t) = refl
ended (Err e) = refl

pub returns-then-res-lt-RESULT_LENGTH : goal.returns-then-res-lt-RESULT_LENGTH
unfolding reported
returns-then-res-lt-RESULT_LENGTH c = rw (lt-leb 20 _ c.if-res-lt-RESULT_LENGTH.true)

pub returns : goal.returns
unfolding reported
returns c = rw (
  le-leb 20 _ c.if-res-lt-RESULT_LENGTH.false,
  c.put.ensures,
  c.whole.ensures,
  c.whole-2.ensures,
  c.from.ensures,
  c.termination_number.ensures,
  c.ok.ensures.value,
  ended c.args.s.now.outcome,
  c.whole-3.ensures,
  c.whole-4.ensures,
  c.whole-5.ensures,
  c.whole-6.ensures,
  c.sides-rect.ensures,
)
