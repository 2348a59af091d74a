use Rattle.std.proofs.Common.{arith, ◌∙◌}
use Rattle.fields.proofs.Written.{written_on}
use Rattle.probe.specs.Doors.{all_written}
use Rattle.probe.proofs.Numbers.{truth}
use Rattle.probe.proofs.fill_stepped.Goals as goal

-- The two numbers after the state are one record, as long as the slice.
pub returns : goal.returns
returns c =
    rw (c.put.ensures, c.put_state.ensures, c.from.ensures, c.from-2.ensures, truth c.args.step.rolling)
    (written_on c.args.out.now 0 _ _ (omega arith) ∙ all_written c.args.out.now _ (omega arith))
