use Rattle.refusal.proofs.Failed.{failed}
use Rattle.board.proofs.Lists.{refused, entered, room}
use Rattle.board.proofs.Board.enter.Goals as goal

pub returns-in_err-test : goal.returns-in_err-test
returns-in_err-test c =
    rw (failed c.from_residual.result c.from_residual.ensures.1) (refused c.args.self.now c.args.e c.in_err-test.field-0.0 c.in_err-test.ensures)

pub insert-requires : goal.insert-requires
insert-requires c = room c.args.self.now c.args.e (search) c.in_ok-test.ensures

pub returns : goal.returns
returns c = entered c.args.self.now c.args.e c.in_ok-test.ensures c.insert.ensures
