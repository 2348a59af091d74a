use Rattle.std.proofs.Common.{arith, get_or}
use borrow.Author.Tests.{lt-leb, le-leb}
use Rattle.shelf.proofs.Walks.{opened, parts_of}
use Rattle.shelf.proofs.name_sound.Goals as goal

pub returns-then-n-gt12 : goal.returns-then-n-gt12
returns-then-n-gt12 c = rw (opened c.args.name.now (omega arith), lt-leb _ _ c.if-n-gt12.true)

pub returns : goal.returns
returns c =
    let l = c.args.name.now in
    rw (opened l (omega arith), le-leb _ _ c.if-n-gt12.false, c.all_letters.ensures, c.all_zero.ensures)
    (parts_of l (get_or l 0 0) c.told-name c.if-n-gt12.false)
