use Rattle.std.proofs.Common.{sym}
use Rattle.look.specs.Rect.{sides_of}
use Rattle.fields.specs.Fields.{state_fields}
use Rattle.replaying.proofs.Laws.{agrees_append}
use Rattle.replaying.proofs.same_end.Goals as goal

pub returns : goal.returns
returns c =
    let s = c.args.s.now in
    rw (c.same_doubles.ensures, c.same_doubles-2.ensures, c.state_numbers.ensures, c.sides.ensures)
    (sym (agrees_append c.args.head.now 9 (state_fields s.rest) (sides_of s.rect)))
