use Rattle.std.proofs.Common.{sym, ◌∙◌}
use Rattle.shelf.specs.Shelf.{kept}
use Rattle.shelf.proofs.Shelf.keep.Goals as goal

pub returns-then-has : goal.returns-then-has
unfolding kept
returns-then-has c = rw (sym c.has.ensures ∙ c.if-has.true) c.replace.ensures

pub returns : goal.returns
unfolding kept
returns c = rw (sym c.has.ensures ∙ c.if-has.false) c.replace-2.ensures
