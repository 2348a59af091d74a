use Rattle.std.proofs.Common.{sym, ◌∙◌}
use Rattle.shelf.proofs.Walks.{name_short}
use Rattle.shelf.proofs.Shelf.save.Goals as goal

pub pack-requires : goal.pack-requires
pack-requires c = name_short _ (sym c.name_ok.ensures ∙ c.if-not-name_ok.false)
