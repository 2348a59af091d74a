use Rattle.shelf_layout.specs.Layout.{place_at}
use Rattle.shelf_layout.proofs.place_at.Goals as goal

pub returns : goal.returns
unfolding place_at
returns c = rw (c.name_at.ensures, c.state_at.ensures)
