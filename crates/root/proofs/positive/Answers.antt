use Rattle.root.proofs.Rooted.{bits_of_root}
use Rattle.root.proofs.positive.Goals as goal

pub returns : goal.returns
returns c = bits_of_root _ _ _ _ c.requires.0 c.requires.1 c.aligned-w.ensures c.radicand-m.ensures c.near.ensures
