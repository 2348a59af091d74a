use lib.Ieee.{of_bits, round, neg}
use Rattle.layout.specs.Layout.{entry_ok}
use Rattle.layout.proofs.entry_ok.Goals as goal

pub returns : goal.returns
unfolding entry_ok of_bits round neg
returns c =
    rw (c.is_whole.ensures, c.is_whole-2.ensures, c.is_whole-3.ensures, c.is_whole-4.ensures, c.within.ensures, c.within-2.ensures)
