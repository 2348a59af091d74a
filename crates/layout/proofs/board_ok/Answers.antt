use lib.Ieee.{of_bits, round, neg}
use Rattle.layout.specs.Layout.{board_ok}
use Rattle.layout.proofs.board_ok.Goals as goal

pub returns : goal.returns
unfolding board_ok of_bits round neg
returns c = rw (c.within.ensures, c.within-2.ensures, c.is_whole.ensures, c.entries_ok.ensures, c.nat_of.ensures)
