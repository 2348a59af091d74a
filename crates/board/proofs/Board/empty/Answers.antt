use Rattle.std.proofs.Common.{refl}
use lib.Ieee.{of_bits, round}
use Rattle.board.proofs.Board.empty.Goals as goal

pub returns : goal.returns
unfolding of_bits round
returns c = refl
