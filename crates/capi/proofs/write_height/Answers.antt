use lib.Ieee.{of_bits, round}
use Rattle.capi.proofs.write_height.Goals as goal

pub returns-in-Err : goal.returns-in-Err
unfolding of_bits round
returns-in-Err c = rw (c.in-Err.is, c.put-in-Err.ensures)
