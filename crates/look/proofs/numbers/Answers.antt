use Rattle.std.proofs.Common.{refl}
use Rattle.std.specs.Float.Ieee.{of_bits, round}
use Rattle.look.specs.Rect.{no_rect}
use Rattle.look.proofs.numbers.Goals as goal

pub returns-in-None : goal.returns-in-None
unfolding no_rect of_bits round
returns-in-None c = rw c.in-None.is refl
