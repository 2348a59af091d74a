use native.Mathlib.Omega.{arith}
use Rattle.octets.proofs.Little.{half_of, word_of}
use Rattle.octets.proofs.word.Goals as goal

pub returns : goal.returns
returns c = omega (arith, half_of c.args.s.now c.args.o, word_of c.args.s.now c.args.o, c.from_le_bytes.ensures)
