use lib.Ieee.{of_bits, round}
use Rattle.aero.specs.Aero.{from_spin_vector}
use Rattle.aero.proofs.AeroParams.from_spin_vector.Goals as goal

pub returns-then-spin_rate : goal.returns-then-spin_rate
unfolding from_spin_vector of_bits round
returns-then-spin_rate c = simp (← c.length-spin_rate.ensures, ← c.div-spin_axis.ensures, c.if-spin_rate.true)

pub returns-else-spin_rate : goal.returns-else-spin_rate
unfolding from_spin_vector of_bits round
returns-else-spin_rate c = simp (← c.length-spin_rate.ensures, c.if-spin_rate.false)
