use lib.Ieee.{of_bits, round}
use Rattle.rk4.proofs.Stages.{stages}
use Rattle.rk4.proofs.Motion.step_state.Goals as goal

pub returns : goal.returns
unfolding of_bits round
returns g c = λ d t k p.
    stages d _ t _ k c.add_scaled.ensures (p _ _ c.rate-k2.ensures) c.add_scaled-2.ensures (p _ _ c.rate-k3.ensures) c.add_scaled-3.ensures
    (p _ _ c.rate-k4.ensures) c.add_scaled-4.ensures c.add_scaled-5.ensures c.add_scaled-6.ensures c.add_scaled-7.ensures
