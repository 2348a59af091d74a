use lib.Ieee.{of_bits, round}
use Rattle.std.proofs.Common.{arith, ap, ◌∙◌}
use Rattle.std.specs.Prelude.{Ok}
use Rattle.arrival.specs.Arrival.{hop_arrival}
use Rattle.arrival.proofs.Found.{found, few, within, onward, stopped}
use Rattle.arrival.proofs.arrive.Goals as goal

pub returns-in_err-f0 : goal.returns-in_err-f0
unfolding hop_arrival of_bits round
returns-in_err-f0 c = within (omega arith) (stopped _ _ c.clearance_at.ensures c.in_err-f0.was _ c.from_residual.ensures.1)

pub returns-in_err-b : goal.returns-in_err-b
unfolding hop_arrival of_bits round
returns-in_err-b c =
    within (omega arith) (onward _ _ c.clearance_at.ensures {i = 0} c.in_ok-f0.was
    (stopped _ _ c.first_crossing.ensures c.in_err-b.was _ c.from_residual-in_err-b.ensures.1))

pub returns-in_default : goal.returns-in_default
unfolding hop_arrival of_bits round
returns-in_default c =
    within (omega arith) (onward _ _ c.clearance_at.ensures {i = 0} c.in_ok-f0.was
    (onward _ _ c.first_crossing.ensures {i = 0} (c.in_ok-b.was ∙ ap Ok c.in_default.is) found))

pub crossing_time-requires : goal.crossing_time-requires
crossing_time-requires c = let a = few c.clearance_at.ensures in let b = few c.first_crossing.ensures in omega (arith, a, b)

pub returns-in_err-tau : goal.returns-in_err-tau
unfolding hop_arrival of_bits round
returns-in_err-tau c =
    onward _ _ c.clearance_at.ensures {i = 200} c.in_ok-f0.was
    (onward _ _ c.first_crossing.ensures {i = 200} (c.in_ok-b.was ∙ ap Ok c.in-Some.is)
    (stopped _ _ c.crossing_time.ensures c.in_err-tau.was _ c.from_residual-in_err-tau.ensures.1))

pub returns-in_err-ground : goal.returns-in_err-ground
unfolding hop_arrival of_bits round
returns-in_err-ground c =
    onward _ _ c.clearance_at.ensures {i = 200} c.in_ok-f0.was
    (onward _ _ c.first_crossing.ensures {i = 200} (c.in_ok-b.was ∙ ap Ok c.in-Some.is)
    (onward _ _ c.crossing_time.ensures {i = 0} c.in_ok-tau.was
    (stopped _ _ (rw c.at-s.ensures at c.look.ensures) c.in_err-ground.was _ c.from_residual-in_err-ground.ensures.1)))

pub returns : goal.returns
unfolding hop_arrival of_bits round
returns c =
    onward _ _ c.clearance_at.ensures {i = 200} c.in_ok-f0.was
    (onward _ _ c.first_crossing.ensures {i = 200} (c.in_ok-b.was ∙ ap Ok c.in-Some.is)
    (onward _ _ c.crossing_time.ensures {i = 0} c.in_ok-tau.was
    (onward _ _ (rw c.at-s.ensures at c.look.ensures) {i = 0} c.in_ok-ground.was (rw (c.place.ensures, c.at-s.ensures) found))))
