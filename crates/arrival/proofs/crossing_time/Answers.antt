use Rattle.std.proofs.Common.{arith}
use Rattle.arrival.specs.Arrival.{crossing_time}
use Rattle.arrival.proofs.Found.{few, within, onward, stopped}
use Rattle.arrival.proofs.crossing_time.Goals as goal

pub returns-in_err-f_hi : goal.returns-in_err-f_hi
unfolding crossing_time
returns-in_err-f_hi c = within (omega arith) (stopped _ _ c.end_value.ensures c.in_err-f_hi.was _ c.from_residual.ensures.1)

pub returns-in_err-end : goal.returns-in_err-end
unfolding crossing_time
returns-in_err-end c =
    within (omega arith) (onward _ _ c.end_value.ensures {i = 0} c.in_ok-f_hi.was
    (stopped _ _ (rw c.place_at-last.ensures at c.look.ensures) c.in_err-end.was _ c.from_residual-in_err-end.ensures.1))

pub find_root-requires : goal.find_root-requires
find_root-requires c = let a = few c.end_value.ensures in let b = few c.look.ensures in omega (arith, a, b)

pub returns : goal.returns
unfolding crossing_time
returns c =
    onward _ _ c.end_value.ensures {i = 200} c.in_ok-f_hi.was (onward _ _ (rw c.place_at-last.ensures at c.look.ensures) {i = 200} c.in_ok-end.was
    (rw (← c.ending_at.ensures, ← c.guess_in-guess.ensures) c.find_root.ensures))
