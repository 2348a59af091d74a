use Rattle.std.proofs.Common.{arith, refl}
use Rattle.search.specs.Search.{find_root}
use Rattle.arrival.proofs.Found.{few}
use Rattle.arrival.proofs.Turns.{root_off, root_at, root_on, root_out}
use Rattle.arrival.proofs.find_root.Goals as goal

pub loop-made-init : goal.loop-made-init
loop-made-init c = record { counted = omega arith; left = λ x u k. k }

pub overflow_add-tally : goal.overflow_add-tally
overflow_add-tally c = omega (arith, c.loop-made-test.true, c.loop-made.invariant.counted)

pub returns-in_err-fx : goal.returns-in_err-fx
unfolding find_root
returns-in_err-fx c =
    rw (← c.start_search-s.ensures) (c.loop-made.invariant.left _ _
    (root_off _ _ _ _ c.loop-made-test.true c.in_bracket-x.ensures c.clearance_at.ensures c.in_err-fx.was _ c.from_residual.ensures.1))

pub returns-in-Break : goal.returns-in-Break
unfolding find_root
returns-in-Break c =
    rw (← c.start_search-s.ensures)
    (c.loop-made.invariant.left _ _
    (root_at _ _ _ _ c.loop-made-test.true c.in_bracket-x.ensures c.clearance_at.ensures c.in_ok-fx.was c.in-Break.ensures refl))

pub loop-made-preserved : goal.loop-made-preserved
loop-made-preserved c =
    record {
      counted = let r = few c.clearance_at.ensures in omega (arith, r, c.loop-made.invariant.counted);
      left = λ x u k. c.loop-made.invariant.left _ _
          (root_on _ _ _ _ c.loop-made-test.true c.in_bracket-x.ensures c.clearance_at.ensures c.in_ok-fx.was c.in-Continue.ensures refl k);
    }

pub returns : goal.returns
unfolding find_root
returns c = rw (← c.start_search-s.ensures) (c.loop-made.invariant.left _ _ (root_out _ _ (omega (arith, c.loop-made-test.false))))
