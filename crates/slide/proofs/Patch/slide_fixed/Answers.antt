use Rattle.std.proofs.Common.{rules}
use Rattle.slide.specs.Slide.{fixed_rate, slide_fixed}
use Rattle.slide.proofs.Patch.slide_fixed.Goals as goal

pub returns : goal.returns
unfolding slide_fixed
returns c =
    rw (← c.slide_accel-accel.ensures, ← c.slide_spin_accel-spin_accel.ensures)
    (c.step_state.ensures (fixed_rate _ _) c.args.t c.fixed_rate-k1.ensures (λ x y e. search rules))
