use Rattle.rolling.specs.ContactStep.{roll_step}
use Rattle.rolling.proofs.RollingOn.roll_step.Goals as goal

pub returns-then-stops : goal.returns-then-stops
unfolding roll_step
returns-then-stops c =
    simp (
      ← c.slope.ensures,
      ← c.length-speed.ensures,
      ← c.heading-heading.ensures,
      ← c.decel-d.ensures,
      ← c.dot.ensures,
      ← c.stops.ensures,
      ← c.stop_time.ensures,
      ← c.rest_after.ensures,
      c.if-stops.true,
    )

pub returns : goal.returns
unfolding roll_step
returns c =
    simp (
      ← c.slope.ensures,
      ← c.length-speed.ensures,
      ← c.heading-heading.ensures,
      ← c.decel-d.ensures,
      ← c.dot.ensures,
      ← c.stops.ensures,
      ← c.roll_on.ensures,
      c.if-stops.false,
    )
