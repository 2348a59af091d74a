use mathlib.Core.Path.{ap, ◌∙◌}
use lib.Ieee.{of_bits, round}
use Rattle.vector.specs.Vec.{vnormalize}
use Rattle.rolling.specs.ContactStep.{patch_of, contact_step_of}
use Rattle.rolling.proofs.Slow
use Rattle.rolling.proofs.step_along.Goals as goal

pub invariant_of-slip : goal.invariant_of-slip
unfolding of_bits round
invariant_of-slip c = record { length = Slow.length _ _ _ c.length_squared.ensures (c.slip_root-len.ensures.1 c.if-len.true) }

pub slide_step-requires : goal.slide_step-requires
unfolding patch_of
slide_step-requires c = rw c.patch_of-patch.ensures c.slip-u.ensures

pub returns-then-len : goal.returns-then-len
unfolding contact_step_of patch_of of_bits round
returns-then-len c =
    let slides = Slow.same _ _ _ c.length_squared.ensures c.slip_root-len.ensures.0 ∙ c.if-len.true in
    simp (
      ← c.args.on.along ∙ ap vnormalize c.requires,
      ← c.radius_m-radius.ensures,
      ← c.dot.ensures,
      ← c.mul.ensures,
      ← c.sub-vel.ensures,
      ← c.dot-w.ensures,
      ← c.patch_of-patch.ensures,
      ← c.slip-u.ensures,
      ← c.slide_step.ensures,
      slides,
    )

pub returns : goal.returns
unfolding contact_step_of of_bits round
returns c =
    let rolls = Slow.same _ _ _ c.length_squared.ensures c.slip_root-len.ensures.0 ∙ c.if-len.false in
    simp (
      ← c.args.on.along ∙ ap vnormalize c.requires,
      ← c.radius_m-radius.ensures,
      ← c.dot.ensures,
      ← c.mul.ensures,
      ← c.sub-vel.ensures,
      ← c.dot-w.ensures,
      ← c.patch_of-patch.ensures,
      ← c.slip-u.ensures,
      ← c.lock_rolling-locked.ensures,
      ← c.roll_step.ensures,
      rolls,
    )
