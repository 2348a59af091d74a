use Rattle.std.proofs.Common.{◌≡◌, refl}
use Rattle.std.specs.Prelude.{Float, Result, Ok, Err}
use borrow.Author.Tests.{ne_eqb, eq-eqb}
use Rattle.refusal.specs.declared.Refusal.{Refusal}
use Rattle.refusal.specs.Refusal.{answer_by}
use Rattle.course.specs.Sheet.{height_by}
use Rattle.capi.specs.Doors.{height_door_of}
use Rattle.capi.proofs.dimple_height.Goals as goal

number : (r : Result Float Refusal) → answer_by r ≡ (height_by r).answer
number (Ok h) = refl
number (Err e) = refl

pub returns-in_default : goal.returns-in_default
unfolding height_door_of
returns-in_default c = rw (c.from.ensures, ne_eqb _ _ c.in_default.ensures.cases)

pub returns : goal.returns
unfolding height_door_of
returns c =
    rw (
      eq-eqb _ _ c.in-Some.ensures.cases.long,
      ← c.in-Some.ensures.cases.same,
      ← c.height-h.ensures,
      c.write_height.ensures,
      c.answer.ensures,
      number c.height-h.result,
    )
