-- Definitions. The course sheet's definitions, passed on from the crate sheet, and what `height` gives.
use Rattle.std.specs.Prelude.{ℕ, List, cond, eqb, Float, Result, Ok, Err}
use Rattle.number.specs.Ops.{dec}
use Rattle.look.specs.Rect.{spot_ok}
use Rattle.refusal.specs.declared.Refusal.{Refusal}
use Rattle.refusal.specs.Refusal.{number_of}
pub use Rattle.sheet.specs.Sheet.{surfaces, patches, field, real, Accepted}
unfoldable pub use Rattle.sheet.specs.Sheet.{header_ok, restitution_ok, law_ok, surface_ok, edges_ok, patch_ok, all, answer_of, first, covers, restitution_of, law_of, surface_of, patch_sample, plain_sample, course_of}

-- what `height` gives: the number, and a height
pub record HeightOut : Type 0 where
  pub answer : ℕ
  pub height : Float

-- what a refusal gives: the number of the test, and +0
abbrev pub refused_height : ℕ → HeightOut
refused_height n = record { answer = n; height = dec 0 1 }

abbrev pub height_at : Float → HeightOut
height_at h = record { answer = 0; height = h }

-- the code's result
abbrev pub height_by : Result Float Refusal → HeightOut
height_by (Ok h) = height_at h
height_by (Err r) = refused_height (number_of r)

-- `height`: the tests 1, 2, 3, then 11
unfoldable pub height_of : List ℕ → Float → Float → HeightOut
height_of s x z = cond (eqb (answer_of s) 0) (cond (spot_ok x z) (height_at (course_of s x z).height) (refused_height 11)) (refused_height (answer_of s))
