-- Lemmas: whether two phases are the same, by their numbers.
use Rattle.std.specs.Prelude.{◌≡◌, refl, eqb, Option, Some, None}
use Rattle.std.specs.Option.{option_eq}
use denote.Enum.Bare.{sameb}
use Rattle.state.specs.contracts.Phase.{the_type}
use Rattle.state.specs.declared.Phase.{Phase}
use Rattle.state.specs.declared.Phase.TheVariants.{Hop, Slide, Roll}
use Rattle.state.specs.Numbers.{whole_phase}
use Rattle.roll.specs.Roll.{was_phase, in_roll}

same_phase : (a b : Phase) → sameb the_type a b ≡ eqb (whole_phase a) (whole_phase b)
unfolding whole_phase
same_phase Hop Hop = refl
same_phase Hop Slide = refl
same_phase Hop Roll = refl
same_phase Slide Hop = refl
same_phase Slide Slide = refl
same_phase Slide Roll = refl
same_phase Roll Hop = refl
same_phase Roll Slide = refl
same_phase Roll Roll = refl

pub was_same : (last : Option Phase) (phase : Phase) → option_eq (sameb the_type) last (Some phase) ≡ was_phase last phase
was_same None phase = refl
was_same (Some last) phase = same_phase last phase

pub rolls : (a : Phase) → sameb the_type a Roll ≡ in_roll a
rolls Hop = refl
rolls Slide = refl
rolls Roll = refl
