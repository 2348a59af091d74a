-- Definitions. The numbers of a phase and of a termination, as lists and results have them.
use Rattle.std.specs.Prelude.{ℕ, Float, Option, Some, None}
use Rattle.number.specs.Ops.{dec}
use Rattle.state.specs.declared.Phase.{Phase}
use Rattle.state.specs.declared.Phase.TheVariants.{Hop, Slide, Roll}
use Rattle.state.specs.declared.Termination.{Termination}
use Rattle.state.specs.declared.Termination.TheVariants.{Rest, MaxTime, MaxImpacts}

-- 01: "phase (0 hop, 1 slide, 2 roll)"
unfoldable pub whole_phase : Phase → ℕ
whole_phase Hop = 0
whole_phase Slide = 1
whole_phase Roll = 2

-- the same, as a double
abbrev pub phase_number : Phase → Float
phase_number Hop = dec 0 1
phase_number Slide = dec 1 1
phase_number Roll = dec 2 1

-- 0 none, 1 rest, 2 time, 3 impacts: not 01's numbers, but those of the exported functions (reading-01, "The doors"; include/dimple.h)
unfoldable pub termination_number : Option Termination → ℕ
termination_number None = 0
termination_number (Some Rest) = 1
termination_number (Some MaxTime) = 2
termination_number (Some MaxImpacts) = 3
