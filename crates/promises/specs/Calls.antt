-- Definitions. What 01 promises of `step`, `impact` and `height`, of every call: which answers each can give, and what comes with each. That they keep to it: proofs/Calls.
use Rattle.std.specs.Prelude.{ℕ, ◌≡◌, ◌⊎◌, Bool, ◌||◌, List, [], ◌∷◌, T, eqb, Float}
use Rattle.std.proofs.Math.Bool.{true, false}
use Rattle.number.specs.Ops.{dec}
use Rattle.number.specs.Number.{finite_of}
use Rattle.state.specs.declared.BallState.{BallState}
use Rattle.state.specs.State.{state_ok}
use Rattle.aero.specs.declared.BallModel.{BallModel}
use Rattle.course.specs.Sheet.{course_of}
use Rattle.course.specs.Sheet.{HeightOut}
use Rattle.ground.specs.Step.{StepOut, ImpactOut}

-- n is one of the list
abbrev pub among : List ℕ → ℕ → Bool
among [] n = false
among (k ∷ l) n = eqb n k || among l n

-- ---- step

module _ (sheet : List ℕ) (dt stop threshold : Float) (ball : BallModel) (state : BallState) where
  -- 0, and a state that passes test 22; or 1 to 5, 7 or 22, the given state and phase 0
  abbrev pub StepSays : StepOut → Type 0
  StepSays r = ((r.answer ≡ 0) × (state_ok r.state ≡ true)) ⊎ (T (among (1 ∷ 2 ∷ 3 ∷ 4 ∷ 5 ∷ 7 ∷ 22 ∷ []) r.answer) × (r.state ≡ state) × (r.phase ≡ 0))

-- ---- impact

module _ (sheet : List ℕ) (ball : BallModel) (state : BallState) where
  -- 0, and a state that passes test 22; or 1, 2, 3, 5, 7 or 22, and the given state
  abbrev pub ImpactSays : ImpactOut → Type 0
  ImpactSays r = ((r.answer ≡ 0) × (state_ok r.state ≡ true)) ⊎ (T (among (1 ∷ 2 ∷ 3 ∷ 5 ∷ 7 ∷ 22 ∷ []) r.answer) × (r.state ≡ state))

-- ---- height

module _ (sheet : List ℕ) (x z : Float) where
  -- 0, and a finite height, the course's there; or 1, 2, 3 or 11, and +0
  abbrev pub HeightSays : HeightOut → Type 0
  HeightSays r =
      ((r.answer ≡ 0) × T (finite_of r.height) × (r.height ≡ (course_of sheet x z).height))
      ⊎ (T (among (1 ∷ 2 ∷ 3 ∷ 11 ∷ []) r.answer) × (r.height ≡ dec 0 1))
