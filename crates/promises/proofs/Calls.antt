-- Statements. What 01 promises of `step`, `impact` and `height`, of every call: which answers each can give, and what comes with each. Assumes nothing.
use Rattle.std.specs.Prelude.{ℕ, ◌≡◌, Bool, List, Float}
use Rattle.std.proofs.Math.Path.{refl}
use Rattle.std.proofs.Common.{inr}
use Rattle.std.proofs.Math.Logic.{inl}
use Rattle.std.proofs.Math.Bool.{true, false}
use Rattle.state.specs.declared.BallState.{BallState}
use Rattle.state.specs.State.{state_ok}
use Rattle.aero.specs.declared.BallModel.{BallModel}
use Rattle.look.specs.Rect.{no_rect, spot_ok}
use Rattle.look.specs.Tree.{Oracle, run, exec}
use Rattle.look.proofs.Agree.{exec_is}
use Rattle.sheet.specs.Sheet.{header_ok, surface_ok, patch_ok, surfaces, patches, all}
use Rattle.course.specs.Sheet.{answer_of, course_of, height_of}
use Rattle.tally.specs.Language.{M, look, test, Log, Outcome, goes, stops}
use Rattle.tally.proofs.Triple.{Past, After, Triple, of_run, t_bind, t_then, t_pure, t_look, t_test}
use Rattle.shot.specs.Tests.{step_physics_ok, ball_ok, landing_ok}
use Rattle.ground.specs.Tests.{step_test, impact_test}
use Rattle.ground.specs.Settle.{first_log}
use Rattle.ground.specs.Step.{step_run, step_by, step_made, step_of, impact_run, impact_by, impact_made, impact_answer}
use Rattle.ground.specs.Step.{StepOut}
use Rattle.promises.specs.Samples.{height_finite}
use Rattle.promises.specs.Calls.{StepSays, ImpactSays, HeightSays}

-- a part that looks and tests stops with 22 alone
module _ {o : Oracle} where
  looks_22 : (x z : Float) → Triple o (λ _. Unit {0}) (look x z) (λ _ _. Unit {0}) (λ n _. n ≡ 22)
  looks_22 x z = t_look x z (λ w _ _. tt) (λ w _ _. refl)

  tests_22 : (s : BallState) → Triple o (λ _. Unit {0}) (test s) (λ b _. Unit {0} × (state_ok b ≡ true)) (λ n _. n ≡ 22)
  tests_22 s = t_test s (λ w _ e. (tt, e)) (λ w _ _. refl)

module _ (o : Oracle) {A : Type 0} (Q : A → Type 0) where
  abbrev Tested : M A → Type 0
  Tested m = Triple o (λ _. Unit {0}) m (λ a _. Q a) (λ n _. n ≡ 22)

  -- a value with Q, or 22
  abbrev Given : Outcome A → Type 0
  Given (goes a) = Q a
  Given (stops n) = n ≡ 22

  given : (m : M A) → Tested m → (l : Log) → Given (exec o no_rect (m l)).value.outcome
  given m t l = rw (exec_is o no_rect (m l)) (go (run o (m l)).outcome _ (of_run o t l tt))
    where
      go : (x : Outcome A) (w : Past) → After (λ a _. Q a) (λ n _. n ≡ 22) x w → Given x
      go (goes a) w h = h
      go (stops n) w h = h

-- ---- step

module _ (sheet : List ℕ) (dt stop threshold : Float) (ball : BallModel) (state : BallState) where
  step_run_lem : Tested (course_of sheet) (λ (r : StepOut). (r.answer ≡ 0) × (state_ok r.state ≡ true)) (step_run dt stop threshold ball state)
  unfolding step_run
  step_run_lem = t_bind (looks_22 _ _) (λ s. t_bind (looks_22 _ _) (λ under. t_then (tests_22 _) (λ b e. t_pure (λ w _. (refl, e)))))

  step_made_lem : StepSays sheet dt stop threshold ball state (step_made sheet dt stop threshold ball state)
  unfolding step_made
  step_made_lem = go (exec (course_of sheet) no_rect (step_run dt stop threshold ball state (first_log state 0 0))).value.outcome
      (given (course_of sheet) (λ r. (r.answer ≡ 0) × (state_ok r.state ≡ true)) (step_run dt stop threshold ball state) step_run_lem (first_log state 0 0))
    where
      go : (x : Outcome StepOut) → Given (course_of sheet) (λ (r : StepOut). (r.answer ≡ 0) × (state_ok r.state ≡ true)) x
          → StepSays sheet dt stop threshold ball state (step_by state x)
      go (goes r) h = inl h
      go (stops n) h = rw h (inr (tt, refl, refl))

  pub step_says : StepSays sheet dt stop threshold ball state (step_of sheet dt stop threshold ball state)
  unfolding step_of step_test answer_of
  step_says =
      go (header_ok sheet) (all (surface_ok sheet) (surfaces sheet) 0) (all (patch_ok sheet) (patches sheet) (surfaces sheet))
      (step_physics_ok dt stop threshold) (ball_ok ball) (landing_ok state) refl refl refl refl refl refl
    where
      go : (a b c d e f : Bool) → header_ok sheet ≡ a → all (surface_ok sheet) (surfaces sheet) 0 ≡ b
          → all (patch_ok sheet) (patches sheet) (surfaces sheet) ≡ c
          → step_physics_ok dt stop threshold ≡ d → ball_ok ball ≡ e → landing_ok state ≡ f
          → StepSays sheet dt stop threshold ball state (step_of sheet dt stop threshold ball state)
      go false b c d e f i j k l m n = rw i (inr (tt, refl, refl))
      go true false c d e f i j k l m n = rw (i, j) (inr (tt, refl, refl))
      go true true false d e f i j k l m n = rw (i, j, k) (inr (tt, refl, refl))
      go true true true false e f i j k l m n = rw (i, j, k, l) (inr (tt, refl, refl))
      go true true true true false f i j k l m n = rw (i, j, k, l, m) (inr (tt, refl, refl))
      go true true true true true false i j k l m n = rw (i, j, k, l, m, n) (inr (tt, refl, refl))
      go true true true true true true i j k l m n = rw (i, j, k, l, m, n) step_made_lem

-- ---- impact

module _ (sheet : List ℕ) (ball : BallModel) (state : BallState) where
  impact_run_lem : Tested (course_of sheet) (λ (s : BallState). state_ok s ≡ true) (impact_run ball state)
  unfolding impact_run
  impact_run_lem = t_bind (looks_22 _ _) (λ s. t_then (tests_22 _) (λ b e. t_pure (λ w _. e)))

  impact_made_lem : ImpactSays sheet ball state (impact_made sheet ball state)
  unfolding impact_made
  impact_made_lem = go (exec (course_of sheet) no_rect (impact_run ball state (first_log state 0 0))).value.outcome
      (given (course_of sheet) (λ s. state_ok s ≡ true) (impact_run ball state) impact_run_lem (first_log state 0 0))
    where
      go : (x : Outcome BallState) → Given (course_of sheet) (λ (s : BallState). state_ok s ≡ true) x → ImpactSays sheet ball state (impact_by state x)
      go (goes r) h = inl (refl, h)
      go (stops n) h = rw h (inr (tt, refl))

  pub impact_says : ImpactSays sheet ball state (impact_answer sheet ball state)
  unfolding impact_answer impact_test answer_of
  impact_says =
      go (header_ok sheet) (all (surface_ok sheet) (surfaces sheet) 0) (all (patch_ok sheet) (patches sheet) (surfaces sheet)) (ball_ok ball) (landing_ok state)
      refl refl refl refl refl
    where
      go : (a b c e f : Bool) → header_ok sheet ≡ a → all (surface_ok sheet) (surfaces sheet) 0 ≡ b → all (patch_ok sheet) (patches sheet) (surfaces sheet) ≡ c
          → ball_ok ball ≡ e → landing_ok state ≡ f → ImpactSays sheet ball state (impact_answer sheet ball state)
      go false b c e f i j k m n = rw i (inr (tt, refl))
      go true false c e f i j k m n = rw (i, j) (inr (tt, refl))
      go true true false e f i j k m n = rw (i, j, k) (inr (tt, refl))
      go true true true false f i j k m n = rw (i, j, k, m) (inr (tt, refl))
      go true true true true false i j k m n = rw (i, j, k, m, n) (inr (tt, refl))
      go true true true true true i j k m n = rw (i, j, k, m, n) impact_made_lem

-- ---- height

module _ (sheet : List ℕ) (x z : Float) where
  pub height_says : HeightSays sheet x z (height_of sheet x z)
  unfolding height_of answer_of
  height_says =
      go (header_ok sheet) (all (surface_ok sheet) (surfaces sheet) 0) (all (patch_ok sheet) (patches sheet) (surfaces sheet)) (spot_ok x z) refl refl refl refl
    where
      go : (a b c d : Bool) → header_ok sheet ≡ a → all (surface_ok sheet) (surfaces sheet) 0 ≡ b → all (patch_ok sheet) (patches sheet) (surfaces sheet) ≡ c
          → spot_ok x z ≡ d → HeightSays sheet x z (height_of sheet x z)
      go false b c d i j k l = rw i (inr (tt, refl))
      go true false c d i j k l = rw (i, j) (inr (tt, refl))
      go true true false d i j k l = rw (i, j, k) (inr (tt, refl))
      go true true true false i j k l = rw (i, j, k, l) (inr (tt, refl))
      go true true true true i j k l = rw (i, j, k, l) (inl (refl, height_finite sheet x z (rw (i, j, k)) (rw l tt), refl))
