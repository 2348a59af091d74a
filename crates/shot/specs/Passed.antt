-- Lemmas. The numbers of a shot that is turned back, and what one that is not has passed.
use Rattle.std.specs.Prelude.{ℕ, ◌≤◌, ◌≡◌, refl, Bool, true, false, not}
use Rattle.std.proofs.Common.{arith}
use Rattle.std.specs.Prelude.{if◌then◌else◌}
use Rattle.shot.specs.Tests.{physics_ok, ball_ok, density_ok, landing_ok, input_test}
use Rattle.shot.specs.declared.Shot.{Shot}

abbrev number : Bool → Bool → Bool → Bool → ℕ
number a b c d = if not a then 4 else if not b then 5 else if not c then 6 else if not d then 7 else 0

-- a shot that passes 4 to 7
pub record Passes (s : Shot) : Type 0 where
  pub physics : physics_ok s.physics s.step_limit ≡ true
  pub ball : ball_ok s.ball ≡ true
  pub density : density_ok s.air_density ≡ true
  pub landing : landing_ok s.landing ≡ true

pub input_passes : (s : Shot) → input_test s ≡ 0 → Passes s
unfolding input_test
input_passes s = go (physics_ok s.physics s.step_limit) (ball_ok s.ball) (density_ok s.air_density) (landing_ok s.landing) refl refl refl refl
  where
    go : (a b c d : Bool) → physics_ok s.physics s.step_limit ≡ a → ball_ok s.ball ≡ b → density_ok s.air_density ≡ c → landing_ok s.landing ≡ d
        → number a b c d ≡ 0 → Passes s
    go true true true true i j k l h = record { physics = i; ball = j; density = k; landing = l }
    go true true true false i j k l h = absurd (omega (arith, h))
    go true true false d i j k l h = absurd (omega (arith, h))
    go true false c d i j k l h = absurd (omega (arith, h))
    go false b c d i j k l h = absurd (omega (arith, h))

-- the number of one that does not is one of 4 to 7
pub input_number : (s : Shot) → (input_test s ≡ 0 → ⊥) → (4 ≤ input_test s) × (input_test s ≤ 7)
unfolding input_test
input_number s = go (physics_ok s.physics s.step_limit) (ball_ok s.ball) (density_ok s.air_density) (landing_ok s.landing)
  where
    go : (a b c d : Bool) → (number a b c d ≡ 0 → ⊥) → (4 ≤ number a b c d) × (number a b c d ≤ 7)
    go true true true true h = absurd (h refl)
    go true true true false h = (omega arith, omega arith)
    go true true false d h = (omega arith, omega arith)
    go true false c d h = (omega arith, omega arith)
    go false b c d h = (omega arith, omega arith)

pub input_most : (s : Shot) → input_test s ≤ 7
unfolding input_test
input_most s = go (physics_ok s.physics s.step_limit) (ball_ok s.ball) (density_ok s.air_density) (landing_ok s.landing)
  where
    go : (a b c d : Bool) → number a b c d ≤ 7
    go true true true true = omega arith
    go true true true false = omega arith
    go true true false d = omega arith
    go true false c d = omega arith
    go false b c d = omega arith
