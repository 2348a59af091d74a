-- Definitions. `aim` (02, paper 10): the first landing of a grid whose own settle ends at rest within a distance of a wanted spot.
use Rattle.std.specs.Prelude.{ℕ, zero, suc, ◌+◌, Bool, true, false, not, ◌&&◌, List, [], ◌∷◌, ◌++◌, leb, eqb, Float, length, replicate}
use Rattle.std.specs.Prelude.{Option, Some, None}
use Rattle.std.specs.Float.Ieee.{le, neg}
use Rattle.number.specs.Ops.{◌⊕◌, ◌⊖◌, ◌⊗◌, dec}
use Rattle.std.specs.Prelude.{if◌then◌else◌}
use Rattle.number.specs.Number.{within_of, about_of}
use Rattle.vector.specs.Vec.{vec}
use Rattle.state.specs.declared.BallState.{BallState}
use Rattle.state.specs.declared.Termination.{Termination}
use Rattle.state.specs.declared.Termination.TheVariants.{Rest, MaxTime, MaxImpacts}
use Rattle.shot.specs.declared.Shot.{Shot}
use Rattle.fields.specs.Fields.{whole_of}
use Rattle.ground.specs.Tests.{refusal_of}
use Rattle.ground.specs.Settle.{Result, Settled, no_state, refusal, settle_of}
use Rattle.aim.specs.declared.Target.{Target}

-- 35: "a grid side of 0 or above 32, or a distance outside 0..10, or a spot beyond ±100,000"
unfoldable pub aim_ok : Target → ℕ → ℕ → Bool
aim_ok t forward downward =
    leb 1 forward && leb forward 32 && leb 1 downward && leb downward 32
    && within_of (dec 0 1) (dec 10 1) t.distance && about_of (dec 100000 1) t.x && about_of (dec 100000 1) t.z

-- the first test that fails, or 0: 35 is "tested after 1 to 8"
unfoldable pub aim_refusal : List ℕ → Shot → Target → ℕ → ℕ → ℕ → ℕ → ℕ
aim_refusal sheet shot t forward downward nc np =
    let n = refusal_of sheet shot nc np in
    if not (eqb n 0) then n else if not (aim_ok t forward downward) then 35 else 0

-- ---- the grid

-- "Forward is along x and downward along −y, with z speed 0. All else is as in a given landing."
unfoldable pub with_speeds : BallState → ℕ → ℕ → BallState
with_speeds b i j = record { time = b.time; pos = b.pos; vel = vec (whole_of i) (neg (whole_of j)) (dec 0 1); spin = b.spin }

-- forward speed i, with n downward speeds, "by whole metres a second", from j up
unfoldable pub row : BallState → ℕ → ℕ → ℕ → List BallState
row b i zero j = []
row b i (suc n) j = with_speeds b i j ∷ row b i n (j + 1)

-- n forward speeds from i up, each with the downward speeds from 1 to m
unfoldable pub rows : BallState → ℕ → ℕ → ℕ → List BallState
rows b m zero i = []
rows b m (suc n) i = row b i m 1 ++ rows b m n (i + 1)

-- the landings in their order: "by forward then downward speed", both "from 1 m/s up"
abbrev pub grid : BallState → ℕ → ℕ → List BallState
grid b forward downward = rows b downward forward 1

-- ---- the search

-- the shot from another landing
abbrev pub shot_from : Shot → BallState → Shot
shot_from s b = record { physics = s.physics; step_limit = s.step_limit; ball = s.ball; air_density = s.air_density; landing = b; fading = s.fading }

abbrev pub is_rest : Option Termination → Bool
is_rest None = false
is_rest (Some Rest) = true
is_rest (Some MaxTime) = false
is_rest (Some MaxImpacts) = false

-- a settle that "has answer 0, ends at rest and lies within the distance in x and z, judged by squared doubles"
unfoldable pub fits_of : Target → Settled → Bool
fits_of t s =
    let dx = s.rest.pos.x ⊖ t.x in
    let dz = s.rest.pos.z ⊖ t.z in
    eqb s.answer 0 && is_rest s.termination && le (dx ⊗ dx ⊕ dz ⊗ dz) (t.distance ⊗ t.distance)

-- the first of a list at which p is true
unfoldable pub first_of : {A : Type 0} → (A → Bool) → List A → Option A
first_of p [] = None
first_of p (a ∷ l) = if p a then Some a else first_of p l

-- a landing and the result of its settle
pub record Aimed : Type 0 where
  pub settled : Settled
  pub landing : BallState

-- all that a call gives: the landing and what it returns of its settle, and both lists
pub record Aim : Type 0 where
  pub aimed : Aimed
  pub contacts : List Float
  pub points : List Float

abbrev pub aim : Aimed → List Float → List Float → Aim
aim a cs ps = record { aimed = a; contacts = cs; points = ps }

-- a number, or 0 where no landing fits, with "an all-zero landing"; every number of the result is +0 too
abbrev pub no_aim : ℕ → Aimed
no_aim n = record { settled = refusal n; landing = no_state }

-- "otherwise the run of the landing returned": its result and lists are those of its own settle
abbrev pub aim_at : BallState → Result → Aim
aim_at b r = aim (record { settled = r.settled; landing = b }) r.contacts r.points

-- n times +0
abbrev pub zeros : ℕ → List Float
zeros n = replicate n (dec 0 1)

module _ (sheet : List ℕ) (shot : Shot) (target : Target) (forward downward : ℕ) (cs ps : List Float) where
  -- the settle of the shot from a landing, over the lists as they were lent
  abbrev pub run_from : BallState → Result
  run_from b = settle_of sheet (shot_from shot b) cs ps

  -- "It returns the first .."; "It says none, with answer 0 and an all-zero landing .. The lists then hold +0"
  abbrev pub aim_by : Option BallState → Aim
  aim_by None = aim (no_aim 0) (zeros (length cs)) (zeros (length ps))
  aim_by (Some b) = aim_at b (run_from b)

  -- lists untouched on a number
  unfoldable pub aim_of : Aim
  aim_of =
      let n = aim_refusal sheet shot target forward downward (length cs) (length ps) in
      if not (eqb n 0) then aim (no_aim n) cs ps else
      aim_by (first_of (λ b. fits_of target (run_from b).settled) (grid shot.landing forward downward))
