-- Contracts of inner functions. What a search through landings leaves, and what the code's result stands for.
use Rattle.std.specs.Prelude.{ℕ, ◌≡◌, Bool, List, Float, length, Option, Some, None, Result, Ok, Err}
use Rattle.state.specs.declared.BallState.{BallState}
use Rattle.state.specs.declared.Termination.TheVariants.{Rest}
use Rattle.shot.specs.declared.Shot.{Shot}
use Rattle.refusal.specs.declared.Refusal.{Refusal}
use Rattle.refusal.specs.Refusal.{number_of}
use Rattle.ground.specs.Settle.{result_of, settle_of, told_by}
use Rattle.aim.specs.Aim.{Aimed, no_aim, shot_from, fits_of, first_of}
use Rattle.aim.specs.declared.Target.{Target}
use Rattle.aim.specs.declared.Aimed.{Aimed as Code}

-- a landing and its settle; of none all +0, with 0 or the refusal's number
abbrev pub aimed_by : Result (Option Code) Refusal → Aimed
aimed_by (Ok (Some a)) = record { settled = told_by a.settled; landing = a.landing }
aimed_by (Ok None) = no_aim 0
aimed_by (Err r) = no_aim (number_of r)

-- what is found came to rest: so what is found, nothing found and a refusal are three
abbrev pub CameToRest : Result (Option Code) Refusal → Type 0
CameToRest r = (a : Code) → r ≡ Ok (Some a) → a.settled.outcome ≡ Ok Rest

module _ (sheet : List ℕ) (shot : Shot) (target : Target) where
  abbrev pub fits_from : List Float → List Float → BallState → Bool
  fits_from cs ps b = fits_of target (settle_of sheet (shot_from shot b) cs ps).settled

  -- with lists cs and ps lent: the first landing of l that fits, with its settle and lists; or none fits
  abbrev pub Sought : List Float → List Float → List BallState → Option Code → List Float → List Float → Type 0
  Sought cs ps l None cs' ps' = first_of (fits_from cs ps) l ≡ None
  Sought cs ps l (Some a) cs' ps' =
      (first_of (fits_from cs ps) l ≡ Some a.landing) × (result_of (told_by a.settled) cs' ps' ≡ settle_of sheet (shot_from shot a.landing) cs ps)

  -- so for all lists of these lengths: what earlier tries left in them does not count
  abbrev pub Seeks : ℕ → ℕ → List BallState → Option Code → List Float → List Float → Type 0
  Seeks nc np l r cs' ps' = (cs ps : List Float) → length cs ≡ nc → length ps ≡ np → Sought cs ps l r cs' ps'
