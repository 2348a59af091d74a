-- Definitions. `aim` over the input of the program settle, and what its door gives but for the result (include/dimple.h).
use Rattle.state.specs.declared.Termination.TheVariants.{Rest}
use Rattle.std.specs.Prelude.{ℕ, ◌≡◌, ◌&&◌, List, leb, Float, length, Option, Some, None, Result, Ok, Err}
use Rattle.refusal.specs.declared.Refusal.{Refusal}
use Rattle.refusal.specs.Refusal.{number_of}
use Rattle.std.specs.Prelude.{if◌then◌else◌}
use Rattle.fields.specs.Fields.{state_fields, written}
use Rattle.ground.specs.Settle.{Settled, refusal, told_by}
use Rattle.ground.specs.declared.Settled.{Settled as Code}
use Rattle.input.specs.Input.{sheet_at, shot_at}
use Rattle.aim.specs.Aim.{Aim, aim, no_aim, aim_of}
use Rattle.aim.specs.declared.Target.{Target}

-- 12 for under 240 or over 34,048 bytes, lists untouched; else `aim`. reading-02: "Order: 100, 12, 8, 1 to 7, 35"
unfoldable pub aim_input_of : List ℕ → Target → ℕ → ℕ → List Float → List Float → Aim
aim_input_of s t forward downward cs ps =
    if leb 240 (length s) && leb (length s) 34048 then aim_of (sheet_at s) (shot_at s) t forward downward cs ps else aim (no_aim 12) cs ps

-- the code's result: a settle; of none all +0, with 0 or the refusal's number
abbrev pub found_by : Result (Option Code) Refusal → Settled
found_by (Ok (Some s)) = told_by s
found_by (Ok None) = refusal 0
found_by (Err r) = refusal (number_of r)

abbrev pub FoundAtRest : Result (Option Code) Refusal → Type 0
FoundAtRest r = (s : Code) → r ≡ Ok (Some s) → s.outcome ≡ Ok Rest

-- what is returned, and the three lists: the landing is ten doubles, time, pos, vel, spin
pub record Into : Type 0 where
  pub settled : Settled
  pub contacts : List Float
  pub points : List Float
  pub landing : List Float

abbrev pub into : Settled → List Float → List Float → List Float → Into
into s cs ps l = record { settled = s; contacts = cs; points = ps; landing = l }

abbrev pub into_of : Aim → List Float → Into
into_of w l = into w.aimed.settled w.contacts w.points (written l 0 (state_fields w.aimed.landing))
