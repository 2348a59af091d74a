-- Definitions. What the door `dimple_aim` gives (include/dimple.h): its answer and all that it was lent.
use Rattle.std.specs.Prelude.{ℕ, cond, List, eqb, Float, length}
use Rattle.aim_door.specs.AimInput.{Into, into_of, aim_input_of}
use Rattle.capi.specs.Doors.{reported}

pub record AimDoor : Type 0 where
  pub answer : ℕ
  pub contacts : List Float
  pub points : List Float
  pub result : List Float
  pub landing : List Float

abbrev pub aim_door : ℕ → List Float → List Float → List Float → List Float → AimDoor
aim_door a c p l b = record { answer = a; contacts = c; points = p; result = l; landing = b }

-- the landing and both lists as `aim` gives them, and its result as in `dimple_settle`
abbrev pub aim_reported : Into → List Float → AimDoor
aim_reported w l = aim_door w.settled.answer w.contacts w.points (reported w.settled l) w.landing

-- 100 for a landing that is not ten doubles, and then nothing is touched
unfoldable pub aim_door_of : List ℕ → List Float → List Float → Float → Float → Float → ℕ → ℕ → List Float → List Float → AimDoor
aim_door_of input c p x z distance forward downward l b =
    cond (eqb (length b) 10)
    (aim_reported (into_of (aim_input_of input (record { x = x; z = z; distance = distance }) forward downward c p) b) l)
    (aim_door 100 c p l b)
