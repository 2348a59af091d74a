-- Lemmas: a settle through its door, by the first settle or the second.
use Prim.Native.Nat.{ℕ}
use mathlib.Core.Path.{◌≡◌}
use mathlib.Core.Bool.{Bool}
use mathlib.Core.List.{List}
use lib.Ieee.{Float}
use Rattle.ground.specs.Settle.{result_of}
use Rattle.ground.specs.Settle.{Settled}
use Rattle.input.specs.Input.{settle_input_by}
use Rattle.capi.specs.Doors.{reported, settle_door, settle_door_by}

pub settles : (fading : Bool) (input : List ℕ) (c p l : List Float) {s : Settled} {c' p' l' : List Float} → result_of s c' p' ≡ settle_input_by fading input c p
    → l' ≡ reported s l → settle_door s.answer c' p' l' ≡ settle_door_by fading input c p l
unfolding settle_door_by
settles fading input c p l e h = rw (h, ← e)
