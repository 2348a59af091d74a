-- Laws: an input of a length that none has is not taken.
use Rattle.std.proofs.Common.{ℕ, List, arith, length, le-leb, ◌<◌, ◌≡◌}
use Rattle.std.specs.Prelude.{Float}
use Rattle.std.proofs.lemmas.Bool.{lt-leb}
use Rattle.aim.specs.Aim.{aim, no_aim}
use Rattle.aim.specs.declared.Target.{Target}
use Rattle.aim_door.specs.AimInput.{aim_input_of}

module _ (s : List ℕ) (t : Target) (f d : ℕ) (cs ps : List Float) where
  pub too_short : length s < 240 → aim (no_aim 12) cs ps ≡ aim_input_of s t f d cs ps
  unfolding aim_input_of
  too_short h = rw (lt-leb 240 (length s) h)

  pub too_long : 34048 < length s → aim (no_aim 12) cs ps ≡ aim_input_of s t f d cs ps
  unfolding aim_input_of
  too_long h = rw (le-leb 240 (length s) (omega arith), lt-leb (length s) 34048 h)
