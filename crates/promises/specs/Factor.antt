-- Definitions. The settle over the factor by which a hop step multiplies the spin (02, paper 13). Both settles are one: proofs/Factor, Factors.
use Rattle.std.specs.Prelude.{List, ℕ, Float, length}
use Rattle.shot.specs.declared.Shot.{Shot}
use Rattle.hop.specs.Fade.{hop_fading, hop_held}
use Rattle.ground.specs.Settle.{Result, run_by, settle_by}

module _ (sheet : List ℕ) (shot : Shot) (cs ps : List Float) where
  -- the settle over a factor, a function of the step's length: each hop step flies with the spin it began with, and then the spin is multiplied
  abbrev pub settle_fading : (Float → Float) → Result
  settle_fading factor = settle_by sheet shot cs ps (run_by (hop_fading factor) shot (length cs) (length ps))

  -- the settle of ground.rs, in which a hop holds its spin
  abbrev pub settle_held : Result
  settle_held = settle_by sheet shot cs ps (run_by hop_held shot (length cs) (length ps))
