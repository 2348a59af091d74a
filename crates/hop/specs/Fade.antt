-- Statements. Both settles fly one hop, over the factor by which a hop step multiplies the spin: the second settle's, or 1, which gives the spin as it was.
-- Of the whole settle: promises, Factor.
use Rattle.std.specs.Prelude.{◌≡◌, refl, Bool, true, false, cond, T, Float}
use Rattle.std.specs.Float.{binary64}
use Rattle.std.specs.Float.Ieee.{fits}
use Rattle.number.specs.Ops.{dec}
use Rattle.number.specs.Rounding.{times_one}
use Rattle.vector.specs.Vec.{vscale}
use Rattle.vector.specs.declared.DVec3.{DVec3}
use Rattle.state.specs.declared.BallState.{BallState}
use Rattle.aero.specs.Aero.{from_spin_vector}
use Rattle.tally.specs.Language.{M}
use Rattle.tally.specs.declared.Conditions.{Conditions}
use Rattle.hop.specs.Hop.{held, faded, fade_factor, aero_for, spin_after, hop_by, hop}
use Rattle.hop.specs.declared.Way.{Way}

-- 02, paper 13: "with factor 1 giving the old settle"
abbrev pub factor_of : Bool → Float → Float
factor_of fading h = cond fading (fade_factor h) (dec 1 1)

-- the hop over a factor: each step flies with the spin it began with, and then the spin is multiplied
abbrev pub hop_fading : (Float → Float) → Conditions → BallState → M Way
hop_fading factor = hop_by (λ _. faded factor)

-- the hop of ground.rs, in which the spin is held
abbrev pub hop_held : Conditions → BallState → M Way
hop_held = hop_by (λ w. held (from_spin_vector w))

-- a vector of doubles, as every DVec3 of the code is
pub record Doubles (w : DVec3) : Type 0 where
  pub x : T (fits binary64 w.x)
  pub y : T (fits binary64 w.y)
  pub z : T (fits binary64 w.z)

-- the spin after a hop step of length h is the old spin times the factor
pub by_factor : (fading : Bool) (h : Float) (w : DVec3) → Doubles w → spin_after fading h w ≡ vscale w (factor_of fading h)
unfolding spin_after vscale
by_factor true h w d = refl
by_factor false h w d = rw (times_one w.x d.x, times_one w.y d.y, times_one w.z d.z)

-- where the spin is held, the hop is word for word the one of ground.rs; where it fades, the one over the factor
module _ (c : Conditions) where
  pub held_hop : c.fading ≡ false → hop c ≡ hop_held c
  unfolding hop aero_for spin_after
  held_hop h = rw h

  pub faded_hop : c.fading ≡ true → hop c ≡ hop_fading fade_factor c
  unfolding hop aero_for spin_after
  faded_hop h = rw h
