-- Statements. Both settles are one, over the factor by which a hop step multiplies the spin (02, paper 13). Lemmas: Alike.
use Rattle.std.specs.Prelude.{◌≡◌, Bool, List, ℕ, Float, length}
use Rattle.std.proofs.Math.Path.{refl, sym}
use Rattle.std.proofs.Common.{◌∙◌}
use Rattle.std.proofs.Math.Bool.{true, false}
use Rattle.std.specs.Float.Ieee.{binary64}
use Rattle.std.specs.Float.Ieee.Bits.{of_bits-fits}
use borrow.Author.Tests.{le-leb}
use Rattle.shot.specs.declared.Shot.{Shot}
use Rattle.hop.specs.Fade.{Doubles, factor_of, faded_hop}
use Rattle.train.specs.Train.{train}
use Rattle.ground.specs.Settle.{conditions_of, run_of, settle_of}
use Rattle.input.specs.Input.{real_at, vec_at, landing_at, sheet_at, shot_by, settle_input_by}
use Rattle.promises.specs.Program.{Sized}
use Rattle.promises.specs.Factor.{settle_fading}
use Rattle.promises.proofs.Factor.{first_settle, factor_1}

module _ (sheet : List ℕ) (shot : Shot) (cs ps : List Float) where
  -- both settles are the one over the factor
  pub both_settles : Doubles shot.landing.spin → settle_of sheet shot cs ps ≡ settle_fading sheet shot cs ps (factor_of shot.fading)
  unfolding settle_of run_of train conditions_of
  both_settles d = go shot.fading refl
    where
      go : (b : Bool) → shot.fading ≡ b → settle_of sheet shot cs ps ≡ settle_fading sheet shot cs ps (factor_of b)
      go true h = rw (faded_hop (conditions_of shot) h)
      go false h = first_settle sheet shot cs ps h ∙ sym (factor_1 sheet shot cs ps d)

-- of every input of 240 to 34,048 bytes, whose numbers are doubles: the first settle's is that over the factor 1, the second's that over exp(−(0.04×h))
module _ (s : List ℕ) (cs ps : List Float) where
  spin_read : Doubles (landing_at s).spin
  unfolding landing_at vec_at real_at
  spin_read = record { x = of_bits-fits binary64 _; y = of_bits-fits binary64 _; z = of_bits-fits binary64 _ }

  pub inputs_by_factor : (fading : Bool) → Sized s → settle_input_by fading s cs ps ≡ settle_fading (sheet_at s) (shot_by fading s) cs ps (factor_of fading)
  unfolding settle_input_by shot_by
  inputs_by_factor fading h = rw (le-leb 240 (length s) h.0, le-leb (length s) 34048 h.1) (both_settles (sheet_at s) (shot_by fading s) cs ps spin_read)
