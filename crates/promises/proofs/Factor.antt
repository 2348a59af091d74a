-- Statements. Both settles are one, over the factor by which a hop step multiplies the spin (02, paper 13). Lemmas: Alike.
use Rattle.std.specs.Prelude.{◌≡◌, List, ℕ, ◌-◌, Float, length}
use Rattle.std.proofs.Math.Bool.{false}
use Rattle.number.specs.Ops.{dec}
use Rattle.course.specs.Sheet.{course_of}
use Rattle.shot.specs.declared.Shot.{Shot}
use Rattle.hop.specs.Fade.{Doubles, held_hop}
use Rattle.train.specs.Train.{train}
use Rattle.ground.specs.Settle.{conditions_of, first_log, run_of, settle_of}
use Rattle.promises.proofs.Alike.{alike_exec, train_alike}
use Rattle.promises.specs.Factor.{settle_fading, settle_held}

module _ (sheet : List ℕ) (shot : Shot) (cs ps : List Float) where
  -- the first settle is that of ground.rs, word for word
  pub first_settle : shot.fading ≡ false → settle_of sheet shot cs ps ≡ settle_held sheet shot cs ps
  unfolding settle_of run_of train conditions_of
  first_settle h = rw (held_hop (conditions_of shot) h)

  -- and so is the settle over the factor 1
  pub factor_1 : Doubles shot.landing.spin → settle_fading sheet shot cs ps (λ _. dec 1 1) ≡ settle_held sheet shot cs ps
  unfolding train conditions_of
  factor_1 d =
      let n = shot.physics.max_impacts - 1 in
      rw (alike_exec (train_alike (conditions_of shot) n shot.landing d) (course_of sheet) (first_log shot.landing (length cs) (length ps)))
