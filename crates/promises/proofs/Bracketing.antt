-- Statements. In every pass of every accepted settle the step has a length above 0 and at most dt, the arrival lies within it, each search of a hop makes at
-- most 200 looks, a slide reaches its threshold within it, and time is not turned back (Bracketed). First of one pass that is due, from any state that
-- passes test 22; then of all the passes that a settle makes (Passes). dt and the landing's time are doubles, as every f64 is.
use Rattle.std.specs.Prelude.{ℕ, ◌-◌, ◌≡◌, true, false, List, T, length, Float}
use Rattle.std.specs.Float.{binary64}
use Rattle.std.specs.Float.Ieee.{fits}
use Rattle.std.specs.Float.Ieee.Bits.{is_true}
use Rattle.number.specs.Ops.{◌⊕◌}
use Rattle.state.specs.State.{state_ok}
use Rattle.course.specs.Sheet.{course_of}
use Rattle.tally.specs.Times.{is_late}
use Rattle.shot.specs.declared.Shot.{Shot}
use Rattle.hop.specs.Hop.{Air}
use Rattle.hop.specs.declared.Flight.{Flight}
use Rattle.roll.specs.declared.Roll.{Roll}
use Rattle.shot.specs.Tests.{physics_ok, landing_ok}
use Rattle.ground.specs.Tests.{refusal_of}
use Rattle.ground.specs.Passed.{settle_passes}
use Rattle.ground.specs.Settle.{conditions_of, first_log}
use Rattle.promises.proofs.Finite.{landing_passes}
use Rattle.promises.specs.Passes.{passes_of, Each}
use Rattle.promises.specs.Bracketed.{Timed, HopBracket, GroundBracket, Bracketed}
use Rattle.promises.proofs.OnePass.{holds, accepted_paced, hop_pass, ground_pass}
use Rattle.promises.proofs.EachPass.{each_train}

module _ (shot : Shot) where
  -- one pass of a hop, and one of the ground, from any state that passes test 22; a pass is due where it is not late, t_end being landing.time + max_time
  pub one_hop_pass : physics_ok shot.physics shot.step_limit ≡ true → landing_ok shot.landing ≡ true → T (fits binary64 shot.physics.dt)
      → (air : Air) (f : Flight) → Timed f.state
      → is_late f.state.time (shot.landing.time ⊕ shot.physics.max_time) ≡ false → HopBracket (conditions_of shot) air f
  unfolding conditions_of
  one_hop_pass h k d air f t due = hop_pass (conditions_of shot) (accepted_paced shot h k d) air f t due

  pub one_ground_pass : physics_ok shot.physics shot.step_limit ≡ true → landing_ok shot.landing ≡ true → T (fits binary64 shot.physics.dt)
      → (g : Roll) → Timed g.state
      → is_late g.state.time (shot.landing.time ⊕ shot.physics.max_time) ≡ false → GroundBracket (conditions_of shot) g
  unfolding conditions_of
  one_ground_pass h k d g t due = ground_pass (conditions_of shot) (accepted_paced shot h k d) g t due

  -- every pass that an accepted settle makes
  pub brackets : (sheet : List ℕ) (cs ps : List Float) → T (fits binary64 shot.physics.dt) → T (fits binary64 shot.landing.time)
      → refusal_of sheet shot (length cs) (length ps) ≡ 0
      → Each (Bracketed (conditions_of shot)) (passes_of sheet shot (length cs) (length ps))
  unfolding passes_of
  brackets sheet cs ps f g h =
      let a = (settle_passes sheet shot (length cs) (length ps) h).physics in
      let b = (settle_passes sheet shot (length cs) (length ps) h).landing in
      each_train (conditions_of shot) (accepted_paced shot a b f) (course_of sheet) (shot.physics.max_impacts - 1) shot.landing
      (record { ok = is_true (state_ok shot.landing) (landing_passes shot.landing (holds b)); double = g }) (first_log shot.landing (length cs) (length ps))
