-- Lemmas. What each word and each pass keeps, a whole run keeps, wherever it stops.
use Prim.Native.Nat.{ℕ, zero, suc}
use Rattle.std.specs.Prelude.{Bool, not, Float, Some, None}
use Rattle.state.specs.declared.BallState.{BallState}
use Rattle.state.specs.declared.Phase.{Phase}
use Rattle.state.specs.declared.Phase.TheVariants.{Hop as InHop}
use Rattle.surface.specs.declared.GroundSample.{GroundSample}
use Rattle.look.specs.Tree.{Oracle, Spot}
use Rattle.tally.specs.Language.{M, Pass, again, over, look, test, push_point, push_contact}
use Rattle.tally.proofs.Triple.{Past, spot, saw_at, missed_at, passed_by, pointed, touched, cut_to, OnWith, Triple}
use Rattle.tally.proofs.Triple.{t_after, t_bind, t_if, t_same, t_look, t_test, t_point, t_contact, t_mark, t_truncate, t_left, t_loop}
use Rattle.tally.specs.declared.Conditions.{Conditions}
use Rattle.hop.specs.Hop.{Air, hop_step, hop_from, hop}
use Rattle.hop.specs.declared.Flight.{Flight}
use Rattle.hop.specs.declared.Way.{Way}
use Rattle.hop.specs.declared.Way.TheVariants.{Arrived, Late}
use Rattle.roll.specs.declared.Ending.{Ending}
use Rattle.roll.specs.Roll.{ground_step}
use Rattle.roll.specs.declared.Roll.{Roll}
use Rattle.ground_phase.specs.GroundPhase.{time_up, ground_from, ground}
use Rattle.strike.specs.Strike.{strike, rebounds, dies_out, fly_by, fly, drop}
use Rattle.strike.specs.declared.Struck.{Struck}
use Rattle.train.specs.Train.{last_impact, to_ground, train_from_by, train_from, train}

module _ (o : Oracle) (I : Past → Type 0) where
  -- I before a part, and after it, however it ends
  abbrev pub Holds : {A : Type 0} → M A → Type 0
  Holds m = Triple o I m (λ _. I) (λ _. I)

  -- each word but a step keeps I
  pub record Words : Type 0 where
    pub saw : (p : Spot) (w : Past) → I w → I (saw_at p w)
    pub missed : (p : Spot) (w : Past) → I w → I (missed_at p w)
    pub passed : (s : BallState) (w : Past) → I w → I (passed_by s w)
    pub point : (s : BallState) (f : Phase) (height : Float) (w : Past) → I w → I (pointed s f height w)
    pub contact : (a : BallState) (s : GroundSample) (b : BallState) (w : Past) → I w → I (touched a s b w)
    pub cut : (n : ℕ) (w : Past) → I w → I (cut_to n w)

-- a pass that goes on, or ends its loop
on : {o : Oracle} {I : Past → Type 0} {A B : Type 0} {m : M (Pass A B)} → Holds o I m → Triple o I m (OnWith (λ _. I) (λ _. I)) (λ _. I)
on t = t_after (elim [ again a ↦ λ w i. i | over b ↦ λ w i. i ]) (λ n w i. i) t

module _ {o : Oracle} {I : Past → Type 0} (k : Words o I) where
  pub w_look : (x z : Float) → Holds o I (look x z)
  w_look x z = t_look x z (λ w i _. k.saw (spot x z) w i) (λ w i _. k.missed (spot x z) w i)

  pub w_test : (s : BallState) → Holds o I (test s)
  w_test s = t_test s (λ w i _. k.passed s w i) (λ w i _. i)

  pub w_point : (s : BallState) (f : Phase) → Holds o I (push_point s f)
  w_point s f =
      let p = spot s.pos.x s.pos.z in
      t_point s f (λ w i _ _. k.point s f _ (saw_at p w) (k.saw p w i)) (λ w i _ _. k.saw p w i) (λ w i _. k.missed p w i)

  w_contact : (a : BallState) (s : GroundSample) (b : BallState) → Holds o I (push_contact a s b)
  w_contact a s b = t_contact a s b (λ w i _. k.contact a s b w i) (λ w i _. i)

  module _ (c : Conditions) (hops : (air : Air) (f : Flight) → Holds o I (hop_step c air f)) (grounds : (g : Roll) → Holds o I (ground_step c g)) where
    w_hop : (start : BallState) → Holds o I (hop c start)
    unfolding hop hop_from
    w_hop start = t_bind (t_left c (λ w i. i)) (λ n. t_loop _ _ _ (λ n f. I) (λ way. I) (λ n f. t_same) (λ f w i. i) (λ n f. on (hops _ f)) n _)

    w_time_up : (s : BallState) (phase : Phase) → Holds o I (time_up s phase)
    unfolding time_up
    w_time_up s phase = t_bind (w_point s phase) (λ _. t_same)

    w_ground : (state : BallState) (s : GroundSample) → Holds o I (ground c state s)
    unfolding ground ground_from
    w_ground state s = t_bind (t_left c (λ w i. i)) (λ n. t_loop _ _ _ (λ n g. I) (λ e. I) (λ n g. w_time_up _ _) (λ g w i. i) (λ n g. on (grounds g)) n _)

    w_strike : (state : BallState) → Holds o I (strike c state)
    unfolding strike
    w_strike state = t_bind (w_look _ _) (λ s. t_bind (w_test _) (λ b. t_same))

    w_fly : (rebound : Bool) (state : BallState) (hit : Struck) → Holds o I (fly c rebound state hit)
    unfolding fly_by
    w_fly rebound state hit = t_if (not rebound) (λ _. t_same) (λ _. t_bind (t_mark (λ w i. i)) (λ m. t_bind (w_point _ _) (λ _. t_bind (w_hop _) (elim [
      | Late b ↦ t_same
      | Arrived b ↦ t_if (dies_out c state hit b) (λ _. t_same) (λ _. t_bind (t_truncate m (λ w i. k.cut m w i)) (λ _. t_same))
    ]))))

    w_to_ground : (state : BallState) (hit : Struck) → Holds o I (to_ground c state hit)
    unfolding to_ground drop
    w_to_ground state hit = t_bind (t_bind (w_test _) (λ b. t_bind (w_contact _ _ _) (λ _. t_same))) (λ b. w_ground b _)

    w_last_impact : (state : BallState) (hit : Struck) → Holds o I (last_impact state hit)
    unfolding last_impact
    w_last_impact state hit = t_bind (w_contact _ _ _) (λ _. t_bind (w_point _ _) (λ _. t_same))

    w_way : (n : ℕ) (way : Way) → ((s : BallState) → Holds o I (train_from c n s))
        → Holds o I {A = Ending} (elim way as (λ x. M Ending) [ Arrived b ↦ train_from c n b | Late b ↦ time_up b InHop ])
    w_way n (Arrived b) f = f b
    w_way n (Late b) f = w_time_up b InHop

    w_train_from : (n : ℕ) (state : BallState) → Holds o I (train_from c n state)
    unfolding train_from_by
    w_train_from zero state = t_bind (w_strike state) (λ hit. t_if (not (rebounds c hit)) (λ _. w_to_ground state hit) (λ _. w_last_impact state hit))
    w_train_from (suc n) state = t_bind (w_strike state) (λ hit. t_bind (w_fly _ state hit) (elim [
      | None ↦ w_to_ground state hit
      | Some way ↦ t_bind (w_contact _ _ _) (λ _. w_way n way (w_train_from n))
    ]))

    pub train_holds : (landing : BallState) → Holds o I (train c landing)
    unfolding train
    train_holds landing = w_train_from _ landing
