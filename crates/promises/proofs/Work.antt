-- Lemmas. A run counts at most 200 evaluations a step: a pass makes one search, or none.
use Rattle.std.specs.Prelude.{ℕ, ◌+◌, ◌*◌, ◌≤◌, ◌≡◌, refl, not, Float, Option, Some, None}
use Rattle.std.proofs.Common.{arith}
use Rattle.vector.specs.declared.DVec3.{DVec3}
use Rattle.state.specs.declared.BallState.{BallState}
use Rattle.look.specs.Tree.{Oracle}
use Rattle.tally.specs.Language.{M}
use Rattle.tally.proofs.Triple.{Past, Triple, t_before, t_after, t_both, t_bind, t_of, t_fact, t_if, t_same, t_when, t_look, t_step, t_made}
use Rattle.tally.specs.declared.Conditions.{Conditions}
use Rattle.arrival.specs.declared.Arc.{Arc}
use Rattle.arrival.specs.Arrival.{clearance, hop_arrival}
use Rattle.arrival.proofs.Evaluations.{arrival_at_most_200}
use Rattle.hop.specs.Hop.{Air, hop_next, hop_step}
use Rattle.hop.specs.declared.Flight.{Flight}
use Rattle.roll.specs.Roll.{step_on, held_of, ground_step}
use Rattle.roll.specs.Evaluations.{pass_at_most_200}
use Rattle.roll.specs.declared.Roll.{Roll}
use Rattle.train.specs.Train.{train}
use Rattle.promises.proofs.Parts.{l_hop_arrival}
use Rattle.promises.specs.Always.{Holds, Words, w_look, w_test, w_point, train_holds}

-- n evaluations more would still be at most 200 a step
abbrev Spare : ℕ → Past → Type 0
Spare n w = w.log.evaluations + n ≤ 200 * w.log.steps

module _ (o : Oracle) where
  words : (n : ℕ) → Words o (Spare n)
  words n = record {
    saw = λ p w h. h;
    missed = λ p w h. h;
    passed = λ s w h. h;
    point = λ s f y w h. h;
    contact = λ a s b w h. h;
    cut = λ i w h. h;
  }

  -- with 200 to spare on the way, and none where it stops
  spared : {A : Type 0} {m : M A} → Holds o (Spare 200) m → Triple o (Spare 200) m (λ _. Spare 200) (λ _. Spare 0)
  spared t = t_after (λ a w h. h) (λ n w h. omega (arith, h)) t

  -- ---- a hop's pass

  -- at most x.0 evaluations and x.1 steps, which leave 200 to spare
  abbrev At : ℕ × ℕ → Past → Type 0
  At x w = ((w.log.evaluations ≤ x.0) × (w.log.steps ≡ x.1)) × (x.0 + 200 ≤ 200 * x.1)

  -- an arrival takes the 200 that the step has to spare
  arrives : (arc : Arc) (t end : Float) (spin : DVec3) → Triple o (Spare 200) (hop_arrival arc t end spin) (λ _. Spare 0) (λ _. Spare 0)
  arrives arc t end spin =
      t_before {P = λ w. ((w.log.evaluations ≤ w.log.evaluations) × (w.log.steps ≡ w.log.steps)) × Spare 200 w}
      (λ w h. ((omega arith, refl), h)) (t_of {I = At} (λ w. (w.log.evaluations, w.log.steps)) (λ x. t_fact (λ h.
      t_after (λ a w p. omega (arith, p.0, p.1.0, h)) (λ n w p. omega (arith, p.0, p.1, h))
      (t_both (arrival_at_most_200 arc t end spin o x.0)
      (l_hop_arrival {P = λ w. w.log.steps ≡ x.1} {R = λ _ w. w.log.steps ≡ x.1} arc (λ tau. t_look _ _ (λ w p e. (p, (refl, e))) (λ w p _. p))
      (λ w p. p) t end spin)))))

  next : (f : Flight) (b : BallState) (a : Option BallState) → Holds o (Spare 0) (hop_next f b a)
  unfolding hop_next
  next f b (Some s) = t_bind (w_test (words 0) s) (λ s. t_same)
  next f b None = t_bind (t_when _ (w_point (words 0) b _) (λ w h. h)) (λ _. t_same)

  hop_pass : (c : Conditions) (air : Air) (f : Flight) → Holds o (Spare 0) (hop_step c air f)
  unfolding hop_step clearance
  hop_pass c air f = t_made _ _ (t_step _ (λ w h. omega (arith, h))) (t_bind (spared (w_test (words 200) _)) (λ b.
      t_bind (t_bind (spared (w_look (words 200) _ _)) (λ s. t_same)) (λ end. t_bind (arrives _ _ end _) (next f b))))

  -- ---- the ground's
  ground_pass : (c : Conditions) (g : Roll) → Holds o (Spare 0) (ground_step c g)
  unfolding ground_step
  ground_pass c g = t_made _ _ (t_step _ (λ w h. let k = pass_at_most_200 c g in omega (arith, h, k)))
      (t_bind (t_when _ (w_point (words 0) _ _) (λ w h. h)) (λ _. t_bind (w_look (words 0) _ _) (λ under. t_bind (w_test (words 0) _) (λ b.
      t_if (not (held_of (step_on c g).phase (step_on c g).state under)) (λ _. t_same) (λ _. t_bind (w_point (words 0) _ _) (λ _. t_same))))))

  -- of the whole run
  pub train_works : (c : Conditions) (landing : BallState) → Holds o (Spare 0) (train c landing)
  train_works c landing = train_holds (words 0) c (hop_pass c) (ground_pass c) landing
