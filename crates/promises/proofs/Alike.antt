-- Lemmas. Two programs that run alike on every course, and the hop in which the spin is held runs as the one over the factor 1. Assumes nothing.
use Prim.Native.Nat.{ℕ, zero, suc}
use Rattle.std.specs.Prelude.{◌≡◌, Bool, true, false, not, List, [], ◌∷◌, ◌++◌, Float, Option, Some, None}
use Rattle.std.proofs.Math.Path.{refl, ap, sym}
use Rattle.std.proofs.Common.{◌∙◌}
use Rattle.std.specs.Float.{binary64}
use Rattle.std.specs.Float.Ieee.{le, neg}
use Rattle.std.specs.Float.Ieee.Fits.{sub-fits}
use Rattle.number.specs.Ops.{◌⊗◌, dec}
use Rattle.vector.specs.Vec.{vsub, vscale, vdot, vlength, vnormalize}
use Rattle.vector.specs.declared.DVec3.{DVec3}
use Rattle.state.specs.declared.BallState.{BallState}
use Rattle.surface.specs.declared.GroundSample.{GroundSample}
use Rattle.aero.specs.Aero.{from_spin_vector}
use Rattle.aero.specs.declared.BallModel.{BallModel}
use Rattle.look.specs.Rect.{no_rect}
use Rattle.look.specs.Tree.{Made, Tree, done, look as look_node, step, Oracle, Spot, did, exec, seen, bind}
use Rattle.look.specs.Agree.{rect_from}
use Rattle.look.proofs.Agree.{exec_is}
use Rattle.tally.specs.Language.{M, Log, Outcome, goes, stops, Ran, onward, ◌>>=◌, pure, when, Pass, again, over, loop}
use Rattle.std.specs.Prelude.{if◌then◌else◌}
use Rattle.tally.specs.Language.{look, mark, truncate, push_point, steps_left}
use Rattle.tally.specs.Times.{is_late}
use Rattle.tally.proofs.Triple.{Past, fresh, After, Reached, reach, reaches, reach_is, t_any}
use Rattle.tally.specs.declared.Conditions.{Conditions}
use Rattle.arrival.specs.Arrival.{clearance, clearance_at, first_crossing, crossing_time, placed, hop_arrival}
use Rattle.arrival.proofs.FirstCrossing.{IfSome}
use Rattle.arrival.specs.RootSearch.{Gives, gives_pure, gives_then, gives_bind}
use Rattle.arrival.specs.declared.Arc.{Arc}
use Rattle.impact.specs.Impact.{grazing, effective_normal, pivoted, struck as hit_by, impact_of}
use Rattle.hop.specs.Hop.{held, faded, spin_after, flight, step_arc, step_end, hop_next, hop_step, hop_from}
use Rattle.hop.specs.Fade.{Doubles, by_factor, hop_fading, hop_held}
use Rattle.hop.specs.declared.Flight.{Flight}
use Rattle.hop.specs.declared.Way.{Way}
use Rattle.hop.specs.declared.Way.TheVariants.{Arrived, Late}
use Rattle.strike.specs.Strike.{struck, strike, dies_out, fly_by}
use Rattle.strike.specs.declared.Struck.{Struck}
use Rattle.ground_phase.specs.GroundPhase.{time_up}
use Rattle.state.specs.declared.Phase.TheVariants.{Hop as InHop}
use Rattle.train.specs.Train.{train_from_by}
use Rattle.roll.specs.declared.Ending.{Ending}
use Rattle.promises.proofs.Parts.{one_of}
use Rattle.promises.proofs.OnePass.{either, given_test, given_made}
use Rattle.promises.proofs.EachPass.{On, gives_map, gives_loop}

-- ---- programs that run alike

-- m and n leave every run in the same place, on every course
pub record Alike {A : Type 0} (m n : M A) : Type 0 where
  pub at_all : (o : Oracle) (w : Past) → reaches o m w ≡ reaches o n w

pub alike_same : {A : Type 0} {m : M A} → Alike m m
alike_same = record { at_all = λ o w. refl }

pub alike_if : {A : Type 0} (b : Bool) {x y x' y' : M A} → Alike x x' → Alike y y' → Alike (if b then x else y) (if b then x' else y')
alike_if true p q = p
alike_if false p q = q

-- from where m leaves a run, the rest goes on
reach_bind : {A B : Type 0} (o : Oracle) (k : A → M B) (t : Tree (Ran A)) (m : List Made) (s f : List Spot)
    → reach o (bind t (λ r. onward k r.outcome r.log)) m s f ≡ reaches o (onward k (reach o t m s f).outcome) (reach o t m s f).past
unfolding reach bind
reach_bind o k (done r) m s f = refl
reach_bind o k (look_node x z c) m s f = reach_bind o k (c (seen o x z)) m _ _
reach_bind o k (step d t) m s f = reach_bind o k t (m ++ (d ∷ [])) s f

module _ {A B : Type 0} {m m' : M A} {k k' : A → M B} (Q : A → Type 0) where
  pub alike_then : Alike m m' → Gives Q m → ((a : A) → Q a → Alike (k a) (k' a)) → Alike (m >>= k) (m' >>= k')
  unfolding ◌>>=◌
  alike_then a g h = record {
    at_all = λ o w.
        reach_bind o k (m w.log) w.made w.spots w.off ∙ on o (reaches o m w).outcome (reaches o m w).past ((g o).all w tt)
        ∙ ap (λ (r : Reached A). reaches o (onward k' r.outcome) r.past) (a.at_all o w)
        ∙ sym (reach_bind o k' (m' w.log) w.made w.spots w.off);
  }
    where
      on : (o : Oracle) (x : Outcome A) (w : Past) → After (λ a _. Q a) (λ _ _. Unit {0}) x w → reaches o (onward k x) w ≡ reaches o (onward k' x) w
      on o (goes a) w q = (h a q).at_all o w
      on o (stops n) w q = refl

-- with nothing known of the value
module _ {A B : Type 0} {m m' : M A} {k k' : A → M B} where
  pub alike_bind : Alike m m' → ((a : A) → Alike (k a) (k' a)) → Alike (m >>= k) (m' >>= k')
  alike_bind a h = alike_then (λ _. Unit {0}) a (λ o. t_any m) (λ x _. h x)

-- alike to run: the same answer, log and rectangle
pub alike_exec : {A : Type 0} {m n : M A} → Alike m n → (o : Oracle) (l : Log) → exec o no_rect (m l) ≡ exec o no_rect (n l)
alike_exec {A} {m} {n} a o l =
    let e = sym (reach_is o (m l) [] [] []) ∙ a.at_all o (fresh l) ∙ reach_is o (n l) [] [] [] in
    exec_is o no_rect (m l) ∙ ap (λ (r : Reached A). did (record { outcome = r.outcome; log = r.past.log }) (rect_from no_rect r.past.spots)) e ∙ sym
    (exec_is o no_rect (n l))

-- ---- the spin of a state is of doubles, after an impact too

abbrev Spun : BallState → Type 0
Spun s = Doubles s.spin

difference : (v w : DVec3) → Doubles (vsub v w)
unfolding vsub
difference v w = record { x = sub-fits binary64 _ _; y = sub-fits binary64 _ _; z = sub-fits binary64 _ _ }

impact_spun : (s : BallState) (g : GroundSample) (ball : BallModel) → Spun s → Spun (impact_of s g ball)
unfolding impact_of hit_by pivoted
impact_spun s g ball d =
    let n = vnormalize g.normal in
    let v = s.vel in
    one_of Spun (le (neg grazing ⊗ vlength v) (vdot v n)) _ _ d
    (one_of Spun (le (dec 0 1) (vdot v (effective_normal g.surface n v (vdot v n)))) _ _ d (difference _ _))

abbrev SpunHit : Struck → Type 0
SpunHit hit = Spun hit.out

strike_spun : (c : Conditions) (s : BallState) → Spun s → Gives SpunHit (strike c s)
unfolding strike
strike_spun c s d = gives_bind SpunHit (look _ _) _ (λ g. given_test SpunHit (impact_of s g c.ball) _ (λ ok.
    gives_pure SpunHit (struck g (impact_of s g c.ball)) (impact_spun s g c.ball d)))

-- ---- a hop that begins with the spin w, held

abbrev one : Float → Float
one _ = dec 1 1

by_one : (v : DVec3) → Doubles v → v ≡ vscale v (dec 1 1)
unfolding spin_after
by_one v d = by_factor false (dec 0 1) v d

module _ (c : Conditions) (w : DVec3) (d : Doubles w) where
  abbrev With : BallState → Type 0
  With s = s.spin ≡ w

  abbrev WithFlight : Flight → Type 0
  WithFlight f = With f.state

  abbrev WithWay : Way → Type 0
  WithWay (Arrived b) = With b
  WithWay (Late b) = With b

  arc_same : (s : BallState) → With s → step_arc c (held (from_spin_vector w)).aero s ≡ step_arc c (faded one).aero s
  unfolding step_arc
  arc_same s h = rw h

  end_same : (arc : Arc) (s : BallState) → With s → step_end (held (from_spin_vector w)).after arc s ≡ step_end (faded one).after arc s
  unfolding step_end
  end_same arc s h = rw (← by_one s.spin (rw h d))

  step_same : (f : Flight) → WithFlight f → hop_step c (held (from_spin_vector w)) f ≡ hop_step c (faded one) f
  unfolding hop_step
  step_same f h = rw (arc_same f.state h, end_same (step_arc c (faded one).aero f.state) f.state h)

  abbrev Led : Pass Flight Way → Type 0
  Led = On WithFlight WithWay

  -- an arrival has the spin that its hop's step began with
  arrives_with : (arc : Arc) (t end : Float) → Gives (IfSome With) (hop_arrival arc t end w)
  unfolding hop_arrival placed
  arrives_with arc t end = gives_bind (IfSome With) (clearance_at arc _) _ (λ f0. gives_bind (IfSome With) (first_crossing _ _ _ _) _ (elim [
    | None ↦ gives_pure (IfSome With) None tt
    | Some b ↦ gives_bind (IfSome With) (crossing_time arc b) _ (λ tau. gives_bind (IfSome With) (look _ _) _ (λ s. gives_pure (IfSome With) (Some _) refl))
  ]))

  next_with : (f : Flight) (b : BallState) → With b → (a : Option BallState) → IfSome With a → Gives Led (hop_next f b a)
  unfolding hop_next
  next_with f b h None _ = gives_bind Led (when _ _) _ (λ _. gives_pure Led (again (flight b _)) h)
  next_with f b h (Some s) k = given_test Led s _ (λ ok. gives_pure Led (over (Arrived s)) k)

  step_with : (f : Flight) → WithFlight f → Gives Led (hop_step c (held (from_spin_vector w)) f)
  unfolding hop_step step_end
  step_with f h = given_made Led _ _ (given_test Led _ _ (λ ok. gives_bind Led (clearance _) _ (λ end.
      gives_then (IfSome With) Led (hop_arrival _ _ end f.state.spin) _ (next_with f _ h) (rw h (arrives_with _ _ end)))))

  abbrev late_flight : Flight → Bool
  late_flight f = is_late f.state.time c.t_end

  hop_with : (n : ℕ) (f : Flight) → WithFlight f → Gives WithWay (hop_from c (held (from_spin_vector w)) n f)
  unfolding hop_from
  hop_with n f h = gives_loop WithFlight WithWay late_flight (hop_step c (held (from_spin_vector w))) (λ f i _. step_with f i) (λ f. pure (Late f.state))
      (λ f j. gives_pure WithWay (Late f.state) j) n f h

  hop_same : (n : ℕ) (f : Flight) → WithFlight f → Alike (hop_from c (held (from_spin_vector w)) n f) (hop_from c (faded one) n f)
  unfolding hop_from loop
  hop_same zero f h = alike_same
  hop_same (suc n) f h = alike_if (late_flight f) alike_same (alike_then Led (rw (step_same f h) alike_same) (step_with f h)
      (elim [ again g ↦ λ i. hop_same n g i | over r ↦ λ _. alike_same ]))

-- ---- the same of a whole hop, and of what comes after it

abbrev SpunWay : Way → Type 0
SpunWay (Arrived b) = Spun b
SpunWay (Late b) = Spun b

abbrev SpunFlown : Option Way → Type 0
SpunFlown (Some way) = SpunWay way
SpunFlown None = Unit

module _ (c : Conditions) where
  hop_alike : (start : BallState) → Spun start → Alike (hop_held c start) (hop_fading one c start)
  hop_alike start d = alike_bind alike_same (λ n. hop_same c start.spin d n (flight start _) refl)

  hop_spun : (start : BallState) → Spun start → Gives SpunWay (hop_held c start)
  hop_spun start d = gives_bind SpunWay (steps_left c) _ (λ n.
      gives_map (WithWay c start.spin d) SpunWay _ (elim [ Arrived b ↦ λ h. rw h d | Late b ↦ λ h. rw h d ]) (hop_with c start.spin d n (flight start _) refl))

  fly_alike : (hops : Bool) (state : BallState) (hit : Struck) → SpunHit hit
      → Alike (fly_by c (hop_held c) hops state hit) (fly_by c (hop_fading one c) hops state hit)
  unfolding fly_by
  fly_alike hops state hit d = alike_if (not hops) alike_same (alike_bind alike_same (λ m. alike_bind alike_same (λ _.
      alike_bind (hop_alike hit.out d) (λ way. alike_same))))

  fly_spun : (hops : Bool) (state : BallState) (hit : Struck) → SpunHit hit → Gives SpunFlown (fly_by c (hop_held c) hops state hit)
  unfolding fly_by
  fly_spun hops state hit d =
      either (Gives SpunFlown) (not hops) (gives_pure SpunFlown None tt)
      (gives_bind SpunFlown mark _ (λ m. gives_bind SpunFlown (push_point _ _) _ (λ _. gives_then SpunWay SpunFlown (hop_held c hit.out) _ (elim [
        | Late b ↦ λ j. gives_pure SpunFlown (Some (Late b)) j
        | Arrived b ↦ λ j. either (Gives SpunFlown) (dies_out c state hit b) (gives_pure SpunFlown (Some (Arrived b)) j)
            (gives_bind SpunFlown (truncate m) _ (λ _. gives_pure SpunFlown None tt))
      ]) (hop_spun hit.out d))))

  pub train_alike : (n : ℕ) (s : BallState) → Spun s → Alike (train_from_by c (hop_held c) n s) (train_from_by c (hop_fading one c) n s)
  unfolding train_from_by
  train_alike zero s d = alike_same
  train_alike (suc n) s d = alike_then SpunHit alike_same (strike_spun c s d) (λ hit h.
      alike_then SpunFlown (fly_alike _ s hit h) (fly_spun _ s hit h) (elim [
        | None ↦ λ _. alike_same
        | Some way ↦ λ j. alike_bind alike_same (λ _. after (train_alike n) way j)
      ]))
    where
      after : ((b : BallState) → Spun b → Alike (train_from_by c (hop_held c) n b) (train_from_by c (hop_fading one c) n b))
          → (way : Way) → SpunWay way → Alike {A = Ending} (elim way [ Arrived b ↦ train_from_by c (hop_held c) n b | Late b ↦ time_up b InHop ])
          (elim way [ Arrived b ↦ train_from_by c (hop_fading one c) n b | Late b ↦ time_up b InHop ])
      after k (Arrived b) j = k b j
      after k (Late b) j = alike_same
