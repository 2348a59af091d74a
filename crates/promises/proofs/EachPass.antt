-- Lemmas. Each pass of a run keeps to its brackets: every state from which a pass is made passed test 22, or is the landing, at a time that is a double.
use Prim.Native.Nat.{ℕ, zero, suc, ◌-◌}
use Rattle.std.specs.Prelude.{◌≡◌, refl, Bool, true, false, not, Float, Option, Some, None}
use mathlib.Core.List.{List, [], ◌∷◌, ◌++◌}
use Rattle.std.specs.Float.Ieee.{neg, le}
use Rattle.number.specs.Ops.{◌⊗◌, dec}
use Rattle.vector.specs.Vec.{vsub, vscale, vdot, vlength, vnormalize}
use Rattle.state.specs.declared.BallState.{BallState}
use Rattle.surface.specs.declared.GroundSample.{GroundSample}
use Rattle.aero.specs.Aero.{radius_of}
use Rattle.aero.specs.declared.BallModel.{BallModel}
use Rattle.impact.specs.Impact.{grazing, effective_normal, impact_of, struck as struck_by}
use Rattle.contact.specs.Contact.{slip_of}
use Rattle.look.specs.Tree.{Oracle, run}
use Rattle.tally.specs.Times.{is_late}
use Rattle.tally.specs.Language.{M, Log, Outcome, goes, stops, pure, look, push_point}
use Rattle.std.specs.Prelude.{if◌then◌else◌}
use Rattle.tally.specs.Language.{push_contact, mark, truncate, steps_left, loop, Pass, again, over}
use Rattle.tally.specs.declared.Conditions.{Conditions}
use Rattle.tally.proofs.Triple.{t_after, t_stop, t_any}
use Rattle.arrival.specs.RootSearch.{Goes, Gives, given, gives_pure, gives_then, gives_bind}
use Rattle.hop.specs.Hop.{Air, air_of, flight, hop_step, hop_from, hop}
use Rattle.hop.specs.declared.Flight.{Flight}
use Rattle.hop.specs.declared.Way.{Way}
use Rattle.hop.specs.declared.Way.TheVariants.{Arrived, Late}
use Rattle.roll.specs.Roll.{roll_from, ground_step}
use Rattle.roll.specs.declared.Roll.{Roll}
use Rattle.roll.specs.declared.Ending.{Ending}
use Rattle.strike.specs.Strike.{struck, strike, rebounds, dies_out, fly_by, fly, dropped, drop}
use Rattle.strike.specs.declared.Struck.{Struck}
use Rattle.promises.specs.Passes.{Made, in_air, on_ground, Each, followed, after, loop_passes, hop_passes, ground_passes, fly_passes, to_ground_passes}
use Rattle.promises.specs.Passes.{train_passes}
use Rattle.promises.specs.Bracketed.{Timed, Later, HopLeads, GroundLeads, Bracketed}
use Rattle.promises.proofs.OnePass.{Paced, either, given_test, time_either, hop_pass, ground_pass}

-- what a part gives is known by more
pub gives_map : {A : Type 0} (P Q : A → Type 0) (m : M A) → ((a : A) → P a → Q a) → Gives P m → Gives Q m
gives_map P Q m f g o = t_after (λ a w p. f a p) (λ n w r. r) (g o)

by_test : {A : Type 0} (P : A → Type 0) (b : Bool) {x y : A} → P x → (b ≡ false → P y) → P (if b then x else y)
by_test P true p q = p
by_test P false p q = q refl

-- a pass goes on with I, or ends with R
abbrev pub On : {A B : Type 0} → (A → Type 0) → (B → Type 0) → Pass A B → Type 0
On I R (again a) = I a
On I R (over b) = R b

module _ (o : Oracle) (P : Made → Type 0) where
  each_after : {A : Type 0} (Q : A → Type 0) (m : M A) (k : A → Log → List Made) → Gives Q m → ((a : A) → Q a → (l : Log) → Each P (k a l)) → (l : Log)
      → Each P (after o m k l)
  each_after {A} Q m k g h l = go (run o (m l)).outcome (run o (m l)).log (given Q m g o l)
    where
      go : (r : Outcome A) (l : Log) → Goes Q r → Each P (followed o k r l)
      go (goes a) l q = h a q l
      go (stops n) l q = tt

  each_append : (x y : List Made) → Each P x → Each P y → Each P (x ++ y)
  each_append [] y p q = q
  each_append (m ∷ x) y p q = (p.0, each_append x y p.1 q)

module _ {A B : Type 0} (I : A → Type 0) (R : B → Type 0) (late : A → Bool) (pass : A → M (Pass A B))
    (p : (a : A) → I a → late a ≡ false → Gives (On I R) (pass a)) where
  pub gives_loop : (at_end : A → M B) → ((a : A) → I a → Gives R (at_end a)) → (n : ℕ) (a : A) → I a → Gives R (loop n late at_end pass a)
  unfolding loop
  gives_loop at_end e zero a i = either (Gives R) (late a) (e a i) (λ o. t_stop (λ w _. tt))
  gives_loop at_end e (suc n) a i =
      by_test (Gives R) (late a) (e a i) (λ d. gives_then (On I R) R (pass a) _
      (elim [ again b ↦ λ w. gives_loop at_end e n b w | over r ↦ λ w. gives_pure R r w ]) (p a i d))

  module _ (o : Oracle) (P : Made → Type 0) (made : A → Made) (q : (a : A) → I a → late a ≡ false → P (made a)) where
    each_loop : (n : ℕ) (a : A) → I a → (l : Log) → Each P (loop_passes o late pass made n a l)
    unfolding loop_passes
    each_loop zero a i l = tt
    each_loop (suc n) a i l =
        by_test (Each P) (late a) tt (λ d. (
          q a i d,
          each_after o P (On I R) (pass a) _ (p a i d)
              (elim [ again b ↦ λ w. each_loop n b w | over r ↦ λ w m. tt ]) l,
        ))

any : {A : Type 0} (m : M A) → Gives (λ _. Unit) m
any m o = t_any m

pub impact_time : (state : BallState) (at : GroundSample) (ball : BallModel) → (impact_of state at ball).time ≡ state.time
unfolding impact_of struck_by
impact_time state at ball =
    let n = vnormalize at.normal in
    let v = state.vel in
    time_either (le (neg grazing ⊗ vlength v) (vdot v n)) _ _ state.time refl
    (time_either (le (dec 0 1) (vdot v (effective_normal at.surface n v (vdot v n)))) _ _ state.time refl refl)

pub dropped_time : (c : Conditions) (hit : Struck) → (dropped c hit).time ≡ hit.out.time
unfolding dropped
dropped_time c hit =
    let n = vnormalize hit.«at».normal in
    let vel = vsub hit.out.vel (vscale n (vdot hit.out.vel n)) in
    time_either (le (vlength (slip_of vel hit.out.spin n (radius_of c.ball))) c.physics.roll_threshold) _ _ hit.out.time refl refl

abbrev TimedFlight : Flight → Type 0
TimedFlight f = Timed f.state

abbrev TimedWay : Way → Type 0
TimedWay (Arrived b) = Timed b
TimedWay (Late b) = Timed b

abbrev TimedRoll : Roll → Type 0
TimedRoll g = Timed g.state

abbrev TimedFlown : Option Way → Type 0
TimedFlown (Some w) = TimedWay w
TimedFlown None = Unit

abbrev TimedHit : Struck → Type 0
TimedHit hit = Timed hit.out

hop_on_lem : (t : Float) (x : Pass Flight Way) → HopLeads (Later t) x → On TimedFlight TimedWay x
hop_on_lem t (again f) w = w.timed
hop_on_lem t (over (Arrived b)) w = w.timed
hop_on_lem t (over (Late b)) w = w.timed

ground_on_lem : (t : Float) (x : Pass Roll Ending) → GroundLeads (Later t) x → On TimedRoll (λ _. Unit) x
ground_on_lem t (again g) w = w.timed
ground_on_lem t (over e) w = tt

module _ (c : Conditions) (paced : Paced c) where
  abbrev late_flight : Flight → Bool
  late_flight f = is_late f.state.time c.t_end

  abbrev late_roll : Roll → Bool
  late_roll g = is_late g.state.time c.t_end

  hop_goes : (air : Air) (f : Flight) → Timed f.state → late_flight f ≡ false → Gives (On TimedFlight TimedWay) (hop_step c air f)
  hop_goes air f i d =
      gives_map (HopLeads (Later f.state.time)) (On TimedFlight TimedWay) (hop_step c air f) (hop_on_lem f.state.time)
      (hop_pass c paced air f i d).onward

  ground_goes : (g : Roll) → Timed g.state → late_roll g ≡ false → Gives (On TimedRoll (λ _. Unit)) (ground_step c g)
  ground_goes g i d =
      gives_map (GroundLeads (Later g.state.time)) (On TimedRoll (λ _. Unit)) (ground_step c g) (ground_on_lem g.state.time)
      (ground_pass c paced g i d).onward

  hop_gives : (start : BallState) → Timed start → Gives TimedWay (hop c start)
  unfolding hop hop_from
  hop_gives start i =
      let air = air_of c start.spin in
      gives_bind TimedWay (steps_left c) _ (λ n.
      gives_loop TimedFlight TimedWay late_flight (hop_step c air) (hop_goes air) (λ f. pure (Late f.state))
      (λ f j. gives_pure TimedWay (Late f.state) j) n (flight start _) i)

  fly_gives : (hops : Bool) (state : BallState) (hit : Struck) → TimedHit hit → Gives TimedFlown (fly c hops state hit)
  unfolding fly_by
  fly_gives hops state hit i =
      either (Gives TimedFlown) (not hops) (gives_pure TimedFlown None tt)
      (gives_bind TimedFlown mark _ (λ m. gives_bind TimedFlown (push_point _ _) _ (λ _. gives_then TimedWay TimedFlown (hop c hit.out) _ (elim [
        | Late b ↦ λ j. gives_pure TimedFlown (Some (Late b)) j
        | Arrived b ↦ λ j. either (Gives TimedFlown) (dies_out c state hit b) (gives_pure TimedFlown (Some (Arrived b)) j)
            (gives_bind TimedFlown (truncate m) _ (λ _. gives_pure TimedFlown None tt))
      ]) (hop_gives hit.out i))))

  strike_gives : (state : BallState) → Timed state → Gives TimedHit (strike c state)
  unfolding strike
  strike_gives state i =
      gives_bind TimedHit (look _ _) _ (λ s. given_test TimedHit (impact_of state s c.ball) _ (λ ok.
      gives_pure TimedHit (struck s (impact_of state s c.ball)) (record { ok = ok; double = rw (impact_time state s c.ball) i.double })))

  drop_gives : (state : BallState) (hit : Struck) → TimedHit hit → Gives Timed (drop c state hit)
  unfolding drop
  drop_gives state hit i =
      given_test Timed (dropped c hit) _ (λ ok. gives_bind Timed (push_contact _ _ _) _ (λ _.
      gives_pure Timed (dropped c hit) (record { ok = ok; double = rw (dropped_time c hit) i.double })))

  module _ (o : Oracle) where
    each_hop : (start : BallState) → Timed start → (l : Log) → Each (Bracketed c) (hop_passes o c start l)
    unfolding hop_passes
    each_hop start i l =
        let air = air_of c start.spin in
        each_loop TimedFlight TimedWay late_flight (hop_step c air) (hop_goes air) o (Bracketed c) (in_air air) (hop_pass c paced air)
        (c.step_limit - l.steps) (flight start _) i l

    each_ground : (state : BallState) (s : GroundSample) → Timed state → (l : Log) → Each (Bracketed c) (ground_passes o c state s l)
    unfolding ground_passes
    each_ground state s i l =
        each_loop TimedRoll (λ _. Unit) late_roll (ground_step c) ground_goes o (Bracketed c) on_ground (ground_pass c paced) (c.step_limit - l.steps)
        (roll_from state s) i l

    each_fly : (hops : Bool) (hit : Struck) → TimedHit hit → (l : Log) → Each (Bracketed c) (fly_passes o c hops hit l)
    unfolding fly_passes
    each_fly hops hit i =
        either (λ (k : Log → List Made). (l : Log) → Each (Bracketed c) (k l)) (not hops) (λ l. tt)
        (each_after o (Bracketed c) (λ _. Unit) mark _ (any mark)
        (λ m _. each_after o (Bracketed c) (λ _. Unit) (push_point _ _) _ (any (push_point _ _)) (λ _ _. each_hop hit.out i)))

    each_to_ground : (state : BallState) (hit : Struck) → TimedHit hit → (l : Log) → Each (Bracketed c) (to_ground_passes o c state hit l)
    unfolding to_ground_passes
    each_to_ground state hit i = each_after o (Bracketed c) Timed (drop c state hit) _ (drop_gives state hit i) (λ leave j. each_ground leave hit.«at» j)

    pub each_train : (n : ℕ) (state : BallState) → Timed state → (l : Log) → Each (Bracketed c) (train_passes o c n state l)
    unfolding train_passes
    each_train zero state i =
        each_after o (Bracketed c) TimedHit (strike c state) _ (strike_gives state i)
        (λ hit j. either (λ (k : Log → List Made). (l : Log) → Each (Bracketed c) (k l)) (not (rebounds c hit)) (each_to_ground state hit j) (λ l. tt))
    each_train (suc n) state i =
        each_after o (Bracketed c) TimedHit (strike c state) _ (strike_gives state i) (λ hit j l.
        each_append o (Bracketed c) (fly_passes o c (rebounds c hit) hit l) _ (each_fly (rebounds c hit) hit j l)
        (each_after o (Bracketed c) TimedFlown (fly c (rebounds c hit) state hit) _ (fly_gives (rebounds c hit) state hit j) (elim [
          | None ↦ λ _. each_to_ground state hit j
          | Some (Arrived b) ↦ λ k. each_after o (Bracketed c) (λ _. Unit) (push_contact state hit.«at» hit.out) _
              (any (push_contact state hit.«at» hit.out)) (λ _ _. each_train n b k)
          | Some (Late b) ↦ λ k. each_after o (Bracketed c) (λ _. Unit) (push_contact state hit.«at» hit.out) _
              (any (push_contact state hit.«at» hit.out)) (λ _ _ m. tt)
        ]) l))
