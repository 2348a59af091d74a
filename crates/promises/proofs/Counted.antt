-- Statements. The passes that Passes lists are as many as the steps that a settle counts: none is left out, none is listed twice.
use Prim.Native.Nat.{ℕ, zero, suc, ◌+◌, ◌-◌}
use Rattle.std.proofs.Common.{zero-add, arith, ◌∙◌, length-append}
use Rattle.std.proofs.Math.Nat.{add-zero}
use Rattle.std.specs.Prelude.{◌≡◌, Bool, not, List, [], ◌∷◌, eqb, Float, Option, Some, None}
use Rattle.std.proofs.Math.Path.{refl, ap, sym}
use Rattle.std.proofs.Math.Bool.{true, false}
use Rattle.std.proofs.Math.ListN.{length}
use Rattle.std.specs.Float.Ieee.{le, eq}
use Rattle.number.specs.Ops.{dec}
use Rattle.vector.specs.declared.DVec3.{DVec3}
use Rattle.state.specs.State.{state_ok}
use Rattle.state.specs.declared.BallState.{BallState}
use Rattle.state.specs.declared.Phase.{Phase}
use Rattle.state.specs.declared.Phase.TheVariants.{Hop as InHop}
use Rattle.surface.specs.declared.GroundSample.{GroundSample}
use Rattle.search.proofs.Evaluations.{Counts, every_at_most_200}
use Rattle.search.specs.declared.Bracket.{Bracket}
use Rattle.look.specs.Rect.{spot_ok}
use Rattle.look.proofs.Resume.{steps as steps_of, steps_bind}
use Rattle.look.specs.Tree.{Made as Step, Oracle, run, bind, answer}
use Rattle.course.specs.Sheet.{course_of}
use Rattle.records.specs.Records.{Put, full, put, pushed}
use Rattle.tally.specs.Times.{is_late}
use Rattle.tally.specs.Language.{tested, point, contact, M, Log, Outcome, goes, stops, Ran, onward, ◌>>=◌, pure, stop_with, when, look, test}
use Rattle.std.specs.Prelude.{if◌then◌else◌}
use Rattle.tally.specs.Language.{count_evaluation, evaluate, seen_at, point_of, contact_of, put_point, push_point, push_contact, mark, truncate, make_step}
use Rattle.tally.specs.Language.{steps_left, in_m, loop, Pass, again, over}
use Rattle.tally.specs.declared.Conditions.{Conditions}
use Rattle.shot.specs.declared.Shot.{Shot}
use Rattle.arrival.specs.declared.Arc.{Arc}
use Rattle.arrival.specs.Arrival.{clearance, clearance_at, sub_step, crossing_from, first_crossing, end_value, crossing_time, hop_arrival}
use Rattle.hop.specs.Hop.{Air, air_of, flight, hop_next, hop_step, hop_from, hop}
use Rattle.hop.specs.declared.Flight.{Flight}
use Rattle.hop.specs.declared.Way.{Way}
use Rattle.hop.specs.declared.Way.TheVariants.{Arrived, Late}
use Rattle.roll.specs.Roll.{roll_from, held_of, ground_step}
use Rattle.roll.specs.declared.Roll.{Roll}
use Rattle.roll.specs.declared.Ending.{Ending}
use Rattle.ground_phase.specs.GroundPhase.{last_phase, time_up, ground_from, ground}
use Rattle.strike.specs.Strike.{strike, rebounds, dies_out, fly_by, fly, drop}
use Rattle.strike.specs.declared.Struck.{Struck}
use Rattle.train.specs.Train.{last_impact, to_ground, train_from_by, train_from, train}
use Rattle.ground.specs.Tests.{refusal_of}
use Rattle.ground.specs.Settle.{conditions_of, first_log, run_of}
use Rattle.promises.specs.Promises.{got}
use Rattle.promises.proofs.Promises.{steps_made}
use Rattle.promises.specs.Passes.{Made, in_air, on_ground, none as nothing, followed, after, loop_passes, hop_passes, ground_passes, fly_passes}
use Rattle.promises.specs.Passes.{to_ground_passes}
use Rattle.promises.specs.Passes.{train_passes, passes_of}

module _ (o : Oracle) where
  -- a part that makes n steps, from every log
  abbrev Makes : {A : Type 0} → ℕ → M A → Type 0
  Makes n m = (l : Log) → steps_of o (m l) ≡ n

  makes_pure : {A : Type 0} (a : A) → Makes 0 (pure a)
  unfolding steps_of
  makes_pure a l = refl

  -- one part after another
  module _ {A B : Type 0} (m : M A) (k : A → M B) where
    in_turn : (j : ℕ) (f : Outcome A → Log → ℕ) → ((r : Outcome A) (l : Log) → steps_of o (onward k r l) ≡ f r l) → (l : Log) → steps_of o (m l) ≡ j
        → steps_of o ((m >>= k) l) ≡ j + f (run o (m l)).outcome (run o (m l)).log
    unfolding ◌>>=◌
    in_turn j f h l e =
        steps_bind o (m l) (λ (r : Ran A). onward k r.outcome r.log) ∙ ap
        (λ (n : ℕ). n + steps_of o (onward k (run o (m l)).outcome (run o (m l)).log)) e
        ∙ ap (λ (n : ℕ). j + n) (h (run o (m l)).outcome (run o (m l)).log)

    -- the rest makes none
    then_still : ((a : A) → Makes 0 (k a)) → (l : Log) → steps_of o ((m >>= k) l) ≡ steps_of o (m l)
    unfolding steps_of
    then_still g l = in_turn (steps_of o (m l)) (λ _ _. 0) still l refl ∙ add-zero _
      where
        still : (r : Outcome A) (l : Log) → steps_of o (onward k r l) ≡ 0
        still (goes a) l = g a l
        still (stops i) l = refl

    makes_then : (n : ℕ) → Makes n m → ((a : A) → Makes 0 (k a)) → Makes n (m >>= k)
    makes_then n h g l = then_still g l ∙ h l

    -- the rest makes as many as are listed
    listed_then : (j : ℕ) (f : A → Log → List Made) → ((a : A) (l : Log) → steps_of o (k a l) ≡ length (f a l)) → (l : Log) → steps_of o (m l) ≡ j
        → steps_of o ((m >>= k) l) ≡ j + length (after o m f l)
    unfolding steps_of
    listed_then j f h l e = in_turn j (λ r l. length (followed o f r l)) each l e
      where
        each : (r : Outcome A) (l : Log) → steps_of o (onward k r l) ≡ length (followed o f r l)
        each (goes a) l = h a l
        each (stops i) l = refl

  makes_if : {A : Type 0} (n : ℕ) (m m' : M A) (b : Bool) → Makes n m → Makes n m' → Makes n (if b then m else m')
  makes_if n m m' true h h' = h
  makes_if n m m' false h h' = h'

  -- ---- the words: only make_step makes one
  makes_look : (x z : Float) → Makes 0 (look x z)
  unfolding look bind steps_of
  makes_look x z l = go (spot_ok x z)
    where
      go : (b : Bool) → steps_of o (seen_at (answer b (o x z)) l) ≡ 0
      go true = refl
      go false = refl

  makes_test : (b : BallState) → Makes 0 (test b)
  unfolding test steps_of
  makes_test b l = go (state_ok b)
    where
      go : (t : Bool) → steps_of o ((if t then pure b (tested b l) else stop_with 22 l)) ≡ 0
      go true = refl
      go false = refl

  makes_count : (s : Step) → Makes 1 (make_step s)
  unfolding make_step steps_of
  makes_count s l = refl

  makes_when : (b : Bool) (m : M Unit) → Makes 0 m → Makes 0 (when b m)
  unfolding when
  makes_when b m h = makes_if 0 m (pure tt) b h (makes_pure tt)

  makes_put : (b : BallState) (f : Phase) (y : Float) → Makes 0 (put_point b f y)
  unfolding put_point steps_of
  makes_put b f y l = go (pushed l.points.room l.points.records (point_of b f y))
    where
      go : (p : Put) → steps_of o (point p l) ≡ 0
      go full = refl
      go (put rs) = refl

  makes_point : (b : BallState) (f : Phase) → Makes 0 (push_point b f)
  unfolding push_point
  makes_point b f = makes_then (look _ _) _ 0 (makes_look _ _) (λ g. makes_put b f g.height)

  makes_contact : (a : BallState) (g : GroundSample) (b : BallState) → Makes 0 (push_contact a g b)
  unfolding push_contact steps_of
  makes_contact a g b l = go (pushed l.contacts.room l.contacts.records (contact_of a g b))
    where
      go : (p : Put) → steps_of o (contact p l) ≡ 0
      go full = refl
      go (put rs) = refl

  makes_mark : Makes 0 mark
  unfolding mark steps_of
  makes_mark l = refl

  makes_truncate : (n : ℕ) → Makes 0 (truncate n)
  unfolding truncate steps_of
  makes_truncate n l = refl

  -- ---- a hop's step makes one: all that looks for the arrival makes none
  makes_clearance : (p : DVec3) → Makes 0 (clearance p)
  unfolding clearance
  makes_clearance p = makes_then (look _ _) _ 0 (makes_look _ _) (λ s. makes_pure _)

  makes_clearance_at : (arc : Arc) (tau : Float) → Makes 0 (clearance_at arc tau)
  unfolding clearance_at
  makes_clearance_at arc tau = makes_clearance _

  makes_evaluate : (arc : Arc) (tau : Float) → Makes 0 (evaluate (clearance_at arc) tau)
  unfolding count_evaluation
  makes_evaluate arc tau = makes_then count_evaluation _ 0 (λ l. makes_pure tt _) (λ _. makes_clearance_at arc tau)

  -- a count of steps for the search: none in an evaluation, so none in all
  abbrev none_made : Counts in_m
  none_made = record { at_most = λ n m. Makes 0 m; of_pure = λ n a. makes_pure a; of_bind = λ n x k h g. makes_then x k 0 h g }

  module _ (f : Float → M Float) (h : (x : Float) → Makes 0 (f x)) (len f_end : Float) where
    makes_sub_step : (i : ℕ) (b : Bracket) → Makes 0 (sub_step f len f_end i b)
    unfolding sub_step
    makes_sub_step i b = makes_if 0 _ _ (eqb i 8) (makes_pure _) (makes_then (f _) _ 0 (h _) (λ x. makes_pure _))

    makes_crossing : (n i : ℕ) (b : Bracket) → Makes 0 (crossing_from f len f_end n i b)
    unfolding crossing_from
    makes_crossing zero i b = makes_pure None
    makes_crossing (suc n) i b =
        makes_then (sub_step f len f_end i b) _ 0 (makes_sub_step i b)
        (λ x. makes_if 0 _ _ (le x.f_hi (dec 0 1)) (makes_pure _) (makes_crossing n (i + 1) x))

  makes_end_value : (arc : Arc) (b : Bracket) → Makes 0 (end_value arc b)
  unfolding end_value
  makes_end_value arc b =
      makes_if 0 _ _ (eq b.hi arc.h) (makes_then (clearance_at arc arc.h) _ 0 (makes_clearance_at arc _) (λ x. makes_pure _)) (makes_pure _)

  makes_crossing_time : (arc : Arc) (b : Bracket) → Makes 0 (crossing_time arc b)
  unfolding crossing_time
  makes_crossing_time arc b =
      makes_then (end_value arc b) _ 0 (makes_end_value arc b) (λ x. makes_then (look _ _) _ 0 (makes_look _ _) (λ s.
      every_at_most_200 none_made (evaluate (clearance_at arc)) (makes_evaluate arc) _ _))

  makes_hop_arrival : (arc : Arc) (t end : Float) (spin : DVec3) → Makes 0 (hop_arrival arc t end spin)
  unfolding hop_arrival first_crossing
  makes_hop_arrival arc t end spin =
      makes_then (clearance_at arc (dec 0 1)) _ 0 (makes_clearance_at arc _)
      (λ f0. makes_then (crossing_from (clearance_at arc) arc.h end 8 1 _) _ 0 (makes_crossing (clearance_at arc) (makes_clearance_at arc) arc.h end 8 1 _)
      (elim [
        | None ↦ makes_pure None
        | Some b ↦ makes_then (crossing_time arc b) _ 0 (makes_crossing_time arc b) (λ tau. makes_then (look _ _) _ 0 (makes_look _ _) (λ s. makes_pure _))
      ]))

  makes_hop_next : (f : Flight) (b : BallState) (a : Option BallState) → Makes 0 (hop_next f b a)
  unfolding hop_next
  makes_hop_next f b None = makes_then (when _ _) _ 0 (makes_when _ _ (makes_point b _)) (λ _. makes_pure _)
  makes_hop_next f b (Some s) = makes_then (test s) _ 0 (makes_test s) (λ x. makes_pure _)

  makes_hop_step : (c : Conditions) (air : Air) (f : Flight) → Makes 1 (hop_step c air f)
  unfolding hop_step
  makes_hop_step c air f =
      makes_then (make_step _) _ 1 (makes_count _) (λ s. makes_then (test _) _ 0 (makes_test _) (λ b. makes_then (clearance _) _ 0 (makes_clearance _) (λ end.
      makes_then (hop_arrival _ _ _ _) _ 0 (makes_hop_arrival _ _ _ _) (makes_hop_next f b))))

  -- ---- so does a step of the ground
  makes_ground_step : (c : Conditions) (g : Roll) → Makes 1 (ground_step c g)
  unfolding ground_step
  makes_ground_step c g =
      makes_then (make_step _) _ 1 (makes_count _) (λ s. makes_then (when _ _) _ 0 (makes_when _ _ (makes_point _ _))
      (λ _. makes_then (look _ _) _ 0 (makes_look _ _) (λ under.
      makes_then (test _) _ 0 (makes_test _) (λ b. makes_if 0 _ _ (not (held_of s.phase s.to under)) (makes_pure _)
      (makes_then (push_point _ _) _ 0 (makes_point b _) (λ _. makes_pure _))))))

  makes_time_up : (s : BallState) (phase : Phase) → Makes 0 (time_up s phase)
  unfolding time_up
  makes_time_up s phase = makes_then (push_point s phase) _ 0 (makes_point s phase) (λ _. makes_pure _)

  -- ---- a loop makes as many as its passes
  abbrev Listed : {A : Type 0} → M A → (Log → List Made) → Type 0
  Listed m f = (l : Log) → steps_of o (m l) ≡ length (f l)

  if_listed : {B : Type 0} (b : Bool) (m m' : M B) (f f' : Log → List Made) → Listed m f → Listed m' f' → Listed (if b then m else m') (if b then f else f')
  if_listed true m m' f f' p q = p
  if_listed false m m' f f' p q = q

  -- a part that makes no step, and what follows
  listed_after : {A B : Type 0} (m : M A) (k : A → M B) (f : A → Log → List Made) → Makes 0 m → ((a : A) → Listed (k a) (f a))
      → Listed (m >>= k) (after o m f)
  listed_after m k f h g l = listed_then m k 0 f g l (h l) ∙ zero-add _

  one_more : (m : Made) (x : List Made) → 1 + length x ≡ length (m ∷ x)
  one_more m x = omega arith

  one_pass : {A B : Type 0} (b : Bool) (end : M B) (pass : M A) (k : A → M B) (f : A → Log → List Made) (m : Made) → Makes 0 end → Makes 1 pass
      → ((a : A) → Listed (k a) (f a))
      → Listed (if b then end else (pass >>= k)) (λ l. if b then [] else m ∷ after o pass f l)
  one_pass true end pass k f m e p h = e
  one_pass false end pass k f m e p h = λ l. listed_then pass k 1 f h l (p l) ∙ one_more m (after o pass f l)

  module _ {A B : Type 0} (late : A → Bool) (at_end : A → M B) (pass : A → M (Pass A B)) (made : A → Made) (e : (a : A) → Makes 0 (at_end a))
      (p : (a : A) → Makes 1 (pass a)) where
    listed_next : (n : ℕ) → ((b : A) → Listed (loop n late at_end pass b) (loop_passes o late pass made n b)) → (x : Pass A B)
        → Listed {A = B} (elim x [ again b ↦ loop n late at_end pass b | over r ↦ pure r ])
        (elim x [ again b ↦ loop_passes o late pass made n b | over r ↦ nothing ])
    listed_next n h (again b) = h b
    listed_next n h (over r) = makes_pure r

    listed_loop : (n : ℕ) (a : A) → Listed (loop n late at_end pass a) (loop_passes o late pass made n a)
    unfolding loop loop_passes steps_of
    listed_loop zero a = makes_if 0 (at_end a) (stop_with 23) (late a) (e a) (λ m. refl)
    listed_loop (suc n) a = one_pass (late a) (at_end a) (pass a) _ _ (made a) (e a) (p a) (listed_next n (listed_loop n))

  -- ---- the run
  module _ (c : Conditions) where
    listed_hop : (start : BallState) → Listed (hop c start) (hop_passes o c start)
    unfolding hop hop_from hop_passes steps_left ◌>>=◌ bind
    listed_hop start l =
        let air = air_of c start.spin in
        listed_loop (λ (f : Flight). is_late f.state.time c.t_end) (λ f. pure (Late f.state)) (hop_step c air) (in_air air) (λ f. makes_pure _)
        (makes_hop_step c air)
        (c.step_limit - l.steps) (flight start _) l

    listed_ground : (state : BallState) (s : GroundSample) → Listed (ground c state s) (ground_passes o c state s)
    unfolding ground ground_from ground_passes steps_left ◌>>=◌ bind
    listed_ground state s l =
        listed_loop (λ (g : Roll). is_late g.state.time c.t_end) (λ g. time_up g.state (last_phase g.last)) (ground_step c) on_ground
        (λ g. makes_time_up _ _) (makes_ground_step c)
        (c.step_limit - l.steps) (roll_from state s) l

    -- what follows a hop makes none
    makes_kept : (state : BallState) (hit : Struck) (m : ℕ) (w : Way) → Makes {A = Option Way} 0 (elim w [
      | Late b ↦ pure (Some (Late b))
      | Arrived b ↦ if dies_out c state hit b then pure (Some (Arrived b)) else (truncate m >>= λ _. pure None)
    ])
    makes_kept state hit m (Late b) = makes_pure _
    makes_kept state hit m (Arrived b) =
        makes_if 0 _ _ (dies_out c state hit b) (makes_pure _) (makes_then (truncate m) _ 0 (makes_truncate m) (λ _. makes_pure _))

    listed_fly : (hops : Bool) (state : BallState) (hit : Struck) → Listed (fly c hops state hit) (fly_passes o c hops hit)
    unfolding fly_by fly_passes
    listed_fly hops state hit =
        if_listed (not hops) (pure None) _ nothing _ (makes_pure None)
        (listed_after mark _ _ makes_mark (λ m. listed_after (push_point hit.out InHop) _ (λ _. hop_passes o c hit.out) (makes_point _ _)
        (λ _ l. then_still (hop c hit.out) _ (makes_kept state hit m) l ∙ listed_hop hit.out l)))

    makes_strike : (state : BallState) → Makes 0 (strike c state)
    unfolding strike
    makes_strike state = makes_then (look _ _) _ 0 (makes_look _ _) (λ s. makes_then (test _) _ 0 (makes_test _) (λ out. makes_pure _))

    makes_drop : (state : BallState) (hit : Struck) → Makes 0 (drop c state hit)
    unfolding drop
    makes_drop state hit = makes_then (test _) _ 0 (makes_test _) (λ leave. makes_then (push_contact _ _ _) _ 0 (makes_contact _ _ _) (λ _. makes_pure _))

    makes_last : (state : BallState) (hit : Struck) → Makes 0 (last_impact state hit)
    unfolding last_impact
    makes_last state hit =
        makes_then (push_contact _ _ _) _ 0 (makes_contact _ _ _) (λ _. makes_then (push_point _ _) _ 0 (makes_point _ _) (λ _. makes_pure _))

    listed_to_ground : (state : BallState) (hit : Struck) → Listed (to_ground c state hit) (to_ground_passes o c state hit)
    unfolding to_ground to_ground_passes
    listed_to_ground state hit = listed_after (drop c state hit) _ _ (makes_drop state hit) (λ leave. listed_ground leave hit.«at»)

    -- what follows a hop that is kept
    listed_way : (n : ℕ) → ((b : BallState) → Listed (train_from c n b) (train_passes o c n b)) → (w : Way)
        → Listed {A = Ending} (elim w [ Arrived b ↦ train_from c n b | Late b ↦ time_up b InHop ])
        (elim w [ Arrived b ↦ train_passes o c n b | Late b ↦ nothing ])
    listed_way n h (Arrived b) = h b
    listed_way n h (Late b) = makes_time_up b InHop

    -- what follows a rebound
    listed_flown : (n : ℕ) → ((b : BallState) → Listed (train_from c n b) (train_passes o c n b)) → (state : BallState) (hit : Struck) (x : Option Way)
        → Listed {A = Ending} (elim x [
          | None ↦ to_ground c state hit
          | Some way ↦ push_contact state hit.«at» hit.out >>= λ _. elim way [ Arrived b ↦ train_from c n b | Late b ↦ time_up b InHop ]
        ]) (elim x [
          | None ↦ to_ground_passes o c state hit
          | Some way ↦ after o (push_contact state hit.«at» hit.out) (λ _. elim way [ Arrived b ↦ train_passes o c n b | Late b ↦ nothing ])
        ])
    listed_flown n h state hit (Some w) = listed_after (push_contact state hit.«at» hit.out) _ _ (makes_contact _ _ _) (λ _. listed_way n h w)
    listed_flown n h state hit None = listed_to_ground state hit

    listed_train : (n : ℕ) (state : BallState) → Listed (train_from c n state) (train_passes o c n state)
    unfolding train_from_by train_passes
    listed_train zero state =
        listed_after (strike c state) _ _ (makes_strike state) (λ hit.
        if_listed (not (rebounds c hit)) (to_ground c state hit) (last_impact state hit) (to_ground_passes o c state hit) nothing (listed_to_ground state hit)
        (makes_last state hit))
    listed_train (suc n) state =
        listed_after (strike c state) _ _ (makes_strike state) (λ hit l.
        listed_then (fly c (rebounds c hit) state hit) _ (length (fly_passes o c (rebounds c hit) hit l)) _ (listed_flown n (listed_train n) state hit) l
        (listed_fly (rebounds c hit) state hit l)
        ∙ sym (length-append (fly_passes o c (rebounds c hit) hit l) _))

module _ (sheet : List ℕ) (shot : Shot) (cs ps : List Float) where
  -- 01: "one step is one pass"; the count of an accepted settle is that of the passes listed
  pub passes_counted : refusal_of sheet shot (length cs) (length ps) ≡ 0
      → (got sheet shot cs ps).settled.steps ≡ length (passes_of sheet shot (length cs) (length ps))
  unfolding run_of train passes_of conditions_of
  passes_counted h =
      steps_made sheet shot cs ps h
      ∙ listed_train (course_of sheet) (conditions_of shot) (shot.physics.max_impacts - 1) shot.landing (first_log shot.landing (length cs) (length ps))
