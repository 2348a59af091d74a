-- Lemmas. One pass, from any state that passes test 22 at a time that is a double, under conditions as 01 accepts them, keeps to its brackets.
use Rattle.std.specs.Prelude.{◌≡◌, Bool, true, false, not, cond, ◌&&◌, Float, Option, Some, None}
use Rattle.std.proofs.Math.Path.{refl}
use Rattle.std.proofs.Common.{sym, subst}
use Rattle.std.proofs.Math.Dec.{T}
use Rattle.std.specs.Float.Ieee.{binary64, fits, round, sub, lt, le, eq, add}
use Rattle.std.specs.Float.Ieee.Fits.{add-fits, and_l}
use Rattle.number.specs.Ops.{◌⊖◌, dec, ◌⊕◌}
use Rattle.number.specs.Number.{min_of, finite_of, within_of}
use Rattle.number.specs.Order.{nle-lt, lt-le, lt-le_trans, le_self, le_through, within_lo, between_finite, within_hi}
use Rattle.number.specs.Rounding.{sub_mono, add_mono}
use Rattle.number.specs.Against0.{not_below, Onward, onward_le, sub_shrinks, StepLength, step_length, lt_through}
use Rattle.vector.specs.declared.DVec3.{DVec3}
use Rattle.vector.specs.Vec.{same_vec}
use Rattle.state.specs.declared.BallState.{BallState}
use Rattle.state.specs.State.{state_ok}
use Rattle.surface.specs.declared.GroundSample.{GroundSample}
use Rattle.aero.specs.Aero.{radius_of}
use Rattle.search.proofs.Evaluations.{largest}
use Rattle.slide.specs.RootSearch.{slide_time_within}
use Rattle.rolling.specs.Times.{contact_step_onward}
use Rattle.contact.specs.Contact.{onto_of}
use Rattle.look.specs.Tree.{Made}
use Rattle.tally.specs.Times.{time_eps, has_come, is_late}
use Rattle.tally.specs.Language.{M, ◌>>=◌, when, look, test, push_point, make_step, Pass, again, over}
use Rattle.std.specs.Prelude.{if◌then◌else◌}
use Rattle.tally.specs.declared.Conditions.{Conditions}
use Rattle.arrival.specs.declared.Arc.{Arc}
use Rattle.arrival.specs.Arrival.{clearance, hop_arrival}
use Rattle.tally.proofs.Triple.{t_bind, t_test, t_step, t_made}
use Rattle.arrival.specs.RootSearch.{at_most_200_looks, Gives, gives_pure, gives_then, gives_bind}
use Rattle.arrival.proofs.FirstCrossing.{IfSome}
use Rattle.arrival.proofs.Evaluations.{arrival_at_most_200}
use Rattle.arrival.proofs.ArrivalTime.{ArrivesIn, arrival_within}
use Rattle.hop.specs.Hop.{Air, flight, step_arc, step_end, hop_next, hop_step}
use Rattle.hop.specs.declared.Flight.{Flight}
use Rattle.hop.specs.declared.Way.{Way}
use Rattle.hop.specs.declared.Way.TheVariants.{Arrived}
use Rattle.roll.specs.Roll.{step_on, held_of, put_down, ground_step}
use Rattle.roll.specs.Evaluations.{pass_at_most_200}
use Rattle.roll.specs.declared.Roll.{Roll}
use Rattle.roll.specs.declared.Ending.{Ending}
use Rattle.promises.proofs.Finite.{state_finite}
use Rattle.promises.specs.Bracketed.{Timed, Later, HopLeads, GroundLeads, HopBracket, GroundBracket}
use Rattle.shot.specs.declared.Shot.{Shot}
use Rattle.shot.specs.declared.GroundPhysics.{GroundPhysics}
use Rattle.shot.specs.Tests.{step_physics_ok, physics_ok, vec_about, landing_ok}
use Rattle.ground.specs.Settle.{conditions_of}

-- what a pass asks of its conditions; 01, 4 and 7 grant it (`accepted-paced`)
pub record Paced (c : Conditions) : Type 0 where
  pub dt_double : T (fits binary64 c.physics.dt)
  pub dt_above_0 : T (lt (dec 0 1) c.physics.dt)
  pub dt_at_most : T (le c.physics.dt largest)
  pub end_double : T (fits binary64 c.t_end)
  pub end_from_0 : T (le (dec 0 1) c.t_end)
  pub end_finite : T (finite_of c.t_end)

pub either : {A : Type 0} (P : A → Type 0) (b : Bool) {x y : A} → P x → P y → P (if b then x else y)
either P true p q = p
either P false p q = q

-- a state is tested, and what follows goes on with it where it passes
pub given_test : {B : Type 0} (P : B → Type 0) (b : BallState) (k : BallState → M B) → (state_ok b ≡ true → Gives P (k b)) → Gives P (test b >>= k)
given_test P b k h o =
    t_bind {Q = λ x _. (x ≡ b) × (state_ok b ≡ true)} (t_test b (λ w _ e. (refl, e)) (λ w _ _. tt)) (λ a. record { all = λ w q. rw q.0 ((h q.1 o).all w tt) })

-- a step is made, and what follows goes on with what it made
pub given_made : {B : Type 0} (P : B → Type 0) (s : Made) (k : Made → M B) → Gives P (k s) → Gives P (make_step s >>= k)
given_made P s k h o = t_made s k (t_step s (λ w _. tt)) (h o)

pub time_either : (b : Bool) (x y : BallState) (t : Float) → x.time ≡ t → y.time ≡ t → (cond b x y).time ≡ t
time_either true x y t p q = p
time_either false x y t p q = q

onto_time : (state : BallState) (at : GroundSample) (prev : DVec3) (rolling : Bool) (radius : Float) → (onto_of state at prev rolling radius).time ≡ state.time
unfolding onto_of
onto_time state at prev rolling radius = time_either (same_vec at.normal prev && eq state.pos.y at.height) _ _ state.time refl refl

module _ (c : Conditions) (paced : Paced c) where
  0-finite : T (finite_of (dec 0 1))
  0-finite = unfold round in tt

  dt_finite : T (finite_of c.physics.dt)
  dt_finite =
      between_finite (dec 0 1) largest c.physics.dt 0-finite (unfold round in tt) (lt-le (dec 0 1) c.physics.dt paced.dt_above_0)
      paced.dt_at_most

  module _ (s : BallState) (timed : Timed s) (due : is_late s.time c.t_end ≡ false) where
    abbrev h : Float
    h = min_of c.physics.dt (c.t_end ⊖ s.time)

    t_finite : T (finite_of s.time)
    t_finite = (state_finite s timed.ok).time

    not_late : T (lt s.time c.t_end)
    unfolding has_come
    not_late =
        let x = c.t_end ⊖ time_eps in
        let e : T (finite_of time_eps) = unfold round in tt in
        let a = sub_shrinks c.t_end time_eps paced.end_double paced.end_finite e (unfold round in unfold le in tt) in
        let b = sub_mono (dec 0 1) c.t_end time_eps time_eps 0-finite paced.end_finite e e paced.end_from_0 (le_self time_eps e) in
        let f = between_finite (dec 0 1 ⊖ time_eps) c.t_end x (unfold sub in unfold round in tt) paced.end_finite b a in
        lt-le_trans s.time x c.t_end t_finite f paced.end_finite (nle-lt x s.time f t_finite (subst (λ (b : Bool). T (not b)) (sym due) tt)) a

    due_step : StepLength c.physics.dt h
    due_step =
        step_length c.physics.dt s.time c.t_end paced.dt_double dt_finite paced.dt_above_0 timed.double t_finite paced.end_double
        paced.end_finite not_late

    h_at_most : T (le h largest)
    h_at_most = le_through h c.physics.dt largest due_step.at_most paced.dt_at_most

    later : (b : BallState) → Onward s.time b.time → state_ok b ≡ true → Later s.time b
    later b w ok =
        record {
          timed = record { ok = ok; double = rw w.is (add-fits binary64 s.time w.by) };
          later = onward_le s.time b.time timed.double t_finite (state_finite b ok).time w;
        }

  -- ---- a hop's

  module _ (air : Air) (f : Flight) (timed : Timed f.state) (due : is_late f.state.time c.t_end ≡ false) where
    abbrev arc : Arc
    arc = step_arc c air.aero f.state

    abbrev t : Float
    t = f.state.time

    abbrev Leads : Pass Flight Way → Type 0
    Leads = HopLeads (Later t)

    hop_step_lem : StepLength c.physics.dt arc.h × T (le arc.h largest)
    unfolding step_arc
    hop_step_lem = (due_step f.state timed due, h_at_most f.state timed due)

    arrives : (end : Float) → Gives (IfSome (ArrivesIn t arc.h)) (hop_arrival arc t end f.state.spin)
    arrives end = arrival_within arc t end f.state.spin hop_step_lem.0.double hop_step_lem.0.above_0 hop_step_lem.1

    next_leads : (b : BallState) → Later t b → (a : Option BallState) → IfSome (ArrivesIn t arc.h) a → Gives Leads (hop_next f b a)
    unfolding hop_next
    next_leads b w None u = gives_bind Leads (when _ _) _ (λ _. gives_pure Leads (again (flight b _)) w)
    next_leads b w (Some s) u =
        let tau = u.tau in
        given_test Leads s _ (λ ok. gives_pure Leads (over (Arrived s))
        (later f.state timed due s (record { by = tau; forth = not_below tau (within_lo (dec 0 1) arc.h tau u.within); is = u.is }) ok))

    hop_leads : Gives Leads (hop_step c air f)
    unfolding hop_step step_end
    hop_leads =
        given_made Leads _ _ (given_test Leads (step_end air.after arc f.state) _ (λ ok. gives_bind Leads (clearance _) _ (λ end.
        gives_then (IfSome (ArrivesIn t arc.h)) Leads (hop_arrival arc t end f.state.spin) _
        (next_leads (step_end air.after arc f.state)
        (later f.state timed due (step_end air.after arc f.state)
        (record { by = arc.h; forth = not_below arc.h (lt-le (dec 0 1) arc.h hop_step_lem.0.above_0); is = refl }) ok)) (arrives end))))

    pub hop_pass : HopBracket c air f
    hop_pass = record {
      step = hop_step_lem.0;
      arrival = arrives;
      looks = at_most_200_looks arc;
      evaluations = λ end. arrival_at_most_200 arc t end f.state.spin;
      onward = hop_leads;
    }

  -- ---- the ground's

  module _ (g : Roll) (timed : Timed g.state) (due : is_late g.state.time c.t_end ≡ false) where
    abbrev Leads' : Pass Roll Ending → Type 0
    Leads' = GroundLeads (Later g.state.time)

    abbrev from_0 : T (le (dec 0 1) (h g.state timed due))
    from_0 = lt-le (dec 0 1) (h g.state timed due) (due_step g.state timed due).above_0

    put_down_lem : (under : GroundSample) → Onward g.state.time (put_down c g (step_on c g).state (step_on c g).rolling under).time
    unfolding put_down step_on
    put_down_lem under =
        rw (onto_time (step_on c g).state under g.«at».normal (step_on c g).rolling (radius_of c.ball))
        (contact_step_onward g.state g.«at» c.ball (h g.state timed due) c.physics.stop_speed c.physics.roll_threshold
        (due_step g.state timed due).double from_0 (h_at_most g.state timed due))

    ground_leads : Gives Leads' (ground_step c g)
    unfolding ground_step
    ground_leads =
        given_made Leads' _ _ (gives_bind Leads' (when _ _) _ (λ _. gives_bind Leads' (look _ _) _ (λ under.
        given_test Leads' (put_down c g (step_on c g).state (step_on c g).rolling under) _ (λ ok.
        let w = later g.state timed due (put_down c g (step_on c g).state (step_on c g).rolling under) (put_down_lem under) ok in
        either (Gives Leads') (not (held_of (step_on c g).phase (step_on c g).state under)) (gives_pure Leads' (again _) w)
        (gives_bind Leads' (push_point _ _) _ (λ _. gives_pure Leads' (over _) w))))))

    pub ground_pass : GroundBracket c g
    ground_pass =
        record {
          step = due_step g.state timed due;
          slide = λ q s₀ threshold s_full. slide_time_within q (h g.state timed due) s₀ threshold s_full
              (due_step g.state timed due).double from_0 (h_at_most g.state timed due);
          evaluations = pass_at_most_200 c g;
          onward = ground_leads;
        }

-- ---- the conditions of an accepted call

of_six : (a b c d e f : Bool) → T (a && b && c && d && e && f) → T a × T c
of_six true true true d e f h = (tt, tt)
of_six true true false d e f h = absurd h
of_six true false c d e f h = absurd h
of_six false b c d e f h = absurd h

pub holds : {b : Bool} → b ≡ true → T b
holds h = rw h tt

-- t_end, by its parts
sum_within : (x y : Float) → T (within_of (dec 0 1) (dec 100000 1) x) → T (within_of (dec 0 1) (dec 600 1) y) → T (le (dec 0 1) (x ⊕ y)) × T (finite_of (x ⊕ y))
sum_within x y h k =
    let zero : T (finite_of (dec 0 1)) = unfold round in tt in
    let hx = within_hi (dec 0 1) (dec 100000 1) x h in
    let hy = within_hi (dec 0 1) (dec 600 1) y k in
    let lx = within_lo (dec 0 1) (dec 100000 1) x h in
    let ly = within_lo (dec 0 1) (dec 600 1) y k in
    let fx = between_finite (dec 0 1) (dec 100000 1) x zero (unfold round in tt) lx hx in
    let fy = between_finite (dec 0 1) (dec 600 1) y zero (unfold round in tt) ly hy in
    let lo = add_mono (dec 0 1) x (dec 0 1) y zero fx zero fy lx ly in
    let hi = add_mono x (dec 100000 1) y (dec 600 1) fx (unfold round in tt) fy (unfold round in tt) hx hy in (
      le_through (dec 0 1) (dec 0 1 ⊕ dec 0 1) (x ⊕ y) (unfold add in unfold round in unfold le in tt) lo,
      between_finite (dec 0 1 ⊕ dec 0 1) (dec 100000 1 ⊕ dec 600 1) (x ⊕ y) (unfold add in unfold round in tt) (unfold add in unfold round in tt) lo hi,
    )

module _ (shot : Shot) where
  abbrev p : GroundPhysics
  p = shot.physics

  abbrev landing : BallState
  landing = shot.landing

  -- 01, 4: "dt 0.0001..0.01 .. max_time 0..600"; 7: "time 0..100,000"
  pub accepted_paced : physics_ok p shot.step_limit ≡ true → landing_ok landing ≡ true → T (fits binary64 p.dt) → Paced (conditions_of shot)
  unfolding conditions_of physics_ok step_physics_ok landing_ok
  accepted_paced h k f =
      let dt = within_of (dec 1 10000) (dec 1 100) p.dt in
      let stop = within_of (dec 0 1) (dec 1 1) p.stop_speed in
      let time = within_of (dec 0 1) (dec 100000 1) landing.time in
      let pos = vec_about (dec 100000 1) landing.pos in
      let vel = vec_about (dec 200 1) landing.vel in
      let a = of_six (step_physics_ok p.dt p.stop_speed p.roll_threshold) _ (within_of (dec 0 1) (dec 600 1) p.max_time) _ _ _ (holds h) in
      let d = and_l dt stop (and_l (dt && stop) (within_of (dec 0 1) (dec 1 1) p.roll_threshold) a.0) in
      let t = and_l time pos (and_l (time && pos) vel (and_l (time && pos && vel) (vec_about (dec 5000 1) landing.spin) (holds k))) in
      let lo : T (le (dec 1 10000) p.dt) = within_lo (dec 1 10000) (dec 1 100) p.dt d in
      let hi : T (le p.dt (dec 1 100)) = within_hi (dec 1 10000) (dec 1 100) p.dt d in
      let e = sum_within landing.time p.max_time t a.1 in
      record {
        dt_double = f;
        dt_above_0 = lt_through (dec 0 1) (dec 1 10000) p.dt (unfold round in tt) (unfold round in tt) (unfold round in unfold lt in tt) lo;
        dt_at_most = le_through p.dt (dec 1 100) largest hi (unfold round in unfold le in tt);
        end_double = add-fits binary64 landing.time p.max_time;
        end_from_0 = e.0;
        end_finite = e.1;
      }
