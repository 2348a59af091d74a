-- Lemmas. Each part of a settle, in the logic of Triple: what Keeps says of the words, said of what is made of them. Assumes nothing.
use Prim.Native.Nat.{ℕ, zero, suc, ◌+◌, ◌-◌, ◌≤◌}
use Rattle.std.proofs.Common.{arith, ◌∙◌}
use Rattle.std.specs.Prelude.{◌≡◌, Bool, true, false, not, ◌&&◌, cond, eqb, Float, Option, Some, None}
use Rattle.std.proofs.Math.Path.{refl, ap, sym}
use Rattle.std.specs.Float.{binary64}
use Rattle.std.specs.Float.Ieee.{le, eq, neg}
use Rattle.std.specs.Float.Ieee.Fits.{add-fits}
use Rattle.number.specs.Ops.{◌⊖◌, ◌⊗◌, dec}
use Rattle.state.specs.declared.BallState.{BallState}
use Rattle.surface.specs.declared.GroundSample.{GroundSample}
use Rattle.aero.specs.Aero.{radius_of, from_spin_vector}
use Rattle.aero.specs.declared.AeroParams.{AeroParams}
use Rattle.state.specs.declared.Phase.{Phase}
use Rattle.state.specs.declared.Phase.TheVariants.{Hop as InHop}
use Rattle.vector.specs.declared.DVec3.{DVec3}
use Rattle.look.specs.Rect.{spot_ok}
use Rattle.look.specs.Tree.{Oracle}
use Rattle.rk4.specs.Rk4.{weighted_in, step_of}
use Rattle.search.specs.Search.{root_from, find_root, after_step, narrowed, in_bracket}
use Rattle.search.specs.declared.Bracket.{Bracket}
use Rattle.search.specs.declared.Search.{Search}
use Rattle.std.specs.declared.ops.ControlFlow.{ControlFlow}
use Rattle.std.specs.declared.ops.ControlFlow.TheVariants.{Continue, Break}
use Rattle.tally.specs.Language.{M, in_m, look, push_contact, evaluate}
use Rattle.tally.specs.declared.Conditions.{Conditions}
use Rattle.arrival.specs.Arrival.{arc_of, clearance, clearance_at, sub_step, crossing_from, first_crossing, end_value, crossing_time, placed, hop_arrival}
use Rattle.arrival.proofs.FirstCrossing.{IfSome}
use Rattle.arrival.specs.declared.Arc.{Arc}
use Rattle.hop.specs.Hop.{spin_after, aero_for, air_of, step_arc, step_end, hop_next, hop_step, hop_from, hop}
use Rattle.hop.specs.declared.Flight.{Flight}
use Rattle.hop.specs.declared.Way.{Way}
use Rattle.hop.specs.declared.Way.TheVariants.{Arrived, Late}
use Rattle.vector.specs.Vec.{vadd, vsub, vscale, vdot, vlength, vnormalize, same_vec}
use Rattle.impact.specs.Impact.{effective_normal, impact_of, struck as hit_by}
use Rattle.contact.specs.Contact.{slip_of, onto_of}
use Rattle.aero.specs.declared.BallModel.{BallModel}
use Rattle.roll.specs.Roll.{ground_step, held_of, step_on, put_down}
use Rattle.roll.specs.declared.Roll.{Roll}
use Rattle.roll.specs.declared.Ending.{Ending}
use Rattle.ground_phase.specs.GroundPhase.{time_up, ground_from, ground}
use Rattle.strike.specs.Strike.{strike, rebounds, dies_out, fly_by, fly, dropped, drop}
use Rattle.strike.specs.declared.Struck.{Struck}
use Rattle.train.specs.Train.{last_impact, to_ground, train_from_by, train_from, train}
use Rattle.tally.proofs.Triple.{t_made, t_evaluation, evaluated_once, Past, OnWith, Triple, t_before, t_after, t_bind, t_then, t_fact, t_know, t_of, t_if}
use Rattle.tally.proofs.Triple.{t_pure, t_same, t_loop}
use Rattle.promises.specs.Terms.{Answer, SampleOf, Ok, OverDoubles, under, Placed, GivenBy, struck_at, arc_from, end_from, Grounded, at_once, after_hop_lem}
use Rattle.promises.specs.Terms.{impact, hop_step_lem, arrival, drop as dropping, ground_step_lem, on_path, below_step}
use Rattle.promises.specs.Keeps.{Setting, Keeps, At, Within, at_ok, at_frame, t_given}
use Rattle.promises.specs.Keeps.{over_doubles, a_look, a_look_own, a_evaluation, a_test, a_point_own, a_contact, a_mark, a_truncate, a_when, a_step}
use Rattle.promises.specs.Keeps.{a_left, a_limit}

-- ---- the drag and lift of a hop's steps, from step to step
own_self : (b : Bool) (w : DVec3) → aero_for b (from_spin_vector w) w ≡ from_spin_vector w
unfolding aero_for
own_self true w = refl
own_self false w = refl

own_kept : (b : Bool) (aero : AeroParams) (h : Float) (w : DVec3) → aero_for b aero w ≡ from_spin_vector w
    → aero_for b aero (spin_after b h w) ≡ from_spin_vector (spin_after b h w)
unfolding aero_for spin_after
own_kept true aero h w e = refl
own_kept false aero h w e = e

-- ---- where a hop meets the ground: looks alone. What every look keeps, this keeps

pub l_clearance : {o : Oracle} {P : Past → Type 0} {R : ℕ → Past → Type 0} (p : DVec3)
    → Triple o P (look p.x p.z) (λ s w. P w × (s ≡ o p.x p.z)) R
    → Triple o P (clearance p) (λ a w. P w × (a ≡ p.y ⊖ (o p.x p.z).height)) R
unfolding clearance
l_clearance p t = t_then t (λ s h. t_pure (λ w a. (a, rw h)))

-- an arrival, if there is one, is over doubles
abbrev pub Arrives : Option BallState → Type 0
Arrives None = Unit
Arrives (Some s) = OverDoubles s

-- a look on the arc, tau into its step
abbrev LooksOn : (o : Oracle) (P : Past → Type 0) (R : ℕ → Past → Type 0) → DVec3 → Type 0
LooksOn o P R p = Triple o P (look p.x p.z) (λ s w. P w × ((s ≡ o p.x p.z) × (spot_ok p.x p.z ≡ true))) R

module _ {o : Oracle} {P : Past → Type 0} {R : ℕ → Past → Type 0} (arc : Arc) (look-keeps : (tau : Float) → LooksOn o P R (arc_of arc tau).pos)
    (evaluation-keeps : (w : Past) → P w → P (evaluated_once w)) where
  abbrev Looks : {A : Type 0} → M A → Type 0
  Looks m = Triple o P m (λ _. P) R

  l_clearance_at : (tau : Float) → Looks (clearance_at arc tau)
  unfolding clearance_at
  l_clearance_at tau = t_after (λ a w h. h.0) (λ n w h. h) (l_clearance _ (t_after (λ a w h. (h.0, h.1.0)) (λ n w h. h) (look-keeps tau)))

  module _ (f : Float → M Float) (kf : (x : Float) → Looks (f x)) where
    l_sub_step : (len f_end : Float) (i : ℕ) (b : Bracket) → Looks (sub_step f len f_end i b)
    unfolding sub_step
    l_sub_step len f_end i b = t_if (eqb i 8) (λ _. t_same) (λ _. t_bind (kf _) (λ x. t_same))

    l_crossing_from : (len f_end : Float) (n i : ℕ) (b : Bracket) → Looks (crossing_from f len f_end n i b)
    unfolding crossing_from
    l_crossing_from len f_end zero i b = t_same
    l_crossing_from len f_end (suc n) i b =
        t_bind (l_sub_step len f_end i b) (λ x. t_if (le x.f_hi (dec 0 1)) (λ _. t_same) (λ _. l_crossing_from len f_end n (i + 1) x))

    l_evaluate : (x : Float) → Looks (evaluate f x)
    l_evaluate x = t_bind (t_evaluation evaluation-keeps) (λ _. kf x)

    l_root : (n : ℕ) (s : Search) → Looks (root_from in_m (evaluate f) n s)
    unfolding root_from
    l_root zero s = t_same
    l_root (suc n) s = t_bind (l_evaluate _) (λ x. next (l_root n) (narrowed s (in_bracket s) x))
      where
        next : ((t : Search) → Looks (root_from in_m (evaluate f) n t)) → (r : ControlFlow Float Search)
            → Looks (after_step in_m (root_from in_m (evaluate f) n) r)
        next h (Continue t) = h t
        next h (Break x) = t_same

  l_end_value : (b : Bracket) → Looks (end_value arc b)
  unfolding end_value
  l_end_value b = t_if (eq b.hi arc.h) (λ _. t_bind (l_clearance_at _) (λ x. t_same)) (λ _. t_same)

  l_crossing_time : (b : Bracket) → Looks (crossing_time arc b)
  unfolding crossing_time find_root
  l_crossing_time b = t_bind (l_end_value b) (λ x. t_then (look-keeps _) (λ s _. l_root _ l_clearance_at _ _))

  -- an arrival lies on the course, over doubles
  pub l_arrival : (t end : Float) (spin : DVec3) → Triple o P (hop_arrival arc t end spin) (λ a w. P w × (Arrives a × IfSome (Placed o) a)) R
  unfolding hop_arrival first_crossing placed
  l_arrival t end spin = t_bind (l_clearance_at _) (λ x. t_bind (l_crossing_from _ l_clearance_at _ _ 8 1 _) (elim [
    | None ↦ t_pure (λ w p. (p, (tt, tt)))
    | Some b ↦ t_bind (l_crossing_time b) (λ tau. t_then (look-keeps tau)
        (λ s h. t_pure (λ w p. (p, (over_doubles _ _ h.1, ap (λ (g : GroundSample). g.height) h.0)))))
  ]))

  pub l_hop_arrival : (t end : Float) (spin : DVec3) → Triple o P (hop_arrival arc t end spin) (λ a w. P w × Arrives a) R
  l_hop_arrival t end spin = t_after (λ a w h. (h.0, h.1.0)) (λ n w h. h) (l_arrival t end spin)

-- ---- what stays over the same spot

pub record SameSpot (a b : BallState) : Type 0 where
  pub x : a.pos.x ≡ b.pos.x
  pub z : a.pos.z ≡ b.pos.z

same : (s : BallState) → SameSpot s s
same s = record { x = refl; z = refl }

pub one_of : (P : BallState → Type 0) (b : Bool) (x y : BallState) → P x → P y → P (cond b x y)
one_of P true x y p q = p
one_of P false x y p q = q

pub impact_stays : (s : BallState) (g : GroundSample) (ball : BallModel) → SameSpot (impact_of s g ball) s
unfolding impact_of hit_by
impact_stays s g ball =
    let n = vnormalize g.normal in
    let v = s.vel in
    one_of (λ x. SameSpot x s) (le (neg (dec 1 1000000000000) ⊗ vlength v) (vdot v n)) _ _ (same s)
    (one_of (λ x. SameSpot x s) (le (dec 0 1) (vdot v (effective_normal g.surface n v (vdot v n)))) _ _ (same s) (record { x = refl; z = refl }))

pub drop_stays : (c : Conditions) (hit : Struck) → SameSpot (dropped c hit) hit.out
unfolding dropped
drop_stays c hit =
    let n = vnormalize hit.«at».normal in
    let v = vsub hit.out.vel (vscale n (vdot hit.out.vel n)) in
    one_of (λ x. SameSpot x hit.out) (le (vlength (slip_of v hit.out.spin n (radius_of c.ball))) c.physics.roll_threshold) _ _
    (record { x = refl; z = refl }) (record { x = refl; z = refl })

pub put_stays : (c : Conditions) (r : Roll) (s : BallState) (rolling : Bool) (g : GroundSample) → SameSpot (put_down c r s rolling g) s
unfolding put_down onto_of
put_stays c r s rolling g =
    one_of (λ x. SameSpot x s) (same_vec g.normal r.«at».normal && eq s.pos.y g.height) _ _
    (same s) (record { x = refl; z = refl })

-- over the same spot, over doubles
same_over : {a b : BallState} → SameSpot a b → OverDoubles b → OverDoubles a
same_over h d = (rw h.x d.0, rw h.z d.1)

-- a hop step ends over doubles: the last thing that it does is a sum
step_over : (o : Oracle) (c : Conditions) (s : BallState) → OverDoubles (end_from o c s)
unfolding step_end step_arc step_of weighted_in vadd
step_over o c s = (add-fits binary64 _ _, add-fits binary64 _ _)

pub same_under : (o : Oracle) (a b : BallState) → SameSpot a b → under o a ≡ under o b
same_under o a b h = rw (h.x, h.z)

-- the state with which a hop ends
abbrev pub state_of : Way → BallState
state_of (Arrived b) = b
state_of (Late b) = b

module _ (e : Setting) where
  abbrev c : Conditions
  c = e.conditions

  -- ---- a hop

  -- the arc of the step from s, and the clearance at its end
  abbrev arc_on : BallState → Arc
  arc_on s = arc_from e.course c s

  abbrev end_of : BallState → BallState
  end_of s = end_from e.course c s

  abbrev end_on : BallState → Float
  end_on b = b.pos.y ⊖ (under e.course b).height

  -- a hop that began with this spin flies a step from s by the spin of s: held, that is the same; fading, it is taken anew
  abbrev Own : DVec3 → BallState → Type 0
  Own spin s = aero_for c.fading (from_spin_vector spin) s.spin ≡ from_spin_vector s.spin

  own_arc : (spin : DVec3) (s : BallState) → Own spin s → step_arc c (air_of c spin).aero s ≡ arc_on s
  unfolding step_arc
  own_arc spin s h = rw h

  own_next : (spin : DVec3) (s : BallState) → Own spin s → Own spin (end_of s)
  unfolding step_end
  own_next spin s h = own_kept c.fading (from_spin_vector spin) _ s.spin h

  -- the sample under s, and the state after its impact there
  abbrev StruckBy : BallState → Struck → Type 0
  StruckBy s hit = hit ≡ struck_at e.course c s

  -- the ball drops where it struck
  leaves_over : (s : BallState) (hit : Struck) → StruckBy s hit → OverDoubles s → OverDoubles (dropped c hit)
  leaves_over s hit h d = same_over (drop_stays c hit) (rw h (same_over (impact_stays s (under e.course s) c.ball) d))

  sampled_at : (s : BallState) (hit : Struck) → StruckBy s hit → SampleOf e.course hit.«at»
  sampled_at s hit h = record { x = s.pos.x; z = s.pos.z; is = ap (λ (x : Struck). x.«at») h }

  module _ (G : ℕ → Type 0) where
    -- G of the number of contacts
    abbrev pub Only : BallState → Past → Type 0
    Only g = At e (λ _. G) g

    -- with n steps left: the flight's state is the last that passed, and a hop that began with this spin flies its next step by the state's own
    abbrev Flying : DVec3 → ℕ → Flight → Past → Type 0
    Flying spin n f w = At e (Within e n G) f.state w × Own spin f.state

    abbrev Flew : Way → Past → Type 0
    Flew way = Only (state_of way)

    f_hop_next : (spin : DVec3) (n : ℕ) (f : Flight) (b : BallState) → Own spin f.state → Ok f.state → b ≡ end_of f.state
        → (a : Option BallState) → Arrives a → GivenBy e.course (hop_arrival (arc_on f.state) f.state.time (end_on b) f.state.spin) a
        → Keeps e (At e (Within e n G) b) (hop_next f b a) (OnWith (Flying spin n) Flew)
    unfolding hop_next
    f_hop_next spin n f b own ok d (Some s) on l =
        t_then (a_test s (arrival f.state ok d l) (λ _ _. on)) (λ x _. t_pure (λ w a. at_frame (λ j k h. h.1) a))
    f_hop_next spin n f b own ok d None on l = t_bind (a_when _ (a_point_own _)) (λ x. t_pure (λ w a. (a, rw d (own_next spin f.state own))))

    f_arrival : (n : ℕ) (f : Flight) (b : BallState) → Ok f.state → b ≡ end_of f.state → (end : Float)
        → let m = hop_arrival (arc_on f.state) f.state.time end f.state.spin in
        Keeps e (At e (Within e n G) b) m (λ a w. At e (Within e n G) b w × (Arrives a × GivenBy e.course m a))
    f_arrival n f b ok d end =
        t_after (λ a w h. (h.0.0, (h.0.1, h.1))) (λ n w h. h)
        (t_given (l_hop_arrival _ (λ tau. a_look _ _ (on_path f.state ok d tau refl)) a_evaluation _ _ _))

    f_hop_step : (spin : DVec3) (n : ℕ) (f : Flight) → Keeps e (Flying spin (suc n) f) (hop_step c (air_of c spin) f) (OnWith (Flying spin n) Flew)
    unfolding hop_step
    f_hop_step spin n f = t_fact (λ h. rw (own_arc spin f.state h) (t_know (λ w. at_ok) (λ ok. t_made _ _ (a_step n _)
        (t_then (a_test _ (hop_step_lem refl) (λ _ _. step_over e.course c f.state)) (λ b d.
        t_then (l_clearance _ a_look_own) (λ end v. t_then (f_arrival n f b ok d end) (λ a l. f_hop_next spin n f b h ok d a l.0 (rw v at l.1))))))))

    f_hop : (start : BallState) → Keeps e (Only start) (hop c start) Flew
    unfolding hop hop_from
    f_hop start = t_bind a_left (λ n. t_before (λ w a. (a, own_self c.fading start.spin)) (t_loop _ _ _ (Flying start.spin) Flew
        (λ n f. t_pure (λ w a. at_frame (λ j k h. h.1) a.0)) (λ f w a. a_limit w a.0) (f_hop_step start.spin) n _))

    -- ---- the ground

    abbrev Rolling : ℕ → Roll → Past → Type 0
    Rolling n r w = At e (Within e n G) r.state w × (r.«at» ≡ under e.course r.state)

    -- the run is over, with its last state and how
    abbrev pub Over : Ending → Past → Type 0
    Over d w = Only d.state w × Answer (Some d.how) 0

    f_time_up : (F : ℕ → ℕ → Type 0) → ((j k : ℕ) → F j k → G k) → (s : BallState) (phase : Phase) → Keeps e (At e F s) (time_up s phase) Over
    unfolding time_up
    f_time_up F f s phase = t_bind (a_point_own phase) (λ x. t_pure (λ w a. (at_frame f a, refl)))

    f_ground_step : (n : ℕ) (r : Roll) → Keeps e (Rolling (suc n) r) (ground_step c r) (OnWith (Rolling n) Over)
    unfolding ground_step
    f_ground_step n r = t_fact (λ on. t_made _ _ (a_step n _) (t_bind (a_when _ (a_point_own _)) (λ _. t_then
        (a_look _ _ (below_step r refl on refl)) (λ below k. let h = k.0 in
        let stays = put_stays c r (step_on c r).state (step_on c r).rolling below in
        t_then (a_test _ (ground_step_lem r refl on (rw h)) (λ _ _. same_over stays (over_doubles _ _ k.1))) (λ b d. t_if
        (not (held_of (step_on c r).phase (step_on c r).state below))
        (λ _. t_pure (λ w a. (a, h ∙ sym (ap (under e.course) d ∙ same_under e.course _ _ (put_stays c r (step_on c r).state (step_on c r).rolling below)))))
        (λ _. t_bind (a_point_own _) (λ _. t_pure (λ w a. (at_frame (λ j k h. h.1) a, refl)))))))))

    f_ground : (state : BallState) (s : GroundSample) → s ≡ under e.course state → Keeps e (Only state) (ground c state s) Over
    unfolding ground ground_from
    f_ground state s on = t_bind a_left (λ n. t_before (λ w a. (a, on)) (t_loop _ _ _ Rolling Over
        (λ n r. t_before (λ w a. a.0) (f_time_up (Within e n G) (λ j k h. h.1) r.state _)) (λ r w a. a_limit w a.0) f_ground_step n _))

    -- ---- an impact

    abbrev StruckOf : BallState → Struck → Past → Type 0
    StruckOf s hit w = Only hit.out w × StruckBy s hit

    f_strike : (s : BallState) → Keeps e (Only s) (strike c s) (StruckOf s)
    unfolding strike
    f_strike s = t_then a_look_own (λ g h. t_then
        (a_test _ (impact (rw h)) (λ _ d. same_over (impact_stays s g c.ball) d)) (λ b d. t_pure (λ w a. (a, rw (d, h)))))

    -- flown; or on the ground, after an impact that the ball left as out
    abbrev FlownFrom : BallState → Option Way → Past → Type 0
    FlownFrom out (Some way) w = Flew way w
    FlownFrom out None w = Only w.log.good w × Grounded e.course c out w.log.good

    own : (out g : BallState) → Grounded e.course c out g → (w : Past) → Only g w → Only w.log.good w × Grounded e.course c out w.log.good
    own out g d w a = (record { sound = a.sound; frame = a.frame; good = refl; over = rw a.good a.over; on = a.on }, rw a.good d)

    f_fly : (hops : Bool) (state : BallState) (hit : Struck) → Keeps e (Only hit.out) (fly c hops state hit) (FlownFrom hit.out)
    unfolding fly_by
    f_fly hops state hit = t_if (not hops) (λ _. t_pure (own _ _ (at_once refl))) (λ _.
        t_bind a_mark (λ m. t_bind (a_point_own _) (λ _. t_then (t_given (f_hop _)) (elim [
          | Late b ↦ λ l. t_pure (λ w a. a)
          | Arrived b ↦ λ l. t_if (dies_out c state hit b) (λ _. t_pure (λ w a. a)) (λ _. t_bind (a_truncate m) (λ _. t_pure (own _ b (after_hop_lem l))))
        ]))))

    -- one contact more, of s
    abbrev More : (ℕ → Type 0) → Type 0
    More F = (k : ℕ) → G k → F (suc k) × (suc k ≤ e.most)

    module _ {F : ℕ → Type 0} (f : More F) (s : BallState) (ok : Ok s) (hit : Struck) (h : StruckBy s hit) {g : BallState} where
      f_contact : (b : BallState) → Ok b → Keeps e (Only g) (push_contact s hit.«at» b) (λ _. At e (λ _. F) g)
      f_contact b kb = a_contact s hit.«at» b ok (sampled_at s hit h) kb (λ j k t. f k t)

    module _ {F : ℕ → Type 0} (f : More F) (s : BallState) (ok : Ok s) (hit : Struck) (h : StruckBy s hit) {g : BallState} where
      f_drop : (OverDoubles e.landing → OverDoubles s) → Grounded e.course c hit.out g
          → Keeps e (Only g) (drop c s hit) (λ b w. At e (λ _. F) b w × (b ≡ dropped c hit))
      unfolding drop
      f_drop so d = t_then (a_test _ (dropping s ok (rw h at d) (ap (dropped c) h)) (λ l _. leaves_over s hit h (so l))) (λ b i.
          t_bind (t_know (λ w. at_ok) (f_contact f s ok hit h b)) (λ _. t_pure (λ w a. (a, i))))

  -- ---- the train

  abbrev pub Ended : Ending → Past → Type 0
  Ended = Over (λ _. Unit {0})

  -- n contacts more may be pushed
  abbrev Room : ℕ → ℕ → Type 0
  Room n k = n + k ≤ e.most

  room : (n k : ℕ) → Room (suc n) k → Room n (suc k) × (suc k ≤ e.most)
  room n k h = (omega (arith, h), omega (arith, h))

  last : (n k : ℕ) → Room (suc n) k → Unit {0} × (suc k ≤ e.most)
  last n k h = (tt, omega (arith, h))

  module _ (s : BallState) (ok : Ok s) (hit : Struck) (h : StruckBy s hit) (n : ℕ) where
    f_to_ground : {g : BallState} → (OverDoubles e.landing → OverDoubles s) → Grounded e.course c hit.out g
        → Keeps e (Only (Room (suc n)) g) (to_ground c s hit) Ended
    unfolding to_ground
    f_to_ground so d = t_then (f_drop (Room (suc n)) (last n) s ok hit h so d) (λ b i. f_ground (λ _. Unit {0}) b hit.«at» (below b i))
      where
        below : (b : BallState) → b ≡ dropped c hit → hit.«at» ≡ under e.course b
        below b i =
            let o = e.course in
            rw (i, same_under o (dropped c hit) hit.out (drop_stays c hit), h, same_under o _ _ (impact_stays s (under o s) c.ball))

    f_last_impact : Keeps e (Only (Room (suc n)) hit.out) (last_impact s hit) Ended
    unfolding last_impact
    f_last_impact = t_bind (t_know (λ w. at_ok) (f_contact (Room (suc n)) (last n) s ok hit h _)) (λ _. t_bind (a_point_own _) (λ _. t_pure (λ w a. (a, refl))))

  f_train_from : (n : ℕ) (s : BallState) → Keeps e (Only (Room (suc n)) s) (train_from c n s) Ended
  unfolding train_from_by
  f_train_from zero s = t_know (λ w. at_ok) (λ ok. t_know (λ w a. a.over) (λ so. t_then (f_strike (Room 1) s) (λ hit h.
      t_if (not (rebounds c hit)) (λ _. f_to_ground s ok hit h 0 so (at_once refl)) (λ _. f_last_impact s ok hit h 0))))
  f_train_from (suc n) s = t_know (λ w. at_ok) (λ ok. t_know (λ w a. a.over) (λ so. t_then (f_strike (Room (suc (suc n))) s) (λ hit h.
      t_know (λ w. at_ok) (λ kb. t_bind (f_fly (Room (suc (suc n))) _ s hit) (elim [
        | None ↦ t_of (λ w. w.log.good) (λ g. t_fact (λ d. f_to_ground s ok hit h (suc n) so d))
        | Some way ↦ t_bind (f_contact (Room (suc (suc n))) (room (suc n)) s ok hit h _ kb) (λ _. after n way (f_train_from n))
      ])))))
    where
      after : (n : ℕ) (way : Way) → ((s : BallState) → Keeps e (Only (Room (suc n)) s) (train_from c n s) Ended)
          → Keeps e (Only (Room (suc n)) (state_of way)) (elim way [ Arrived b ↦ train_from c n b | Late b ↦ time_up b InHop ]) Ended
      after n (Arrived b) f = f b
      after n (Late b) f = f_time_up (λ _. Unit {0}) (λ j. Room (suc n)) (λ j k h. tt) b _

  -- from the first state, with n contacts to come by max_impacts
  pub train_keeps : (landing : BallState) → Keeps e (Only (Room (suc (c.physics.max_impacts - 1))) landing) (train c landing) Ended
  unfolding train
  train_keeps landing = f_train_from _ landing
