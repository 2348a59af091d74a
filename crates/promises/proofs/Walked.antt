-- Lemmas. A hop and the ground phase, in the logic of Triple: what every push of a point at the time reached keeps, a hop and the ground keep; the time is not
-- turned back; an arrival lies on the course; and where the ground ends at rest, its own last step came to rest. Assumes nothing.
use Rattle.std.specs.Prelude.{ℕ, suc, ◌≡◌, Bool, false, not, ◌&&◌, T, Float, Option, Some, None}
use Rattle.std.proofs.Math.Path.{refl, ap, sym}
use Rattle.std.proofs.Common.{◌∙◌, subst}
use Rattle.std.proofs.Math.Bool.{true}
use mathlib.Core.List.{List, [], ◌∷◌, ◌++◌}
use Rattle.std.specs.Float.Ieee.{le}
use Rattle.std.specs.Float.Ieee.Fits.{and_l, and_r}
use Rattle.std.specs.Float.Ieee.Bits.{is_true}
use Rattle.number.specs.Order.{le_self, le_through}
use Rattle.vector.specs.Vec.{zero3, same_vec}
use Rattle.state.specs.declared.BallState.{BallState}
use Rattle.state.specs.declared.Phase.{Phase}
use Rattle.state.specs.declared.Phase.TheVariants.{Hop as InHop, Roll as InRoll}
use Rattle.state.specs.declared.Termination.{Termination}
use Rattle.state.specs.declared.Termination.TheVariants.{Rest, MaxTime, MaxImpacts}
use Rattle.surface.specs.declared.GroundSample.{GroundSample}
use Rattle.aero.specs.Aero.{radius_of}
use Rattle.look.specs.Rect.{spot_ok}
use Rattle.look.specs.Tree.{Made, Oracle}
use Rattle.records.specs.Records.{Records}
use Rattle.contact.specs.Contact.{sample_holds}
use Rattle.rolling.specs.declared.Stepped.{Stepped}
use Rattle.state.specs.State.{state_ok}
use Rattle.tally.specs.Times.{is_late}
use Rattle.tally.specs.Language.{M, point_of, Pass, again, over, look, test, push_point, steps_left}
use Rattle.tally.specs.declared.Conditions.{Conditions}
use Rattle.tally.proofs.Triple.{Past, OnWith, Triple, t_before, t_after, t_bind, t_then, t_know, t_both, t_if, t_pure, t_look, t_test, t_point, t_step}
use Rattle.tally.proofs.Triple.{t_made, t_left, t_when, t_loop_due}
use Rattle.arrival.specs.RootSearch.{Gives}
use Rattle.arrival.proofs.FirstCrossing.{IfSome}
use Rattle.hop.specs.Hop.{Air, air_of, hop_next, hop_step, hop_from, hop}
use Rattle.hop.specs.declared.Flight.{Flight}
use Rattle.hop.specs.declared.Way.{Way}
use Rattle.hop.specs.declared.Way.TheVariants.{Arrived, Late}
use Rattle.roll.specs.Roll.{in_roll, held_of, step_on, made_of, put_down, ground_step}
use Rattle.roll.specs.declared.Roll.{Roll}
use Rattle.roll.specs.declared.Ending.{Ending}
use Rattle.ground_phase.specs.GroundPhase.{time_up, ground_from, ground}
use Rattle.promises.specs.Terms.{Ok, under, Placed}
use Rattle.promises.proofs.Finite.{state_finite}
use Rattle.promises.specs.Bracketed.{Timed, Later, HopLeads, GroundLeads}
use Rattle.promises.proofs.OnePass.{Paced, hop_pass, ground_pass}
use Rattle.promises.proofs.Parts.{l_clearance, l_arrival, state_of, put_stays, same_under}
use Rattle.promises.proofs.Still.{onto_still, onto_0, onto_ground}
use Rattle.promises.specs.Table.{standing, Rested}

-- nothing is said of a run that stops
abbrev pub Any : ℕ → Past → Type 0
Any n w = Unit {0}

-- the contacts and the points so far
abbrev pub contacts_of : Past → Records
contacts_of w = w.log.contacts.records

abbrev pub points_of : Past → Records
points_of w = w.log.points.records

-- X of the contacts, the points and the steps made so far
abbrev pub Of : (Records → Records → List Made → Type 0) → Past → Type 0
Of X w = X (contacts_of w) (points_of w) w.made

-- what a list of points keeps, to the time t: pushes at that time, and the passing of time
pub record Carries (X : Float → Records → Records → Type 0) : Type 0 where
  pub later : (t u : Float) (cs ps : Records) → T (le t u) → X t cs ps → X u cs ps
  pub more : (s : BallState) (f : Phase) (height : Float) (cs ps : Records) → Timed s → X s.time cs ps → X s.time cs (ps ++ (point_of s f height ∷ []))

-- a ball that arrived lies on the course
abbrev pub Landed : Oracle → Way → Type 0
Landed o (Arrived b) = Placed o b
Landed o (Late b) = Unit

module _ {o : Oracle} where
  -- ---- the words
  module _ (X : Records → Records → List Made → Type 0) where
    pub w_look : (x z : Float) → Triple o (Of X) (look x z) (λ s w. Of X w × (s ≡ o x z)) Any
    w_look x z = t_look x z (λ w h _. (h, refl)) (λ w h _. tt)

    -- and the spot passed its test
    w_look_ok : (x z : Float) → Triple o (Of X) (look x z) (λ s w. Of X w × ((s ≡ o x z) × (spot_ok x z ≡ true))) Any
    w_look_ok x z = t_look x z (λ w h e. (h, (refl, e))) (λ w h _. tt)

    pub w_test : (s : BallState) → Triple o (Of X) (test s) (λ b w. Of X w × ((b ≡ s) × Ok s)) Any
    w_test s = t_test s (λ w h e. (h, (refl, e))) (λ w h _. tt)

    pub w_left : (c : Conditions) → Triple o (Of X) (steps_left c) (λ _. Of X) Any
    w_left c = t_left c (λ w h. h)

  -- with what a part gives on every course
  pub t_gives : {A : Type 0} {P : Past → Type 0} {m : M A} {Q : A → Past → Type 0} {G : A → Type 0} → Triple o P m Q Any → Gives G m
      → Triple o P m (λ a w. Q a w × G a) Any
  t_gives t g = t_before (λ w p. (p, tt)) (t_after (λ a w q. q) (λ n w _. tt) (t_both t (g o)))

-- ---- how a run ended

abbrev pub IsRest : Termination → Type 0
IsRest Rest = Unit
IsRest MaxTime = ⊥
IsRest MaxImpacts = ⊥

abbrev pub IsImpacts : Termination → Type 0
IsImpacts Rest = ⊥
IsImpacts MaxTime = ⊥
IsImpacts MaxImpacts = Unit

-- ---- a last step that came to rest

-- s is the last of the steps made
pub record LastIs (s : Made) (ms : List Made) : Type 0 where
  pub before : List Made
  pub is : ms ≡ before ++ (s ∷ [])

not-false : (b : Bool) → not b ≡ false → b ≡ true
not-false true h = refl
not-false false h = absurd (subst T h tt)

held_still : (phase : Phase) (next : BallState) (below : GroundSample) → held_of phase next below ≡ true → same_vec next.vel zero3 ≡ true
unfolding held_of
held_still phase next below h =
    let a = in_roll phase in
    let b = same_vec next.vel zero3 in
    is_true b (and_r a b (and_l (a && b) (sample_holds below) (rw h tt)))

module _ (o : Oracle) (c : Conditions) (g : Roll) (on : g.«at» ≡ under o g.state) where
  -- the step from g, where it leads, and what is put down there
  abbrev stepped : Stepped
  stepped = step_on c g

  abbrev below : GroundSample
  below = under o stepped.state

  abbrev down : BallState
  down = put_down c g stepped.state stepped.rolling below

  pub down_under : under o down ≡ below
  down_under = same_under o down stepped.state (put_stays c g stepped.state stepped.rolling below)

  own_step : stepped ≡ step_on c (standing o g.state)
  unfolding step_on
  own_step = rw on

  own_down : (s : Stepped) → put_down c g s.state s.rolling below ≡ put_down c (standing o g.state) s.state s.rolling below
  unfolding put_down
  own_down s = rw on

  pub rested : (ms : List Made) → LastIs (made_of g.state stepped) ms → state_ok down ≡ true → held_of stepped.phase stepped.state below ≡ true
      → Rested o c ms down
  unfolding put_down
  rested ms l ok held =
      let next = stepped.state in
      let prev = g.«at».normal in
      record {
        before = l.before;
        last = made_of g.state stepped;
        is = l.is;
        step = ap (made_of g.state) own_step;
        held = held;
        put = own_down stepped;
        still = onto_still next below prev stepped.rolling (radius_of c.ball) (held_still stepped.phase next below held) ok;
        stopped = λ z. onto_0 next below prev stepped.rolling (radius_of c.ball) z ok;
        ground = rw down_under (onto_ground next below prev stepped.rolling (radius_of c.ball) ok);
      }

module _ (o : Oracle) (c : Conditions) (paced : Paced c) where
  module _ (X : Float → Records → Records → Type 0) (carries : Carries X) where
    -- X, to the time t
    abbrev to : Float → Records → Records → List Made → Type 0
    to t cs ps ms = X t cs ps

    abbrev pub At : Float → Past → Type 0
    At t = Of (to t)

    -- X to the time of s, if that is a tested state, not before t
    abbrev pub Onto : Float → BallState → Past → Type 0
    Onto t s w = Later t s → At s.time w

    on_later : (t : Float) (s : BallState) (w : Past) → At t w → Onto t s w
    on_later t s w h l = carries.later t s.time _ _ l.later h

    -- ---- a hop

    abbrev Hopped : Float → Pass Flight Way → Past → Type 0
    Hopped t = OnWith (λ g. Onto t g.state) (λ way w. Onto t (state_of way) w × Landed o way)

    h_next : (t : Float) (f : Flight) (b : BallState) (a : Option BallState) → IfSome (Placed o) a → Triple o (At t) (hop_next f b a) (Hopped t) Any
    unfolding hop_next
    h_next t f b (Some s) p = t_then (w_test (to t) s) (λ x h. t_pure (λ w a. (on_later t x w a, rw h.0 p)))
    h_next t f b None p = t_bind {Q = λ _. Onto t b} (t_when _ push (on_later t b)) (λ _. t_pure (λ w h. h))
      where
        push : Triple o (At t) (push_point b InHop) (λ _. Onto t b) Any
        push = t_point b InHop (λ w h _ _ l. carries.more b InHop _ _ _ l.timed (on_later t b w h l)) (λ w h _ _. tt) (λ w h _. tt)

    h_step : (air : Air) (f : Flight) → Triple o (At f.state.time) (hop_step c air f) (Hopped f.state.time) Any
    unfolding hop_step
    h_step air f = t_made _ _ (t_step _ (λ w h. h)) (t_then (w_test (to f.state.time) _) (λ b h.
        t_then (l_clearance _ (w_look (to f.state.time) _ _)) (λ end _.
        t_then (l_arrival _ (λ tau. w_look_ok (to f.state.time) _ _) (λ w h. h) _ _ _) (λ a p. h_next f.state.time f b a p.1))))

    -- from a time t₀ on, with tested states
    abbrev Flying : Float → ℕ → Flight → Past → Type 0
    Flying t₀ n f w = At f.state.time w × Later t₀ f.state

    abbrev pub Flew : Float → Way → Past → Type 0
    Flew t₀ way w = At (state_of way).time w × (Later t₀ (state_of way) × Landed o way)

    since : (t₀ t : Float) (s : BallState) → T (le t₀ t) → Later t s → Later t₀ s
    since t₀ t s l h = record { timed = h.timed; later = le_through t₀ t s.time l h.later }

    h_pass : (t₀ : Float) (air : Air) (n : ℕ) (f : Flight) → is_late f.state.time c.t_end ≡ false
        → Triple o (Flying t₀ (suc n) f) (hop_step c air f) (OnWith (Flying t₀ n) (Flew t₀)) Any
    h_pass t₀ air n f due = t_know (λ w h. h.1) (λ l. t_before (λ w h. h.0) (t_after (on l) (λ n w h. h)
        (t_gives (h_step air f) (hop_pass c paced air f l.timed due).onward)))
      where
        on : Later t₀ f.state → (x : Pass Flight Way) (w : Past) → Hopped f.state.time x w × HopLeads (Later f.state.time) x
            → OnWith (Flying t₀ n) (Flew t₀) x w
        on l (again g) w h = (h.0 h.1, since t₀ _ g.state l.later h.1)
        on l (over (Arrived b)) w h = (h.0.0 h.1, (since t₀ _ b l.later h.1, h.0.1))
        on l (over (Late b)) w h = (h.0.0 h.1, (since t₀ _ b l.later h.1, tt))

    pub h_hop : (start : BallState) → Timed start → Triple o (At start.time) (hop c start) (Flew start.time) Any
    unfolding hop hop_from
    h_hop start i = t_bind (w_left (to start.time) c) (λ n. t_before (λ w h. (h, first)) (t_loop_due _ _ _ (Flying start.time) (Flew start.time)
        (λ n f. t_pure (λ w h. (h.0, (h.1, tt)))) (λ f w h. tt) (h_pass start.time (air_of c start.spin)) n _))
      where
        first : Later start.time start
        first = record { timed = i; later = le_self start.time (state_finite start i.ok).time }

    -- ---- the ground

    -- where it ends at rest, its own last step came to rest
    abbrev pub Ends : Ending → Past → Type 0
    Ends e w = (IsRest e.how → Rested o c w.made e.state) × (IsImpacts e.how → ⊥)

    -- the sample that a pass begins with is the course's under its state
    abbrev Stands : Roll → Type 0
    Stands g = g.«at» ≡ under o g.state

    abbrev Rolled : Float → Pass Roll Ending → Past → Type 0
    Rolled t = OnWith (λ g w. Onto t g.state w × Stands g) (λ e w. Onto t e.state w × Ends e w)

    g_step : (g : Roll) → Timed g.state → Stands g → Triple o (At g.state.time) (ground_step c g) (Rolled g.state.time) Any
    unfolding ground_step
    g_step g i on =
        let t = g.state.time in
        let s = step_on c g in
        let Y : Records → Records → List Made → Type 0 = λ cs ps ms. X t cs ps × LastIs (made_of g.state s) ms in
        t_made {Q = Of Y} _ _ (t_step _ (λ w h. (h, record { before = w.made; is = refl })))
        (t_bind {Q = λ _. Of Y} (t_when _ (t_point g.state s.phase (λ w h _ _. (carries.more g.state s.phase _ _ _ i h.0, h.1)) (λ w h _ _. tt) (λ w h _. tt))
        (λ w h. h)) (λ _.
        t_then (w_look Y _ _) (λ below h. t_then (w_test Y (put_down c g s.state s.rolling below)) (λ b k. t_if (not (held_of s.phase s.state below))
        (λ _. t_pure (λ w a. (on_later t b w a.0, h ∙ sym (ap (under o) k.0 ∙ same_under o _ _ (put_stays c g s.state s.rolling below)))))
        (λ e. t_bind {Q = λ _ w. Onto t b w × LastIs (made_of g.state s) w.made}
        (t_point b _ (λ w a _ _. (λ l. carries.more b InRoll _ _ _ l.timed (on_later t b w a.0 l), a.1)) (λ w a _ _. tt) (λ w a _. tt))
        (λ _. t_pure (λ w a. (a.0, (λ _. end below h b k.0 k.1 (not-false _ e) w.made a.1, λ i. i)))))))))
      where
        end : (below : GroundSample) → below ≡ under o (step_on c g).state → (b : BallState) → b ≡ put_down c g (step_on c g).state (step_on c g).rolling below
            → state_ok (put_down c g (step_on c g).state (step_on c g).rolling below) ≡ true → held_of (step_on c g).phase (step_on c g).state below ≡ true
            → (ms : List Made) → LastIs (made_of g.state (step_on c g)) ms → Rested o c ms b
        end below h b d ok held ms l = rw d (rw h (rested o c g on ms l (rw h at ok) (rw h at held)))

    abbrev Rolling : ℕ → Roll → Past → Type 0
    Rolling n g w = At g.state.time w × (Timed g.state × Stands g)

    abbrev pub Over : Ending → Past → Type 0
    Over e w = At e.state.time w × Ends e w

    g_pass : (n : ℕ) (g : Roll) → is_late g.state.time c.t_end ≡ false → Triple o (Rolling (suc n) g) (ground_step c g) (OnWith (Rolling n) Over) Any
    g_pass n g due = t_know (λ w h. h.1) (λ i. t_before (λ w h. h.0) (t_after on (λ n w h. h)
        (t_gives (g_step g i.0 i.1) (ground_pass c paced g i.0 due).onward)))
      where
        on : (x : Pass Roll Ending) (w : Past) → Rolled g.state.time x w × GroundLeads (Later g.state.time) x → OnWith (Rolling n) Over x w
        on (again k) w h = (h.0.0 h.1, (h.1.timed, h.0.1))
        on (over e) w h = (h.0.0 h.1, h.0.1)

    pub g_time_up : (s : BallState) (phase : Phase) → Timed s → Triple o (At s.time) (time_up s phase) Over Any
    unfolding time_up
    g_time_up s phase i = t_bind {Q = λ _. At s.time} (t_point s phase (λ w h _ _. carries.more s phase _ _ _ i h) (λ w h _ _. tt) (λ w h _. tt))
        (λ _. t_pure (λ w h. (h, (λ z. absurd z, λ z. z))))

    pub g_ground : (state : BallState) (s : GroundSample) → Timed state → s ≡ under o state → Triple o (At state.time) (ground c state s) Over Any
    unfolding ground ground_from
    g_ground state s i on = t_bind (w_left (to state.time) c) (λ n. t_before (λ w h. (h, (i, on))) (t_loop_due _ _ _ Rolling Over
        (λ n g. t_know (λ w h. h.1) (λ k. t_before (λ w h. h.0) (g_time_up g.state _ k.0))) (λ g w h. tt) g_pass n _))
