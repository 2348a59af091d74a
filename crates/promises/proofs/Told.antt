-- Lemmas. The train of impacts, in the logic of Triple: before each impact and at the end, the contacts are in order, on the course and as many as the impacts,
-- and the points are in order; a discarded hop's points are cut off. Assumes nothing.
use Prim.Native.Nat.{ℕ, zero, suc, ◌+◌, ◌-◌, ◌≤◌}
use Rattle.std.proofs.Common.{arith, ◌∙◌, length-append}
use Rattle.std.specs.Prelude.{◌≡◌, refl, Bool, not, T, Float, length, Option, Some, None}
use Rattle.std.proofs.Math.Path.{ap}
use mathlib.Core.List.{List, [], ◌∷◌, ◌++◌}
use Rattle.std.specs.Float.Ieee.{le}
use Rattle.number.specs.Order.{le_self}
use Rattle.state.specs.declared.BallState.{BallState}
use Rattle.state.specs.declared.Phase.TheVariants.{Hop as InHop}
use Rattle.surface.specs.declared.GroundSample.{GroundSample}
use Rattle.impact.specs.Impact.{impact_of}
use Rattle.look.specs.Tree.{Oracle}
use Rattle.records.specs.Records.{Records}
use Rattle.tally.specs.Language.{point_of, contact_of, push_contact}
use Rattle.tally.specs.declared.Conditions.{Conditions}
use Rattle.tally.proofs.Triple.{Past, Triple, t_before, t_after, t_bind, t_then, t_if, t_pure, t_point, t_contact, t_mark, t_truncate}
use Rattle.hop.specs.declared.Way.{Way}
use Rattle.hop.specs.declared.Way.TheVariants.{Arrived, Late}
use Rattle.roll.specs.declared.Ending.{Ending}
use Rattle.ground_phase.specs.GroundPhase.{time_up}
use Rattle.strike.specs.Strike.{struck, strike, rebounds, dies_out, fly_by, fly, dropped, drop}
use Rattle.strike.specs.declared.Struck.{Struck}
use Rattle.train.specs.Train.{last_impact, to_ground, train_from_by, train_from, train}
use Rattle.promises.specs.Terms.{Ok, under, Placed}
use Rattle.promises.proofs.Finite.{state_finite}
use Rattle.promises.specs.Bracketed.{Timed, Later}
use Rattle.promises.proofs.OnePass.{Paced}
use Rattle.promises.proofs.EachPass.{impact_time, dropped_time}
use Rattle.promises.proofs.Parts.{state_of, impact_stays, drop_stays, same_under}
use Rattle.promises.specs.Table.{time_of, FirstAt, InOrder, AfterFirst, OnCourse, Rested}
use Rattle.promises.specs.Ordered.{UpTo, up_ordered, up_later, up_more, Marked, marked, marked_more, IfAny, if_any, after_more}
use Rattle.promises.proofs.Walked.{Any, contacts_of, points_of, Of, Carries, w_look, w_test, IsRest, IsImpacts, Landed, Over, h_hop, g_time_up, g_ground}

self : (s : BallState) → Timed s → T (le s.time s.time)
self s i = le_self s.time (state_finite s i.ok).time

-- what is told of a run that ended, on the course o, with at most so many contacts by max_impacts
pub record Told (o : Oracle) (c : Conditions) (most : ℕ) (start : Float) (e : Ending) (w : Past) : Type 0 where
  pub first : FirstAt start (contacts_of w)
  pub contact_times_lem : InOrder (contacts_of w)
  pub point_times : InOrder (points_of w)
  pub heights : AfterFirst (OnCourse o) (contacts_of w)
  pub some : 1 ≤ length (contacts_of w)
  pub impacts : IsImpacts e.how → length (contacts_of w) ≡ most
  pub rest : IsRest e.how → Rested o c w.made e.state

-- the first record is at t₀; with none yet, t is t₀
abbrev Begins : Float → Float → Records → Type 0
Begins t₀ t [] = t ≡ t₀
Begins t₀ t (r ∷ rs) = time_of r ≡ t₀

begins_more : (t₀ : Float) (rs : Records) (r : List Float) (u : Float) → Begins t₀ (time_of r) rs → Begins t₀ u (rs ++ (r ∷ []))
begins_more t₀ [] r u h = h
begins_more t₀ (s ∷ rs) r u h = h

begins_first : (t₀ : Float) (rs : Records) (u : Float) → Begins t₀ u rs → FirstAt t₀ rs
begins_first t₀ [] u h = tt
begins_first t₀ (r ∷ rs) u h = h

module _ (o : Oracle) (c : Conditions) (paced : Paced c) (most : ℕ) (start : Float) where
  abbrev Tells : Ending → Past → Type 0
  Tells = Told o c most start

  -- ---- the contacts

  -- before an impact of s, with n contacts to come by max_impacts: s lies on the course, unless it is the first
  record Before (n : ℕ) (s : BallState) (cs : Records) : Type 0 where
    times : UpTo s.time cs
    heights : AfterFirst (OnCourse o) cs
    landed : IfAny (Placed o s) cs
    count : n + length cs ≡ most
    from : Begins start s.time cs

  -- with a contact at the time t pushed, and n to come
  record After (n : ℕ) (t : Float) (cs : Records) : Type 0 where
    times : UpTo t cs
    heights : AfterFirst (OnCourse o) cs
    count : n + length cs ≡ most
    some : 1 ≤ length cs
    from : (u : Float) → Begins start u cs

  touched : (n : ℕ) (s : BallState) (at : GroundSample) (b : BallState) (cs : Records) → Timed s → Before (suc n) s cs
      → After n s.time (cs ++ (contact_of s at b ∷ []))
  touched n s at b cs i h =
      let k = h.count in
      let d = length-append cs (contact_of s at b ∷ []) in
      record {
        times = up_more s.time cs (contact_of s at b) refl (self s i) h.times;
        heights = after_more (OnCourse o) cs (contact_of s at b) h.heights h.landed;
        count = rw d (omega (arith, k));
        some = rw d (omega arith);
        from = λ u. begins_more start cs (contact_of s at b) u h.from;
      }

  goes_on : (n : ℕ) (t : Float) (b : BallState) (cs : Records) → Later t b → Placed o b → After n t cs → Before n b cs
  goes_on n t b cs l p h =
      record { times = up_later t b.time cs l.later h.times; heights = h.heights; landed = if_any (Placed o b) cs p; count = h.count; from = h.from b.time }

  -- ---- what the parts of the train keep

  -- the points to the time t
  module _ (K : Records → Type 0) where
    abbrev points : Float → Records → Records → Type 0
    points t cs ps = K cs × UpTo t ps

    points_carry : Carries points
    points_carry =
        record {
          later = λ t u cs ps l h. (h.0, up_later t u ps l h.1);
          more = λ s f y cs ps i h. (h.0, up_more s.time ps (point_of s f y) refl (self s i) h.1);
        }

    -- and those before the mark m, to the time t₀
    abbrev PastMark : ℕ → Float → Float → Records → Records → Type 0
    PastMark m t₀ t cs ps = K cs × (UpTo t ps × Marked m t₀ ps)

    mark_carries : (m : ℕ) (t₀ : Float) → Carries (PastMark m t₀)
    mark_carries m t₀ =
        record {
          later = λ t u cs ps l h. (h.0, (up_later t u ps l h.1.0, h.1.1));
          more = λ s f y cs ps i h. (h.0, (up_more s.time ps (point_of s f y) refl (self s i) h.1.0, marked_more m t₀ ps (point_of s f y) h.1.1));
        }

    abbrev To : Float → Past → Type 0
    To t = Of (λ cs ps ms. points t cs ps)

  -- ---- an impact

  record HitOf (s : BallState) (hit : Struck) : Type 0 where
    at : hit.«at» ≡ under o s
    out : hit.out ≡ impact_of s (under o s) c.ball
    timed : Timed hit.out
    time : hit.out.time ≡ s.time

  module _ (K : Records → Type 0) (s : BallState) (i : Timed s) where
    t_strike : Triple o (To K s.time) (strike c s) (λ hit w. To K hit.out.time w × HitOf s hit) Any
    unfolding strike
    t_strike = t_then (w_look (λ cs ps ms. points K s.time cs ps) _ _) (λ g h. t_then (w_test (λ cs ps ms. points K s.time cs ps) _) (λ b k.
        t_pure (λ w a. (rw (k.0, impact_time s g c.ball) a, hit g h b k.0 k.1))))
      where
        hit : (g : GroundSample) → g ≡ under o s → (b : BallState) → b ≡ impact_of s g c.ball → Ok (impact_of s g c.ball) → HitOf s (struck g b)
        hit g h b d ok =
            record {
              at = h;
              out = d ∙ ap (λ (x : GroundSample). impact_of s x c.ball) h;
              timed = rw d (record { ok = ok; double = rw (impact_time s g c.ball) i.double });
              time = rw d (impact_time s g c.ball);
            }

  module _ (K : Records → Type 0) (s : BallState) (hit : Struck) (h : HitOf s hit) where
    -- flown, or on the ground with the points as they were
    abbrev FlownTo : Option Way → Past → Type 0
    FlownTo (Some way) w = To K (state_of way).time w × (Later hit.out.time (state_of way) × Landed o way)
    FlownTo None w = To K hit.out.time w

    t_fly : (hops : Bool) → Triple o (To K hit.out.time) (fly c hops s hit) FlownTo Any
    unfolding fly_by
    t_fly hops =
        let t₀ = hit.out.time in
        t_if (not hops) (λ _. t_pure (λ w a. a)) (λ _.
        t_bind {Q = λ m. Of (λ cs ps ms. PastMark K m t₀ t₀ cs ps)} (t_mark (λ w a. (a.0, (a.1, marked t₀ _ a.1)))) (λ m.
        t_bind {Q = λ _. Of (λ cs ps ms. PastMark K m t₀ t₀ cs ps)} (t_point hit.out InHop
        (λ w a _ _. (mark_carries K m t₀).more hit.out InHop _ _ _ h.timed a) (λ w a _ _. tt) (λ w a _. tt)) (λ _.
        t_bind (h_hop o c paced (PastMark K m t₀) (mark_carries K m t₀) hit.out h.timed) (elim [
          | Late b ↦ t_pure (λ w a. ((a.0.0, a.0.1.0), a.1))
          | Arrived b ↦ t_if (dies_out c s hit b) (λ _. t_pure (λ w a. ((a.0.0, a.0.1.0), a.1)))
              (λ _. t_bind {Q = λ _. To K t₀} (t_truncate m (λ w a. (a.0.0, a.0.1.1.kept))) (λ _. t_pure (λ w a. a)))
        ]))))

  -- ---- the end

  -- the ground's ends, and the hop's at t_end, with n contacts to come
  by_ground : (n : ℕ) (t : Float) (e : Ending) (w : Past) → Over o c paced (points (After n t)) (points_carry (After n t)) e w → Tells e w
  by_ground n t e w h =
      let a = h.0.0 in
      record {
        first = begins_first start (contacts_of w) t (a.from t);
        contact_times_lem = up_ordered t (contacts_of w) a.times;
        point_times = up_ordered e.state.time (points_of w) h.0.1;
        heights = a.heights;
        some = a.some;
        impacts = λ i. absurd (h.1.1 i);
        rest = h.1.0;
      }

  module _ (s : BallState) (i : Timed s) (hit : Struck) (h : HitOf s hit) where
    -- one contact more, of s
    t_touch : (n : ℕ) (t : Float) (at : GroundSample) (b : BallState)
        → Triple o (To (Before (suc n) s) t) (push_contact s at b) (λ _. To (After n s.time) t) Any
    t_touch n t at b = t_contact s at b (λ w a _. (touched n s at b _ i a.0, a.1)) (λ w a _. tt)

    t_drop : (n : ℕ)
        → Triple o (To (Before (suc n) s) hit.out.time) (drop c s hit) (λ b w. To (After n s.time) b.time w × ((b ≡ dropped c hit) × Timed b)) Any
    unfolding drop
    t_drop n = t_then (w_test (λ cs ps ms. points (Before (suc n) s) hit.out.time cs ps) _) (λ b k.
        t_bind (t_touch n hit.out.time hit.«at» b) (λ _. t_pure (λ w a. (rw (k.0, dropped_time c hit) a, (k.0, rw k.0 (timed k.1))))))
      where
        timed : Ok (dropped c hit) → Timed (dropped c hit)
        timed ok = record { ok = ok; double = rw (dropped_time c hit) h.timed.double }

    t_to_ground : (n : ℕ) → Triple o (To (Before (suc n) s) hit.out.time) (to_ground c s hit) Tells Any
    unfolding to_ground
    t_to_ground n = t_then (t_drop n) (λ b d. t_after (by_ground n s.time) (λ n w _. tt)
        (g_ground o c paced (points (After n s.time)) (points_carry (After n s.time)) b hit.«at» d.1 (below b d.0)))
      where
        below : (b : BallState) → b ≡ dropped c hit → hit.«at» ≡ under o b
        below b d =
            rw (d, same_under o (dropped c hit) hit.out (drop_stays c hit), h.at, h.out, same_under o _ _ (impact_stays s (under o s) c.ball))

    t_last_impact : Triple o (To (Before 1 s) hit.out.time) (last_impact s hit) Tells Any
    unfolding last_impact
    t_last_impact = t_bind (t_touch 0 hit.out.time _ _) (λ _. t_bind {Q = λ _. To (After 0 s.time) hit.out.time}
        (t_point hit.out InHop
        (λ w a _ _. (points_carry (After 0 s.time)).more hit.out InHop _ (contacts_of w) (points_of w) h.timed a) (λ w a _ _. tt) (λ w a _. tt))
        (λ _. t_pure (λ w a. let k = a.0.count in
        record {
          first = begins_first start (contacts_of w) s.time (a.0.from s.time);
          contact_times_lem = up_ordered s.time (contacts_of w) a.0.times;
          point_times = up_ordered hit.out.time (points_of w) a.1;
          heights = a.0.heights;
          some = a.0.some;
          impacts = λ _. omega (arith, k);
          rest = λ z. absurd z;
        })))

  -- ---- the train

  since : (s : BallState) (hit : Struck) → HitOf s hit → (b : BallState) → Later hit.out.time b → Later s.time b
  since s hit h b l = record { timed = l.timed; later = rw (← h.time) l.later }

  abbrev Trains : ℕ → Type 0
  Trains n = (s : BallState) → Timed s → Triple o (To (Before (suc n) s) s.time) (train_from c n s) Tells Any

  -- after a hop that was kept: its contact, and then the train or the end
  module _ (n : ℕ) (s : BallState) (i : Timed s) (hit : Struck) (h : HitOf s hit) where
    t_kept : (way : Way) → Triple o (FlownTo (Before (suc (suc n)) s) s hit h (Some way)) (push_contact s hit.«at» hit.out)
        (λ _ w. To (After (suc n) s.time) (state_of way).time w × (Later hit.out.time (state_of way) × Landed o way)) Any
    t_kept way =
        t_contact s hit.«at» hit.out (λ w a _. ((touched (suc n) s hit.«at» hit.out (contacts_of w) i a.0.0, a.0.1), a.1)) (λ w a _. tt)

    t_on : Trains n → (way : Way) → Later hit.out.time (state_of way) × Landed o way
        → Triple o (To (After (suc n) s.time) (state_of way).time) (elim way [ Arrived b ↦ train_from c n b | Late b ↦ time_up b InHop ]) Tells Any
    t_on f (Arrived b) l = t_before (λ w a. (goes_on (suc n) s.time b _ (since s hit h b l.0) l.1 a.0, a.1)) (f b l.0.timed)
    t_on f (Late b) l = t_after (by_ground (suc n) s.time) (λ n w _. tt)
        (g_time_up o c paced (points (After (suc n) s.time)) (points_carry (After (suc n) s.time)) b InHop l.0.timed)

  t_train_from : (n : ℕ) → Trains n
  unfolding train_from_by
  t_train_from zero s i = t_then (t_strike (Before 1 s) s i) (λ hit h.
      t_if (not (rebounds c hit)) (λ _. t_to_ground s i hit h 0) (λ _. t_last_impact s i hit h))
  t_train_from (suc n) s i = t_then (t_strike (Before (suc (suc n)) s) s i) (λ hit h. t_bind (t_fly (Before (suc (suc n)) s) s hit h _) (elim [
    | None ↦ t_to_ground s i hit h (suc n)
    | Some way ↦ t_then (t_kept n s i hit h way) (λ _. t_on n s i hit h (t_train_from n) way)
  ]))

  -- from empty lists, with all contacts to come
  pub t_train : (landing : BallState) → Timed landing → landing.time ≡ start → suc (c.physics.max_impacts - 1) ≡ most
      → Triple o (λ w. (contacts_of w ≡ []) × (points_of w ≡ [])) (train c landing) (Told o c most start) Any
  unfolding train
  t_train landing i at_start_lem d = t_before (λ w h. (rw h.0 none, rw h.1 tt)) (t_train_from (c.physics.max_impacts - 1) landing i)
    where
      none : Before (suc (c.physics.max_impacts - 1)) landing []
      none = record { times = tt; heights = tt; landed = tt; count = omega (arith, d); from = at_start_lem }
