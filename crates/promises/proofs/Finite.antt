-- Statements. What a settle leaves, under every answer: each pushed point is that of a state that passed test 22, each contact that of two such states (or the
-- landing) and of a sample of the course, no more of either than the lists have room for, and no more steps than step_limit.
use Rattle.std.specs.Prelude.{ℕ, zero, suc, ◌+◌, ◌-◌, ◌*◌, ◌/◌, ◌≤◌, ◌<◌, max, ◌≡◌, List, [], ◌∷◌, ◌++◌, length, replicate, Bool, false, ◌&&◌, T, Float}
use Rattle.std.proofs.Common.{zero-le, arith, ap}
use Rattle.std.proofs.Math.Nat.{le-max_left, le-max_right}
use Rattle.std.proofs.Math.Path.{refl}
use Rattle.std.proofs.Math.Bool.{true}
use Rattle.std.specs.Float.Ieee.{of_bits, le, neg, round}
use Rattle.number.specs.Number.{within_of, about_of, finite_of}
use Rattle.number.specs.Order.{within_of_lem, within_lo, within_hi, le_through}
use Rattle.state.specs.State.{coord_ok}
use Rattle.number.specs.Ops.{dec}
use Rattle.state.specs.declared.BallState.{BallState}
use Rattle.state.specs.declared.Phase.{Phase}
use Rattle.state.specs.declared.Phase.TheVariants.{Hop as InHop, Slide as InSlide, Roll as InRoll}
use Rattle.vector.specs.declared.DVec3.{DVec3}
use Rattle.look.specs.Rect.{no_rect}
use Rattle.look.proofs.Agree.{exec_is}
use Rattle.look.specs.Tree.{Tree, Oracle, Did, exec, run, looks}
use Rattle.look.proofs.Resume.{steps as steps_of, made as made_by, steps_are}
use Rattle.look.proofs.Within.{and_parts, coord_fin}
use Rattle.course.specs.Sheet.{Accepted, course_of}
use Rattle.records.specs.Records.{Records, null, flat, shown}
use Rattle.shot.specs.declared.Shot.{Shot}
use Rattle.shot.specs.declared.GroundPhysics.{GroundPhysics}
use Rattle.state.specs.State.{vec_ok, state_ok}
use Rattle.tally.specs.declared.Conditions.{Conditions}
use Rattle.tally.specs.Language.{Ran, Outcome, goes, stops}
use Rattle.state.specs.Numbers.{phase_number}
use Rattle.roll.specs.declared.Ending.{Ending}
use Rattle.shot.specs.Tests.{vec_about, landing_ok}
use Rattle.ground.specs.Tests.{refusal_of}
use Rattle.ground.specs.Passed.{settle_passes}
use Rattle.ground.specs.Settle.{Result, answer_by, how_by, rest_by, report_of, conditions_of, first_log, run_of, settle_of}
use Rattle.promises.specs.Samples.{Sampled, sampled, number_finite, clearance_finite}
use Rattle.tally.proofs.Triple.{Past, past, After, misses, of_run, of_every_run}
use Rattle.promises.specs.Terms.{Answer, Each, PointOf, Clear, ContactOf, Failed}
use Rattle.promises.proofs.Work.{train_works}
use Rattle.promises.specs.Keeps.{Setting, Sound, Why, contacts_full, points_full, failed, limit_reached, Stops, at_ok}
use Rattle.promises.proofs.Parts.{Ended, train_keeps}

-- ---- the landing: 7 is narrower than test 22

both : (a b : Bool) → T a → T b → T (a && b)
both true b s t = t
both false b s t = absurd s

wider : (lo hi x : Float) → T (le (neg (dec 1000000 1)) lo) → T (le hi (dec 1000000 1)) → T (within_of lo hi x) → T (coord_ok x)
unfolding coord_ok
wider lo hi x l h t = within_of_lem _ _ x (le_through _ lo x l (within_lo lo hi x t)) (le_through x hi _ (within_hi lo hi x t) h)

wider_vec : (r : Float) (v : DVec3) → T (le (neg (dec 1000000 1)) (neg r)) → T (le r (dec 1000000 1)) → T (vec_about r v) → T (vec_ok v)
unfolding vec_about vec_ok
wider_vec r v l h t =
    let a = and_parts (about_of r v.x && about_of r v.y) (about_of r v.z) t in
    let b = and_parts (about_of r v.x) (about_of r v.y) a.0 in
    both (coord_ok v.x) (coord_ok v.y && coord_ok v.z) (wider _ _ _ l h b.0)
    (both (coord_ok v.y) (coord_ok v.z) (wider _ _ _ l h b.1) (wider _ _ _ l h a.1))

pub landing_passes : (s : BallState) → T (landing_ok s) → T (state_ok s)
unfolding landing_ok state_ok le neg round
landing_passes s t =
    let w = within_of (dec 0 1) (dec 100000 1) s.time in
    let p = vec_about (dec 100000 1) s.pos in
    let v = vec_about (dec 200 1) s.vel in
    let a = and_parts (w && p && v) (vec_about (dec 5000 1) s.spin) t in
    let b = and_parts (w && p) v a.0 in
    let d = and_parts w p b.0 in
    both (coord_ok s.time) (vec_ok s.pos && (vec_ok s.vel && vec_ok s.spin)) (wider (dec 0 1) (dec 100000 1) s.time tt tt d.0)
    (both (vec_ok s.pos) (vec_ok s.vel && vec_ok s.spin) (wider_vec (dec 100000 1) s.pos tt tt d.1)
    (both (vec_ok s.vel) (vec_ok s.spin) (wider_vec (dec 200 1) s.vel tt tt b.1) (wider_vec (dec 5000 1) s.spin tt tt a.1)))

-- ---- what an accepted settle leaves

passed : (b : Bool) → T b → b ≡ true
passed true t = refl
passed false t = absurd t

module _ (sheet : List ℕ) (shot : Shot) (cs ps : List Float) where
  abbrev got : Result
  got = settle_of sheet shot cs ps

  abbrev o : Oracle
  o = course_of sheet

  abbrev limit : ℕ
  limit = shot.step_limit

  abbrev p : GroundPhysics
  p = shot.physics

  abbrev landing : BallState
  landing = shot.landing

  abbrev c : Conditions
  c = conditions_of shot

  abbrev t : Tree (Ran Ending)
  t = run_of shot (length cs) (length ps)

  -- what an accepted call leaves, under the answers 0 and 20 to 23
  pub record Leaves : Type 0 where
    pub contacts : Records
    pub points : Records
    -- those of the run's log
    pub logged : (contacts ≡ (run o t).log.contacts.records) × (points ≡ (run o t).log.points.records)
    -- both lists are these records, in order, and +0 in all the rest
    pub contacts_listed : got.contacts ≡ shown (length cs) contacts
    pub points_listed : got.points ≡ shown (length ps) points
    pub contacts_counted : got.settled.contacts ≡ length contacts
    pub points_counted : got.settled.points ≡ length points
    -- no more than the lists have room for
    pub contacts_fit : length contacts ≤ length cs / 20
    pub points_fit : length points ≤ length ps / 12
    -- nor than max_impacts allows
    pub contacts_few : length contacts ≤ max 1 p.max_impacts
    pub each_contact : Each (ContactOf o) contacts
    pub each_point : Each (PointOf o) points
    pub steps : got.settled.steps ≤ limit
    -- 20 comes with every lent contact record pushed, 21 with every lent point record, 23 with step_limit steps made; 22 where a test failed
    pub contacts_full : got.settled.answer ≡ 20 → (length contacts ≡ length cs / 20) × (length contacts < max 1 p.max_impacts)
    pub points_full : got.settled.answer ≡ 21 → length points ≡ length ps / 12
    pub failed : got.settled.answer ≡ 22 → Failed o c landing (misses o t) got.settled.rest
    pub limit_reached : got.settled.answer ≡ 23 → got.settled.steps ≡ limit
    -- the count is of the steps that the run made
    pub made : got.settled.steps ≡ steps_of o t
    -- and the evaluations are at most 200 a step
    pub work : got.settled.evaluations ≤ 200 * got.settled.steps
    pub answer : Answer got.settled.termination got.settled.answer
    -- the final state passes test 22
    pub rest : state_ok got.settled.rest ≡ true

  impacts_left : (n : ℕ) → suc (n - 1) + 0 ≤ max 1 n
  impacts_left n = let a = le-max_left 1 n in let b = le-max_right 1 n in omega (arith, a, b)

  abbrev e : Setting
  e = record { course = o; conditions = c; landing = landing; contacts = length cs / 20; points = length ps / 12; most = max 1 p.max_impacts }

  -- what the whole run has behind it
  abbrev end : Past
  end = past (run o t).log (made_by o t) (looks o t) (misses o t)

  pub value_is : (exec o no_rect t).value ≡ run o t
  value_is = ap (λ (d : Did (Ran Ending)). d.value) (exec_is o no_rect t)

  abbrev Afterwards : Outcome Ending → Past → Type 0
  Afterwards x w = After (Ended e) (Stops e) x w

  all_sound : (x : Outcome Ending) (w : Past) → Afterwards x w → Sound e w.log (length w.made)
  all_sound (goes d) w h = h.0.sound
  all_sound (stops n) w h = h.sound

  rest_ok : (x : Outcome Ending) (w : Past) → Afterwards x w → state_ok (rest_by x w.log.good) ≡ true
  rest_ok (goes d) w h = at_ok h.0
  rest_ok (stops n) w h = h.sound.good

  answer_is : (x : Outcome Ending) (w : Past) → Afterwards x w → Answer (how_by x) (answer_by x)
  answer_is (goes d) w h = h.1
  answer_is (stops n) w h = numbers h.why
    where
      numbers : {n : ℕ} → Why e w n → (20 ≤ n) × (n ≤ 23)
      numbers (contacts_full a b d) = (omega arith, omega arith)
      numbers (points_full a b) = (omega arith, omega arith)
      numbers (failed a) = (omega arith, omega arith)
      numbers (limit_reached a b) = (omega arith, omega arith)

  -- the reason of each number
  module _ {w : Past} where
    reason_20 : Why e w 20 → (length w.log.contacts.records ≡ length cs / 20) × (length w.log.contacts.records < max 1 p.max_impacts)
    reason_20 (contacts_full a b d) = (b, d)

    reason_21 : Why e w 21 → length w.log.points.records ≡ length ps / 12
    reason_21 (points_full a b) = b

    reason_22 : Why e w 22 → Failed o c landing w.off w.log.good
    reason_22 (failed a) = a

    reason_23 : Why e w 23 → w.log.steps ≡ limit
    unfolding conditions_of
    reason_23 (limit_reached a b) = b

  -- a run that stops with n has n's reason
  reason : (x : Outcome Ending) (w : Past) → Afterwards x w → (n : ℕ) → 0 < n → answer_by x ≡ n → Why e w n × (rest_by x w.log.good ≡ w.log.good)
  reason (goes d) w h n z a = absurd (omega (arith, z, a))
  reason (stops m) w h n z a = (rw a at h.why, refl)

  pub settle_leaves : refusal_of sheet shot (length cs) (length ps) ≡ 0 → Leaves
  unfolding settle_of report_of run_of conditions_of
  settle_leaves h =
      let seven = (settle_passes sheet shot (length cs) (length ps) h).landing in
      let ok : state_ok landing ≡ true = passed (state_ok landing) (landing_passes landing (rw seven tt)) in
      let k = of_run o (train_keeps e landing) (first_log landing (length cs) (length ps))
      (record {
        sound = record {
          good = ok;
          contacts = record { each = tt; few = zero-le; room = refl };
          points = record { each = tt; few = zero-le; room = refl };
          few_impacts = zero-le;
          counted = (refl, zero-le);
        };
        frame = impacts_left p.max_impacts;
        good = refl;
        over = λ d. d;
        on = refl;
      }) in
      let s = all_sound (run o t).outcome end k in
      let y = reason (run o t).outcome end k in
      record {
        contacts = (run o t).log.contacts.records;
        points = (run o t).log.points.records;
        logged = (refl, refl);
        contacts_listed = rw (h, value_is);
        points_listed = rw (h, value_is);
        contacts_counted = rw (h, value_is);
        points_counted = rw (h, value_is);
        contacts_fit = s.contacts.few;
        points_fit = s.points.few;
        contacts_few = s.few_impacts;
        each_contact = s.contacts.each;
        each_point = s.points.each;
        steps = rw (h, value_is) s.counted.1;
        made = rw (h, value_is, ← steps_are o t) s.counted.0;
        work = rw (h, value_is)
            (let few = of_every_run o (train_works o c landing) (first_log landing (length cs) (length ps)) (omega arith) in omega (arith, few));
        answer = rw (h, value_is) (answer_is (run o t).outcome end k);
        contacts_full = rw (h, value_is) (λ a. reason_20 (y 20 (omega arith) a).0);
        points_full = rw (h, value_is) (λ a. reason_21 (y 21 (omega arith) a).0);
        failed = rw (h, value_is) (λ a. let r = y 22 (omega arith) a in rw r.1 (reason_22 r.0));
        limit_reached = rw (h, value_is) (λ a. reason_23 (y 23 (omega arith) a).0);
        rest = rw (h, value_is) (rest_ok (run o t).outcome end k);
      }

-- ---- every number of a pushed point is finite, its clearance too

abbrev pub Finite : List Float → Type 0
Finite [] = Unit
Finite (x ∷ l) = T (finite_of x) × Finite l

vec_finite : (v : DVec3) → T (vec_ok v) → T (finite_of v.x) × T (finite_of v.y) × T (finite_of v.z)
unfolding vec_ok
vec_finite v t =
    let a = and_parts (coord_ok v.x) (coord_ok v.y && coord_ok v.z) t in
    let b = and_parts (coord_ok v.y) (coord_ok v.z) a.1 in
    (coord_fin _ a.0, coord_fin _ b.0, coord_fin _ b.1)

phase_finite : (p : Phase) → T (finite_of (phase_number p))
unfolding round
phase_finite InHop = tt
phase_finite InSlide = tt
phase_finite InRoll = tt

-- the ten numbers of a state that passed test 22
pub record StateFinite (s : BallState) : Type 0 where
  pub time : T (finite_of s.time)
  pub pos : T (finite_of s.pos.x) × T (finite_of s.pos.y) × T (finite_of s.pos.z)
  pub vel : T (finite_of s.vel.x) × T (finite_of s.vel.y) × T (finite_of s.vel.z)
  pub spin : T (finite_of s.spin.x) × T (finite_of s.spin.y) × T (finite_of s.spin.z)

pub state_finite : (s : BallState) → state_ok s ≡ true → StateFinite s
unfolding state_ok
state_finite s h =
    let a = and_parts (coord_ok s.time) (vec_ok s.pos && (vec_ok s.vel && vec_ok s.spin)) (rw h tt) in
    let b = and_parts (vec_ok s.pos) (vec_ok s.vel && vec_ok s.spin) a.1 in
    let d = and_parts (vec_ok s.vel) (vec_ok s.spin) b.1 in
    record { time = coord_fin _ a.0; pos = vec_finite s.pos b.0; vel = vec_finite s.vel d.0; spin = vec_finite s.spin d.1 }

y_ok : (s : BallState) → state_ok s ≡ true → T (coord_ok s.pos.y)
unfolding state_ok vec_ok
y_ok s h =
    let a = and_parts (coord_ok s.time) (vec_ok s.pos && (vec_ok s.vel && vec_ok s.spin)) (rw h tt) in
    let b = and_parts (vec_ok s.pos) (vec_ok s.vel && vec_ok s.spin) a.1 in
    let p = s.pos in
    (and_parts (coord_ok p.y) (coord_ok p.z) (and_parts (coord_ok p.x) (coord_ok p.y && coord_ok p.z) b.0).1).0

pub point_finite : (s : List ℕ) → Accepted s → (r : List Float) → PointOf (course_of s) r → Finite r
point_finite t ok r h =
    let s = state_finite h.state h.ok in
    let c = clearance_finite t h.state.pos.x h.state.pos.y h.state.pos.z ok (rw h.spot_ok_lem tt) (y_ok h.state h.ok) in
    let x = s.pos in
    let v = s.vel in
    let w = s.spin in
    rw h.is (s.time, (x.0, (x.1, (x.2, (v.0, (v.1, (v.2, (w.0, (w.1, (w.2, (phase_finite h.phase, (c, tt))))))))))))

-- its twelfth number is its y less the course's height at its x and z
pub point_clear : (s : List ℕ) → Accepted s → (r : List Float) → PointOf (course_of s) r → Clear (course_of s) r
point_clear s ok r h =
    let p = h.state.pos in
    let f = clearance_finite s p.x p.y p.z ok (rw h.spot_ok_lem tt) (y_ok h.state h.ok) in
    rw h.is (record { wide = refl; is = refl; finite = f })

pub each_map : (P Q : List Float → Type 0) → ((r : List Float) → P r → Q r) → (rs : Records) → Each P rs → Each Q rs
each_map P Q f [] h = tt
each_map P Q f (r ∷ rs) h = (f r h.0, each_map P Q f rs h.1)

-- every number of a pushed contact is finite
pub contact_finite : (s : List ℕ) → Accepted s → (r : List Float) → ContactOf (course_of s) r → Finite r
contact_finite s ok r h =
    let a = state_finite h.arrival h.came in
    let b = state_finite h.departure h.left in
    let g : Sampled h.sample = rw h.seen.is (sampled s h.seen.x h.seen.z ok) in
    let x = a.pos in
    let n = g.normal in
    let v = a.vel in
    let u = b.vel in
    let w = a.spin in
    let q = b.spin in
    rw h.is (
      a.time,
      (
        x.0,
        (
          x.1,
          (
            x.2,
            (
              n.0,
              (
                n.1,
                (
                  n.2,
                  (
                    number_finite h.sample.number g.number,
                    (v.0, (v.1, (v.2, (u.0, (u.1, (u.2, (w.0, (w.1, (w.2, (q.0, (q.1, (q.2, tt)))))))))))),
                  ),
                ),
              ),
            ),
          ),
        ),
      ),
    )

-- records that are finite, and +0 in all the rest
finite_append : (a b : List Float) → Finite a → Finite b → Finite (a ++ b)
finite_append [] b h k = k
finite_append (x ∷ a) b h k = (h.0, finite_append a b h.1 k)

finite_zeros : (n : ℕ) → Finite (replicate n null)
unfolding of_bits
finite_zeros zero = tt
finite_zeros (suc n) = (tt, finite_zeros n)

finite_flat : (P : List Float → Type 0) → ((r : List Float) → P r → Finite r) → (rs : Records) → Each P rs → Finite (flat rs)
unfolding flat
finite_flat P f [] h = tt
finite_flat P f (r ∷ rs) h = finite_append r (flat rs) (f r h.0) (finite_flat P f rs h.1)

pub finite_shown : (P : List Float → Type 0) → ((r : List Float) → P r → Finite r) → (n : ℕ) (rs : Records) → Each P rs → Finite (shown n rs)
unfolding shown
finite_shown P f n rs h = finite_append (flat rs) _ (finite_flat P f rs h) (finite_zeros (n - length (flat rs)))
