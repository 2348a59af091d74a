-- Statements. What 01 promises of every settle, on one page: each is one statement on what a call gives, proved from the lemmas of Finite.
use Rattle.std.specs.Prelude.{ℕ, ◌*◌, ◌/◌, ◌≤◌, ◌<◌, max, ◌≡◌, ◌⊎◌, Bool, ◌&&◌, List, T, leb, Float, length, Option, Some, None}
use Rattle.std.proofs.Common.{zero-le, arith, ◌∙◌, inl, inr, leb→le}
use Rattle.std.proofs.Math.Nat.{max-le}
use Rattle.std.proofs.Math.Path.{refl}
use Rattle.std.proofs.Math.Bool.{true, false}
use Rattle.std.proofs.Math.Dec.{eqb}
use borrow.Author.Tests.{eqb-true, eqb-false}
use Rattle.number.specs.Ops.{dec}
use Rattle.number.specs.Number.{within_of, about_of, finite_of}
use Rattle.state.specs.declared.BallState.{BallState}
use Rattle.state.specs.declared.Phase.{Phase}
use Rattle.state.specs.State.{coord_ok, state_ok}
use Rattle.look.specs.Rect.{Rect, no_rect}
use Rattle.look.specs.Tree.{Oracle, exec}
use Rattle.records.specs.Records.{Records, shown}
use Rattle.look.proofs.Resume.{steps as steps_of}
use Rattle.look.proofs.Within.{Edges, and_parts, coord_fin, edges_ok_lem, no_rect_ok}
use Rattle.course.specs.Sheet.{course_of}
use Rattle.shot.specs.declared.Shot.{Shot}
use Rattle.shot.specs.declared.GroundPhysics.{GroundPhysics}
use Rattle.state.specs.declared.Termination.{Termination}
use Rattle.state.specs.declared.Termination.TheVariants.{Rest, MaxTime, MaxImpacts}
use Rattle.shot.specs.Tests.{step_physics_ok, physics_ok, input_test}
use Rattle.ground.specs.Tests.{refusal_of}
use Rattle.roll.specs.Roll.{step_on, put_down, ground_step}
use Rattle.ground_phase.specs.GroundPhase.{ground_from, ground}
use Rattle.strike.specs.Strike.{strike, rebounds, dropped, drop}
use Rattle.train.specs.Train.{to_ground, train_from_by, train}
use Rattle.tally.specs.Language.{push_point, steps_left}
use Rattle.ground.specs.Passed.{settle_sheet, settle_passes}
use Rattle.ground.specs.Settle.{Result, report_of, conditions_of, run_of, settle_of}
use Rattle.tally.proofs.Triple.{misses, Triple, t_point}
use Rattle.promises.specs.Terms.{Answer, Each, OverDoubles, PointOf, Clear, ContactOf, Failed}
use Rattle.promises.specs.Keeps.{own_spot, not_both}
use Rattle.promises.proofs.Finite.{Finite, StateFinite, state_finite, point_finite, point_clear, each_map, contact_finite, finite_shown, settle_leaves}
use Rattle.promises.specs.Promises.{refused_answer, refused_result}

-- finite, and of magnitude at most 1,000,000
abbrev pub About : Float → Type 0
About x = T (finite_of x) × T (about_of (dec 1000000 1) x)

about : (r : Rect) → Edges (λ x. T (coord_ok x)) r → Edges About r
unfolding coord_ok
about r h = ((coord_fin _ h.0, h.0), (coord_fin _ h.1, h.1), (coord_fin _ h.2, h.2), (coord_fin _ h.3, h.3))

-- test 4 lets through at most 64 impacts
at_most_64 : (p : GroundPhysics) (limit : ℕ) → physics_ok p limit ≡ true → p.max_impacts ≤ 64
unfolding physics_ok
at_most_64 p limit h =
    let n = leb p.max_impacts 64 in
    let x = step_physics_ok p.dt p.stop_speed p.roll_threshold && within_of (dec 0 1) (dec 1 1) p.min_hop_height
    && within_of (dec 0 1) (dec 600 1) p.max_time in
    let t = (and_parts (x && n && leb 1 limit) (leb limit 2000000) (rw h tt)).0 in
    leb→le p.max_impacts 64 (and_parts x n (and_parts (x && n) (leb 1 limit) t).0).1

module _ (sheet : List ℕ) (shot : Shot) (cs ps : List Float) where
  -- what the call gives; the number of the first test that it fails, or 0
  abbrev got : Result
  got = settle_of sheet shot cs ps

  abbrev number : ℕ
  number = refusal_of sheet shot (length cs) (length ps)

  -- 01: "the lists above say when each number comes and at no other time, which demand 1 carries". An accepted call answers 0 and ends by rest, time
  -- or impacts; or it answers 20, 21, 22 or 23 and has no termination
  pub accepted_answer : number ≡ 0 → Answer got.settled.termination got.settled.answer
  accepted_answer h = (settle_leaves sheet shot cs ps h).answer

  -- of every call: 0 to 8, or 20 to 23
  pub answers : (got.settled.answer ≤ 8) ⊎ ((20 ≤ got.settled.answer) × (got.settled.answer ≤ 23))
  answers = go (eqb number 0) refl
    where
      range : (t : Option Termination) (n : ℕ) → Answer t n → (n ≤ 8) ⊎ ((20 ≤ n) × (n ≤ 23))
      range None n a = inr a
      range (Some Rest) n a = inl (omega (arith, a))
      range (Some MaxTime) n a = inl (omega (arith, a))
      range (Some MaxImpacts) n a = inl (omega (arith, a))

      go : (b : Bool) → eqb number 0 ≡ b → (got.settled.answer ≤ 8) ⊎ ((20 ≤ got.settled.answer) × (got.settled.answer ≤ 23))
      go true e = range got.settled.termination got.settled.answer (accepted_answer (eqb-true number 0 e))
      go false e = inl (refused_answer sheet shot cs ps (eqb-false number 0 e)).1

  -- ---- when each number comes

  -- an answer above 8 comes from an accepted call
  stopped : (n : ℕ) → 8 < n → got.settled.answer ≡ n → number ≡ 0
  stopped n l h = go (eqb number 0) refl
    where
      go : (b : Bool) → eqb number 0 ≡ b → number ≡ 0
      go true e = eqb-true number 0 e
      go false e = absurd (let i = (refused_answer sheet shot cs ps (eqb-false number 0 e)).1 in omega (arith, l, h, i))

  -- 20, 21: "a push finds contacts, points full". 20 comes only with every lent contact record pushed, 21 only with every lent point record
  pub only_20 : got.settled.answer ≡ 20 → got.settled.contacts ≡ length cs / 20
  only_20 h = let l = settle_leaves sheet shot cs ps (stopped 20 (omega arith) h) in l.contacts_counted ∙ (l.contacts_full h).0

  pub only_21 : got.settled.answer ≡ 21 → got.settled.points ≡ length ps / 12
  only_21 h = let l = settle_leaves sheet shot cs ps (stopped 21 (omega arith) h) in l.points_counted ∙ l.points_full h

  -- 22: "a test above failed". 22 comes only where a test failed: of a spot before its look, the one that failed in the run, which lay on the path of
  -- a hop step or where a ground step came to, so that no look before a push of a point brings 22 (a landing over doubles, as every program's is); or,
  -- no spot having failed, of a state that followed the final state of the result by an impact, a hop step, an arrival, a drop or a ground step
  pub only_22 : got.settled.answer ≡ 22
      → Failed (course_of sheet) (conditions_of shot) shot.landing
      (misses (course_of sheet) (run_of shot (length cs) (length ps))) got.settled.rest
  only_22 h = (settle_leaves sheet shot cs ps (stopped 22 (omega arith) h)).failed h

  -- 23: "step_limit steps taken and one more due". 23 comes only with step_limit steps made
  pub only_23 : got.settled.answer ≡ 23 → got.settled.steps ≡ shot.step_limit
  only_23 h = (settle_leaves sheet shot cs ps (stopped 23 (omega arith) h)).limit_reached h

  -- ---- how many contacts

  -- of every call: no more than max(1, max_impacts), under every answer
  pub few_contacts : got.settled.contacts ≤ max 1 shot.physics.max_impacts
  few_contacts = go (eqb number 0) refl
    where
      go : (b : Bool) → eqb number 0 ≡ b → got.settled.contacts ≤ max 1 shot.physics.max_impacts
      go true e = let l = settle_leaves sheet shot cs ps (eqb-true number 0 e) in rw l.contacts_counted l.contacts_few
      go false e = rw (refused_result sheet shot cs ps (eqb-false number 0 e)).counts.0 zero-le

  allowed : number ≡ 0 → max 1 shot.physics.max_impacts ≤ 64
  allowed h = max-le (omega arith) (at_most_64 shot.physics shot.step_limit (settle_passes sheet shot (length cs) (length ps) h).physics)

  -- so an accepted call pushes at most 64
  pub most_contacts : number ≡ 0 → got.settled.contacts ≤ 64
  most_contacts h = let a = allowed h in let f = few_contacts in omega (arith, a, f)

  -- 02, paper 5: "a contact list of 64 records or more can never bring number 20"
  pub never_20 : 64 ≤ length cs / 20 → got.settled.answer ≡ 20 → ⊥
  never_20 r h =
      let a = stopped 20 (omega arith) h in
      let full = (settle_leaves sheet shot cs ps a).contacts_full h in
      let i = full.0 in
      let j = full.1 in
      let k = allowed a in
      omega (arith, r, i, j, k)

  -- 01: "Result of a settle: the number": 0 comes from accepted calls alone
  pub answered : got.settled.answer ≡ 0 → number ≡ 0
  unfolding settle_of
  answered h = go (eqb number 0) refl
    where
      go : (b : Bool) → eqb number 0 ≡ b → number ≡ 0
      go true e = eqb-true number 0 e
      go false e = rw e at h

  -- 01: "termination (`rest`, `time`, `impacts`, or `-` on a refusal)": of every call, one of the three exactly with answer 0
  pub finished : got.settled.answer ≡ 0 → got.settled.termination ≡ None → ⊥
  finished h e = let k : Answer None 0 = rw (e, h) at (accepted_answer (answered h)) in let i = k.0 in omega (arith, i)

  pub unfinished : (got.settled.answer ≡ 0 → ⊥) → got.settled.termination ≡ None
  unfinished h = go (eqb number 0) refl
    where
      none : (t : Option Termination) (n : ℕ) → (n ≡ 0 → ⊥) → Answer t n → t ≡ None
      none None n h a = refl
      none (Some Rest) n h a = absurd (h a)
      none (Some MaxTime) n h a = absurd (h a)
      none (Some MaxImpacts) n h a = absurd (h a)

      go : (b : Bool) → eqb number 0 ≡ b → got.settled.termination ≡ None
      go true e = none _ _ h (accepted_answer (eqb-true number 0 e))
      go false e = (refused_answer sheet shot cs ps (eqb-false number 0 e)).2

  -- Demand 1: no NaN and no infinity in any record or final state. 01: "finite, magnitude ≤ 1,000,000" of what is tested, "+0 in all the rest" of the
  -- lists. So every double of both lists is finite, past the counts too
  pub record AllFinite : Type 0 where
    pub contacts : Finite got.contacts
    pub points : Finite got.points
    pub rest : StateFinite got.settled.rest

  pub all_finite : number ≡ 0 → AllFinite
  all_finite h =
      let l = settle_leaves sheet shot cs ps h in
      let accepted = settle_sheet sheet shot (length cs) (length ps) h in
      let k = contact_finite sheet accepted in
      record {
        contacts = rw l.contacts_listed (finite_shown (ContactOf (course_of sheet)) k _ l.contacts l.each_contact);
        points = rw l.points_listed (finite_shown (PointOf (course_of sheet)) (point_finite sheet accepted) _ l.points l.each_point);
        rest = state_finite _ l.rest;
      }

  -- 02, paper 12: "Each point gains a twelfth number: y less the course height at its x and z". Of every accepted call, under each answer: the points
  -- left are records of twelve numbers, the last of each being so, at the sheet's own course, bit for bit, and finite; and +0 after them
  pub record Clearances : Type 0 where
    pub points : Records
    pub listed : got.points ≡ shown (length ps) points
    pub counted : got.settled.points ≡ length points
    pub each : Each (Clear (course_of sheet)) points

  pub clearances : number ≡ 0 → Clearances
  clearances h =
      let l = settle_leaves sheet shot cs ps h in
      let o = course_of sheet in
      let k = point_clear sheet (settle_sheet sheet shot (length cs) (length ps) h) in
      record {
        points = l.points;
        listed = l.points_listed;
        counted = l.points_counted;
        each = each_map (PointOf o) (Clear o) k l.points l.each_point;
      }

  -- 01, "Course sheet": every look widens the rectangle, and "before each look x and z get the same test". Of every call: each edge is finite and
  -- within ±1,000,000 by value; with no look it is +0
  pub rect_about : Edges About got.settled.rect
  unfolding settle_of report_of
  rect_about = go (eqb number 0) refl
    where
      go : (b : Bool) → eqb number 0 ≡ b → Edges About got.settled.rect
      go true e =
          let t = run_of shot (length cs) (length ps) in
          rw e (about (exec (course_of sheet) no_rect t).rect (edges_ok_lem (course_of sheet) t))
      go false e = rw e (about no_rect no_rect_ok)

  -- 01: "its count must equal the steps made"
  pub steps_made : number ≡ 0 → got.settled.steps ≡ steps_of (course_of sheet) (run_of shot (length cs) (length ps))
  steps_made h = (settle_leaves sheet shot cs ps h).made

  -- ---- evaluations

  -- 02, paper 4: "how many evaluations it made, at most 200". Of every call, and under every answer: no more than 200 for each step made
  pub few_evaluations : got.settled.evaluations ≤ 200 * got.settled.steps
  few_evaluations = go (eqb number 0) refl
    where
      go : (b : Bool) → eqb number 0 ≡ b → got.settled.evaluations ≤ 200 * got.settled.steps
      go true e = (settle_leaves sheet shot cs ps (eqb-true number 0 e)).work
      go false e = rw (refused_result sheet shot cs ps (eqb-false number 0 e)).counts.3 zero-le

-- 02, paper 12: "its spot is tested as any look is, before the push". A push of a point of a state that passed test 22 stops with 21 alone: its
-- look never brings 22. In a run each push is of such a state, the last that passed (only-22)
pub push_never_22 : (o : Oracle) (s : BallState) (f : Phase) → state_ok s ≡ true → OverDoubles s
    → Triple o (λ _. Unit {0}) (push_point s f) (λ _ _. Unit {0}) (λ n _. n ≡ 21)
push_never_22 o s f ok d = t_point s f (λ w _ _ _. tt) (λ w _ _ _. refl) (λ w _ e. absurd (not_both e (own_spot s ok d)))

-- the shot with n for max_impacts
abbrev pub allowing : ℕ → Shot → Shot
allowing n s = record {
  physics = record {
    dt = s.physics.dt;
    stop_speed = s.physics.stop_speed;
    roll_threshold = s.physics.roll_threshold;
    min_hop_height = s.physics.min_hop_height;
    max_impacts = n;
    max_time = s.physics.max_time;
  };
  step_limit = s.step_limit;
  ball = s.ball;
  air_density = s.air_density;
  landing = s.landing;
  fading = s.fading;
}

-- 01: "max_impacts 0 acts as 1": of every call, refused ones too
pub zero_as_one : (sheet : List ℕ) (shot : Shot) (cs ps : List Float)
    → settle_of sheet (allowing 0 shot) cs ps ≡ settle_of sheet (allowing 1 shot) cs ps
unfolding settle_of refusal_of input_test physics_ok run_of conditions_of train train_from_by strike rebounds
    to_ground drop dropped ground ground_from ground_step step_on put_down steps_left
zero_as_one sheet shot cs ps = refl
