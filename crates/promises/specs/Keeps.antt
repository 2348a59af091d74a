-- Lemmas. What every part of a settle keeps, word by word, in the logic of Triple: sound lists and counts, and the reasons of 20 to 23.
use Rattle.std.specs.Prelude.{ℕ, zero, suc, ◌+◌, ◌≤◌, ◌<◌, ◌≡◌, refl, Bool, true, false, cond, ◌&&◌, T, List, [], ◌∷◌, ◌++◌, Float, length, take}
use Rattle.std.proofs.Common.{arith, ap, ◌∙◌, sym, length-append}
use Rattle.state.specs.declared.BallState.{BallState}
use Rattle.state.specs.declared.Phase.{Phase}
use Rattle.surface.specs.declared.GroundSample.{GroundSample}
use Rattle.look.specs.Rect.{is_double, spot_ok}
use Rattle.look.proofs.Within.{and_parts}
use Rattle.state.specs.State.{coord_ok, vec_ok, state_ok}
use Rattle.look.specs.Tree.{Made, Tree, done, look as look_node, step, Oracle, Spot, seen, run}
use Rattle.records.specs.Records.{Records}
use Rattle.tally.specs.Language.{M, Log, Lent, Outcome, goes, stops, Ran, evaluated, tested, with_points, with_contacts, point_of, contact_of}
use Rattle.tally.specs.Language.{look, test, push_point, push_contact, mark, truncate, make_step, steps_left, when}
use Rattle.tally.specs.declared.Conditions.{Conditions}
use Rattle.promises.specs.Terms.{Each, Ok, OverDoubles, under, PointOf, SampleOf, ContactOf, GivenBy, Follows, Sought, Failed, of_spot, of_state}
use Rattle.tally.proofs.Triple.{Past, spot, missed_at, evaluated_once, After, reach, reaches, Triple}
use Rattle.tally.proofs.Triple.{t_look, t_test, t_point, t_contact, t_mark, t_truncate, t_step, t_left, t_when}

pub each_more : (P : List Float → Type 0) (rs : Records) (r : List Float) → Each P rs → P r → Each P (rs ++ (r ∷ []))
each_more P [] r h p = (p, tt)
each_more P (s ∷ rs) r h p = (h.0, each_more P rs r h.1 p)

each_take : (P : List Float → Type 0) (n : ℕ) (rs : Records) → Each P rs → Each P (take n rs)
each_take P zero rs h = tt
each_take P (suc n) [] h = tt
each_take P (suc n) (r ∷ rs) h = (h.0, each_take P n rs h.1)

take_few : (n : ℕ) (rs : Records) → length (take n rs) ≤ length rs
take_few zero rs = omega arith
take_few (suc n) [] = omega arith
take_few (suc n) (r ∷ rs) = let h = take_few n rs in omega arith

one_more : (rs : Records) (r : List Float) → length (rs ++ (r ∷ [])) ≡ suc (length rs)
one_more rs r = length-append rs (r ∷ []) ∙ omega arith

-- a lent list with room for n records, each with P
pub record Listed (P : List Float → Type 0) (n : ℕ) (l : Lent) : Type 0 where
  pub each : Each P l.records
  pub few : length l.records ≤ n
  pub room : l.room ≡ n

module _ (P : List Float → Type 0) (n : ℕ) (l : Lent) where
  more : (r : List Float) → Listed P n l → P r → length l.records < l.room → Listed P n (record { room = l.room; records = l.records ++ (r ∷ []) })
  more r h p i =
      record { each = each_more P l.records r h.each p; few = rw (one_more l.records r) (let e = h.room in omega (arith, i, e)); room = h.room }

  fewer : (j : ℕ) → Listed P n l → Listed P n (record { room = l.room; records = take j l.records })
  fewer j h =
      record { each = each_take P j l.records h.each; few = (let a = take_few j l.records in let b = h.few in omega (arith, a, b)); room = h.room }

  is_full : Listed P n l → l.room ≤ length l.records → length l.records ≡ n
  is_full h i = let a = h.few in let e = h.room in omega (arith, a, e, i)

-- ---- a part goes on with what its own run gives
outcome_is : {A : Type 0} (o : Oracle) (t : Tree (Ran A)) (m : List Made) (s f : List Spot) → (reach o t m s f).outcome ≡ (run o t).outcome
unfolding reach run
outcome_is o (done r) m s f = refl
outcome_is o (look_node x z c) m s f = outcome_is o (c (seen o x z)) m _ _
outcome_is o (step d t) m s f = outcome_is o t (m ++ (d ∷ [])) s f

module _ {o : Oracle} {A : Type 0} where
  pub t_given : {P : Past → Type 0} {m : M A} {Q : A → Past → Type 0} {R : ℕ → Past → Type 0} → Triple o P m Q R → Triple o P m (λ a w. Q a w × GivenBy o m a) R
  t_given {m = m} {Q} {R} t = record { all = λ w p. go w (reaches o m w).outcome (reaches o m w).past (outcome_is o (m w.log) _ _ _) (t.all w p) }
    where
      go : (w : Past) (x : Outcome A) (v : Past) → x ≡ (run o (m w.log)).outcome → After Q R x v → After (λ a w. Q a w × GivenBy o m a) R x v
      go w (goes a) v d q = (q, record { log = w.log; is = sym d })
      go w (stops n) v d q = q

-- what stays the same throughout a run: the course, the conditions, the landing, the records that each list has room for, the most contacts that it may push
pub record Setting : Type 0 where
  pub course : Oracle
  pub conditions : Conditions
  pub landing : BallState
  pub contacts : ℕ
  pub points : ℕ
  pub most : ℕ

module _ (e : Setting) where
  -- the log counts the steps made
  pub record Sound (l : Log) (made : ℕ) : Type 0 where
    pub good : Ok l.good
    pub contacts : Listed (ContactOf e.course) e.contacts l.contacts
    pub points : Listed (PointOf e.course) e.points l.points
    pub few_impacts : length l.contacts.records ≤ e.most
    pub counted : (l.steps ≡ made) × (l.steps ≤ e.conditions.step_limit)

  -- why a run stops; 20 where a contact more was to come
  pub data Why (w : Past) : ℕ → Type 0 where
    contacts_full : w.off ≡ [] → length w.log.contacts.records ≡ e.contacts → length w.log.contacts.records < e.most → Why w 20
    points_full : w.off ≡ [] → length w.log.points.records ≡ e.points → Why w 21
    failed : Failed e.course e.conditions e.landing w.off w.log.good → Why w 22
    limit_reached : w.off ≡ [] → w.log.steps ≡ e.conditions.step_limit → Why w 23

  pub record Stops (n : ℕ) (w : Past) : Type 0 where
    pub sound : Sound w.log (length w.made)
    pub why : Why w n

  -- on the way: F of the steps and of the number of contacts, g the last state that passed its test
  pub record At (F : ℕ → ℕ → Type 0) (g : BallState) (w : Past) : Type 0 where
    pub sound : Sound w.log (length w.made)
    pub frame : F w.log.steps (length w.log.contacts.records)
    pub good : w.log.good ≡ g
    pub over : OverDoubles e.landing → OverDoubles g
    pub on : w.off ≡ []

  -- with n steps left; G of the number of contacts
  abbrev pub Within : ℕ → (ℕ → Type 0) → ℕ → ℕ → Type 0
  Within n G j k = (n + j ≡ e.conditions.step_limit) × G k

  -- from P, a part goes on with Q or stops as a run may
  abbrev pub Keeps : {A : Type 0} → (Past → Type 0) → M A → (A → Past → Type 0) → Type 0
  Keeps P m Q = Triple e.course P m Q Stops

holds : (b : Bool) → T b → b ≡ true
holds true t = refl
holds false t = absurd t

-- a spot of doubles under a state that passed test 22 passes its test
pub own_spot : (s : BallState) → Ok s → OverDoubles s → spot_ok s.pos.x s.pos.z ≡ true
unfolding state_ok vec_ok spot_ok
own_spot s ok d =
    let x = s.pos.x in
    let y = s.pos.y in
    let z = s.pos.z in
    let a = and_parts (coord_ok s.time) (vec_ok s.pos && (vec_ok s.vel && vec_ok s.spin)) (rw ok tt) in
    let b = and_parts (vec_ok s.pos) (vec_ok s.vel && vec_ok s.spin) a.1 in
    let v = and_parts (coord_ok x) (coord_ok y && coord_ok z) b.0 in
    let w = and_parts (coord_ok y) (coord_ok z) v.1 in
    rw (holds (is_double x) d.0, holds (is_double z) d.1, holds (coord_ok x) v.0, holds (coord_ok z) w.1)

pub not_both : {b : Bool} → b ≡ false → b ≡ true → ⊥
not_both e f = let z : ◌≡◌ {A = Bool} true false = sym f ∙ e in let n : ◌≡◌ {A = ℕ} 1 0 = ap (λ (b : Bool). cond b 1 0) z in omega (arith, n)

-- what a look found there says of it
pub over_doubles : (x z : Float) → spot_ok x z ≡ true → T (is_double x) × T (is_double z)
unfolding spot_ok
over_doubles x z h = let p = and_parts (is_double x && is_double z) (coord_ok x && coord_ok z) (rw h tt) in and_parts (is_double x) (is_double z) p.0

module _ {e : Setting} where
  pub at_ok : {F : ℕ → ℕ → Type 0} {g : BallState} {w : Past} → At e F g w → Ok g
  at_ok a = rw a.good at a.sound.good

  pub at_frame : {F F' : ℕ → ℕ → Type 0} {g : BallState} {w : Past} → ((j k : ℕ) → F j k → F' j k) → At e F g w → At e F' g w
  at_frame f a = record { sound = a.sound; frame = f _ _ a.frame; good = a.good; over = a.over; on = a.on }

  -- what a word changes of a sound log
  module _ {l : Log} {n : ℕ} where
    sound_tested : (s : BallState) → Ok s → Sound e l n → Sound e (tested s l) n
    sound_tested s ok h = record { good = ok; contacts = h.contacts; points = h.points; few_impacts = h.few_impacts; counted = h.counted }

    sound_points : {rs : Records} → Listed (PointOf e.course) e.points (with_points rs l).points → Sound e l n → Sound e (with_points rs l) n
    sound_points p h = record { good = h.good; contacts = h.contacts; points = p; few_impacts = h.few_impacts; counted = h.counted }

    sound_evaluated : Sound e l n → Sound e (evaluated 1 l) n
    sound_evaluated h = record { good = h.good; contacts = h.contacts; points = h.points; few_impacts = h.few_impacts; counted = h.counted }

    sound_contacts : {rs : Records} → Listed (ContactOf e.course) e.contacts (with_contacts rs l).contacts → length rs ≤ e.most
        → Sound e l n → Sound e (with_contacts rs l) n
    sound_contacts c f h = record { good = h.good; contacts = c; points = h.points; few_impacts = f; counted = h.counted }

  -- ---- the words

  module _ {F : ℕ → ℕ → Type 0} {g : BallState} where
    -- a look at a spot that may fail its test
    pub a_look : (x z : Float) → Sought e.course e.conditions g (spot x z)
        → Keeps e (At e F g) (look x z) (λ s w. At e F g w × ((s ≡ e.course x z) × (spot_ok x z ≡ true)))
    a_look x z so =
        t_look x z (λ w a t. (record { sound = a.sound; frame = a.frame; good = a.good; over = a.over; on = a.on }, (refl, t)))
        (λ w a t. record { sound = a.sound; why = failed (of_spot (spot x z) (rw a.on) t (λ _. rw a.good so)) })

    pub a_evaluation : (w : Past) → At e F g w → At e F g (evaluated_once w)
    a_evaluation w a = record { sound = sound_evaluated a.sound; frame = a.frame; good = a.good; over = a.over; on = a.on }

    -- the last good state's own spot passes its test
    missed : {w : Past} → At e F g w → spot_ok g.pos.x g.pos.z ≡ false → Stops e 22 (missed_at (spot g.pos.x g.pos.z) w)
    missed a t = record {
      sound = a.sound;
      why = failed (of_spot (spot g.pos.x g.pos.z) (rw a.on) t (λ d. absurd (not_both t (own_spot g (at_ok a) (a.over d)))));
    }

    pub a_look_own : Keeps e (At e F g) (look g.pos.x g.pos.z) (λ s w. At e F g w × (s ≡ under e.course g))
    a_look_own =
        t_look g.pos.x g.pos.z (λ w a t. (record { sound = a.sound; frame = a.frame; good = a.good; over = a.over; on = a.on }, refl))
        (λ w a t. missed a t)

    pub a_test : (s : BallState) → Follows e.course e.conditions g s → (OverDoubles e.landing → OverDoubles g → OverDoubles s)
        → Keeps e (At e F g) (test s) (λ b w. At e F b w × (b ≡ s))
    a_test s f d =
        t_test s (λ w a t. (record { sound = sound_tested s t a.sound; frame = a.frame; good = refl; over = λ l. d l (a.over l); on = a.on }, refl))
        (λ w a t. record { sound = a.sound; why = failed (of_state a.on s (rw a.good f) t) })

    -- a push of a point: of the last state that passed
    pub a_point_own : (f : Phase) → Keeps e (At e F g) (push_point g f) (λ _. At e F g)
    a_point_own f =
        let is = PointOf e.course in
        let r = point_of g f (under e.course g).height in
        t_point g f
        (λ w a t i. let new : is r = record { state = g; phase = f; ok = at_ok a; spot_ok_lem = t; is = refl } in
        record {
          sound = sound_points (more is e.points w.log.points r a.sound.points new i) a.sound;
          frame = a.frame;
          good = a.good;
          over = a.over;
          on = a.on;
        })
        (λ w a t i. record { sound = a.sound; why = points_full a.on (is_full is e.points w.log.points a.sound.points i) })
        (λ w a t. missed a t)

    pub a_contact : {F' : ℕ → ℕ → Type 0} (a : BallState) (s : GroundSample) (b : BallState) → Ok a → SampleOf e.course s → Ok b
        → ((j k : ℕ) → F j k → F' j (suc k) × (suc k ≤ e.most)) → Keeps e (At e F g) (push_contact a s b) (λ _. At e F' g)
    a_contact a s b ka ks kb f =
        let is = ContactOf e.course in
        let new : is (contact_of a s b) = record { arrival = a; sample = s; departure = b; came = ka; left = kb; seen = ks; is = refl } in
        t_contact a s b
        (λ w t i. let d = one_more w.log.contacts.records (contact_of a s b) in let k = f _ _ t.frame in
        record {
          sound = sound_contacts (more is e.contacts w.log.contacts (contact_of a s b) t.sound.contacts new i) (rw d k.1) t.sound;
          frame = rw d k.0;
          good = t.good;
          over = t.over;
          on = t.on;
        })
        (λ w t i. let all = is_full is e.contacts w.log.contacts t.sound.contacts i in
        record { sound = t.sound; why = contacts_full t.on all (f _ _ t.frame).1 })

    pub a_mark : Keeps e (At e F g) mark (λ _. At e F g)
    a_mark = t_mark (λ w a. a)

    pub a_truncate : (n : ℕ) → Keeps e (At e F g) (truncate n) (λ _. At e F g)
    a_truncate n = t_truncate n (λ w a. let p = fewer (PointOf e.course) e.points w.log.points n a.sound.points in
        record { sound = sound_points p a.sound; frame = a.frame; good = a.good; over = a.over; on = a.on })

    pub a_when : {m : M Unit} (b : Bool) → Keeps e (At e F g) m (λ _. At e F g) → Keeps e (At e F g) (when b m) (λ _. At e F g)
    a_when b t = t_when b t (λ w a. a)

  module _ {G : ℕ → Type 0} {g : BallState} where
    pub a_step : (n : ℕ) (s : Made) → Keeps e (At e (Within e (suc n) G) g) (make_step s) (λ _. At e (Within e n G) g)
    a_step n s = t_step s (λ w a. let h = a.sound in let d = a.frame.0 in let i = h.counted.0 in
        record {
          sound = record {
            good = h.good;
            contacts = h.contacts;
            points = h.points;
            few_impacts = h.few_impacts;
            counted = (rw (length-append w.made (s ∷ [])) (omega (arith, i)), omega (arith, d));
          };
          frame = (omega (arith, d), a.frame.1);
          good = a.good;
          over = a.over;
          on = a.on;
        })

    pub a_left : Keeps e (At e (λ j. G) g) (steps_left e.conditions) (λ n. At e (Within e n G) g)
    a_left = t_left e.conditions (λ w a. let i = a.sound.counted.1 in
        record { sound = a.sound; frame = (omega (arith, i), a.frame); good = a.good; over = a.over; on = a.on })

    -- none is left
    pub a_limit : (w : Past) → At e (Within e 0 G) g w → Stops e 23 w
    a_limit w a = record { sound = a.sound; why = limit_reached a.on (let d = a.frame.0 in omega (arith, d)) }
