-- Definitions. A program logic over the settle's language: `Triple P m Q R` says what holds of a run so far before a part m of it (P), where it goes
-- on (Q, of its value too) and where it stops (R, of its number too). One rule a word, each by its weakest condition. Assumes nothing.
use Rattle.std.specs.Prelude.{◌≡◌, ℕ, zero, suc, ◌-◌, ◌<◌, ◌≤◌, Bool, true, false, not, List, [], ◌∷◌, ◌++◌, length, take, nat_lt, Float}
use Rattle.std.proofs.Math.Path.{refl}
use Rattle.std.proofs.Common.{ap, ◌∙◌, sym, ltb-true, ltb-false}
use mathlib.Core.List.{append-nil, append_assoc}
use Rattle.state.specs.declared.BallState.{BallState}
use Rattle.surface.specs.declared.GroundSample.{GroundSample}
use Rattle.state.specs.declared.Phase.{Phase}
use Rattle.look.specs.Rect.{spot_ok}
use Rattle.look.specs.Tree.{Made, Tree, done, look as look_node, step, Oracle, Spot, run, looks, seen, answer, note, bind}
use Rattle.look.proofs.Resume.{made as made_by}
use Rattle.records.specs.Records.{Records, pushed}
use Rattle.state.specs.State.{state_ok}
use Rattle.tally.specs.Language.{M, Lent, Log, Outcome, goes, stops, Ran, onward, ◌>>=◌, point_of, contact_of}
use Rattle.std.specs.Prelude.{if◌then◌else◌}
use Rattle.tally.specs.Language.{stepped, evaluated, count_evaluation, tested, with_points, with_contacts, seen_at, point, contact, Pass, again, over}
use Rattle.tally.specs.Language.{pure, stop_with, when, look, test, put_point, push_point, push_contact, mark, truncate, make_step, steps_left, loop}
use Rattle.tally.specs.declared.Conditions.{Conditions}

-- ---- what a run has behind it

-- its log, the steps made, each with what it made, the spots looked at, the spots that failed their test
pub record Past : Type 0 where
  pub log : Log
  pub made : List Made
  pub spots : List Spot
  pub off : List Spot

abbrev pub past : Log → List Made → List Spot → List Spot → Past
past l m s f = record { log = l; made = m; spots = s; off = f }

-- nothing but a log
abbrev pub fresh : Log → Past
fresh l = past l [] [] []

abbrev pub with_log : Log → Past → Past
with_log l w = past l w.made w.spots w.off

-- after each word: a look was made at p; p failed its test; s passed its test; a point, a contact was pushed; points were cut to n; a step was made
abbrev pub saw_at : Spot → Past → Past
saw_at p w = past w.log w.made (w.spots ++ (p ∷ [])) w.off

abbrev pub missed_at : Spot → Past → Past
missed_at p w = past w.log w.made w.spots (w.off ++ (p ∷ []))

abbrev pub passed_by : BallState → Past → Past
passed_by s w = with_log (tested s w.log) w

abbrev pub pointed : BallState → Phase → Float → Past → Past
pointed s f h w = with_log (with_points (w.log.points.records ++ (point_of s f h ∷ [])) w.log) w

abbrev pub touched : BallState → GroundSample → BallState → Past → Past
touched a s b w = with_log (with_contacts (w.log.contacts.records ++ (contact_of a s b ∷ [])) w.log) w

abbrev pub cut_to : ℕ → Past → Past
cut_to n w = with_log (with_points (take n w.log.points.records) w.log) w

abbrev pub step_made : Made → Past → Past
step_made s w = past (stepped s w.log) (w.made ++ (s ∷ [])) w.spots w.off

-- an evaluation was counted
abbrev pub evaluated_once : Past → Past
evaluated_once w = with_log (evaluated 1 w.log) w

-- a lent list has room for a record more, or has none
abbrev pub HasRoom : Lent → Type 0
HasRoom l = length l.records < l.room

abbrev pub IsFull : Lent → Type 0
IsFull l = l.room ≤ length l.records

abbrev pub spot : Float → Float → Spot
spot x z = record { x = x; z = z }

-- where a part leaves a run
pub record Reached (A : Type 0) : Type 0 where
  pub outcome : Outcome A
  pub past : Past

abbrev pub reached : {A : Type 0} → Outcome A → Past → Reached A
reached x w = record { outcome = x; past = w }

-- p at the end of the list, or not
abbrev pub noted : Bool → Spot → List Spot → List Spot
noted true p l = l ++ (p ∷ [])
noted false p l = l

-- the spots of a tree that failed their test, in order
unfoldable pub misses : {A : Type 0} → Oracle → Tree A → List Spot
misses o (done a) = []
misses o (look_node x z c) = note (not (spot_ok x z)) (spot x z) (misses o (c (seen o x z)))
misses o (step m t) = misses o t

-- Q of value and past where it goes on, R of number and past where it stops
abbrev pub After : {A : Type 0} → (A → Past → Type 0) → (ℕ → Past → Type 0) → Outcome A → Past → Type 0
After Q R (goes a) w = Q a w
After Q R (stops n) w = R n w

abbrev pub Left : {A : Type 0} → (A → Past → Type 0) → (ℕ → Past → Type 0) → Reached A → Type 0
Left Q R r = After Q R r.outcome r.past

-- a pass goes on with I, or ends its loop with Q
abbrev pub OnWith : {A B : Type 0} → (A → Past → Type 0) → (B → Past → Type 0) → Pass A B → Past → Type 0
OnWith I Q (again a) w = I a w
OnWith I Q (over b) w = Q b w

module _ (o : Oracle) where
  -- a tree run on the course o, after the steps m, looks at the spots s and failed tests of the spots f
  unfoldable pub reach : {A : Type 0} → Tree (Ran A) → List Made → List Spot → List Spot → Reached A
  reach (done r) m s f = reached r.outcome (past r.log m s f)
  reach (look_node x z c) m s f = reach (c (seen o x z)) m (noted (spot_ok x z) (spot x z) s) (noted (not (spot_ok x z)) (spot x z) f)
  reach (step d t) m s f = reach t (m ++ (d ∷ [])) s f

  -- a part of a run with w behind it
  abbrev pub reaches : {A : Type 0} → M A → Past → Reached A
  reaches m w = reach (m w.log) w.made w.spots w.off

  pub record Triple {A : Type 0} (P : Past → Type 0) (m : M A) (Q : A → Past → Type 0) (R : ℕ → Past → Type 0) : Type 0 where
    pub all : (w : Past) → P w → Left Q R (reaches m w)

  -- ---- the logic speaks of the tree's own run, steps and looks

  noted_is : (b : Bool) (p : Spot) (l k : List Spot) → noted b p l ++ k ≡ l ++ note b p k
  noted_is true p l k = append_assoc l (p ∷ []) k
  noted_is false p l k = refl

  pub reach_is : {A : Type 0} (t : Tree (Ran A)) (m : List Made) (s f : List Spot)
      → reach t m s f ≡ reached (run o t).outcome (past (run o t).log (m ++ made_by o t) (s ++ looks o t) (f ++ misses o t))
  unfolding reach run made_by looks misses
  reach_is (done r) m s f = rw (append-nil m, append-nil s, append-nil f)
  reach_is (look_node x z c) m s f =
      reach_is (c (seen o x z)) m _ _ ∙ rw (noted_is (spot_ok x z) (spot x z) s _, noted_is (not (spot_ok x z)) (spot x z) f _)
  reach_is (step d t) m s f = reach_is t (m ++ (d ∷ [])) s f ∙ rw (append_assoc m (d ∷ []) (made_by o t))

  -- what a part of its own leaves, from a log l
  abbrev pub ended : {A : Type 0} → M A → Log → Past
  ended m l = past (run o (m l)).log (made_by o (m l)) (looks o (m l)) (misses o (m l))

  pub of_run : {A : Type 0} {P : Past → Type 0} {m : M A} {Q : A → Past → Type 0} {R : ℕ → Past → Type 0}
      → Triple P m Q R → (l : Log) → P (fresh l) → After Q R (run o (m l)).outcome (ended m l)
  of_run {m = m} t l p = rw (reach_is (m l) [] [] []) at (t.all (fresh l) p)

  -- where it goes on and where it stops alike
  pub of_every_run : {A : Type 0} {P S : Past → Type 0} {m : M A} → Triple P m (λ _. S) (λ _. S) → (l : Log) → P (fresh l) → S (ended m l)
  of_every_run {A} {S = S} {m} t l p = go (run o (m l)).outcome (of_run t l p)
    where
      go : (x : Outcome A) → After (λ _. S) (λ _. S) x (ended m l) → S (ended m l)
      go (goes a) h = h
      go (stops n) h = h

-- ---- rules for every part

module _ {o : Oracle} where
  module _ {A : Type 0} {P : Past → Type 0} {m : M A} {Q : A → Past → Type 0} {R : ℕ → Past → Type 0} where
    pub t_before : {P' : Past → Type 0} → ((w : Past) → P' w → P w) → Triple o P m Q R → Triple o P' m Q R
    t_before f t = record { all = λ w p. t.all w (f w p) }

    pub t_after : {Q' : A → Past → Type 0} {R' : ℕ → Past → Type 0}
        → ((a : A) (w : Past) → Q a w → Q' a w) → ((n : ℕ) (w : Past) → R n w → R' n w) → Triple o P m Q R → Triple o P m Q' R'
    t_after {Q'} {R'} f g t = record { all = λ w p. go (reaches o m w).outcome _ (t.all w p) }
      where
        go : (x : Outcome A) (w : Past) → After Q R x w → After Q' R' x w
        go (goes a) w q = f a w q
        go (stops n) w q = g n w q

    pub t_bind : {B : Type 0} {k : A → M B} {S : B → Past → Type 0} → Triple o P m Q R → ((a : A) → Triple o (Q a) (k a) S R) → Triple o P (m >>= k) S R
    unfolding ◌>>=◌ bind reach
    t_bind {B} {k} {S} t g = record { all = λ w p. through (m w.log) w.made w.spots w.off (t.all w p) }
      where
        on : (x : Outcome A) (w : Past) → After Q R x w → Left S R (reaches o (onward k x) w)
        on (goes a) w q = (g a).all w q
        on (stops n) w q = q

        through : (t : Tree (Ran A)) (m : List Made) (s f : List Spot)
            → Left Q R (reach o t m s f) → Left S R (reach o (bind t (λ r. onward k r.outcome r.log)) m s f)
        through (done r) m s f q = on r.outcome (past r.log m s f) q
        through (look_node x z c) m s f q = through (c (seen o x z)) m _ _ q
        through (step d t) m s f q = through t (m ++ (d ∷ [])) s f q

    -- two triples of one part are one
    pub t_both : {P' : Past → Type 0} {Q' : A → Past → Type 0} {R' : ℕ → Past → Type 0} → Triple o P m Q R → Triple o P' m Q' R'
        → Triple o (λ w. P w × P' w) m (λ a w. Q a w × Q' a w) (λ n w. R n w × R' n w)
    t_both {Q'} {R'} t u = record { all = λ w p. go (reaches o m w).outcome _ (t.all w p.0) (u.all w p.1) }
      where
        go : (x : Outcome A) (w : Past) → After Q R x w → After Q' R' x w → After (λ a w. Q a w × Q' a w) (λ n w. R n w × R' n w) x w
        go (goes a) w q q' = (q, q')
        go (stops n) w q q' = (q, q')

  module _ {A : Type 0} {P : Past → Type 0} {Q : A → Past → Type 0} {R : ℕ → Past → Type 0} where
    -- with a fact of the value that says nothing of the past
    pub t_then : {B : Type 0} {m : M A} {k : A → M B} {S : B → Past → Type 0} {F : A → Type 0}
        → Triple o P m (λ a w. Q a w × F a) R → ((a : A) → F a → Triple o (Q a) (k a) S R) → Triple o P (m >>= k) S R
    t_then t g = t_bind t (λ a. record { all = λ w p. (g a p.1).all w p.0 })

    -- a fact beside P, or one that P tells
    pub t_fact : {m : M A} {F : Type 0} → (F → Triple o P m Q R) → Triple o (λ w. P w × F) m Q R
    t_fact g = record { all = λ w p. (g p.1).all w p.0 }

    pub t_know : {m : M A} {F : Type 0} → ((w : Past) → P w → F) → (F → Triple o P m Q R) → Triple o P m Q R
    t_know f g = record { all = λ w p. (g (f w p)).all w p }

    pub t_if : {m m' : M A} (b : Bool) → (b ≡ true → Triple o P m Q R) → (b ≡ false → Triple o P m' Q R) → Triple o P (if b then m else m') Q R
    t_if true f g = f refl
    t_if false f g = g refl

    -- ---- the words

    pub t_pure : {a : A} → ((w : Past) → P w → Q a w) → Triple o P (pure a) Q R
    unfolding reach
    t_pure f = record { all = f }

    pub t_stop : {n : ℕ} → ((w : Past) → P w → R n w) → Triple o P (stop_with n) Q R
    unfolding reach
    t_stop f = record { all = f }

  module _ {P : Past → Type 0} {R : ℕ → Past → Type 0} where
    pub t_same : {A : Type 0} {a : A} → Triple o P (pure a) (λ _. P) R
    unfolding reach
    t_same = record { all = λ w p. p }

    pub t_look : {Q : GroundSample → Past → Type 0} (x z : Float) → ((w : Past) → P w → spot_ok x z ≡ true → Q (o x z) (saw_at (spot x z) w))
        → ((w : Past) → P w → spot_ok x z ≡ false → R 22 (missed_at (spot x z) w)) → Triple o P (look x z) Q R
    unfolding look bind reach
    t_look {Q} x z f g = record { all = λ w p. go w p (spot_ok x z) refl }
      where
        go : (w : Past) → P w → (b : Bool) → spot_ok x z ≡ b
            → Left Q R (reach o (seen_at (answer b (o x z)) w.log) w.made (noted b (spot x z) w.spots) (noted (not b) (spot x z) w.off))
        go w p true e = f w p e
        go w p false e = g w p e

    pub t_test : {Q : BallState → Past → Type 0} (s : BallState) → ((w : Past) → P w → state_ok s ≡ true → Q s (passed_by s w))
        → ((w : Past) → P w → state_ok s ≡ false → R 22 w) → Triple o P (test s) Q R
    unfolding test reach
    t_test {Q} s f g = record { all = λ w p. go w p (state_ok s) refl }
      where
        go : (w : Past) → P w → (b : Bool) → state_ok s ≡ b → Left Q R (reaches o (test s) w)
        go w p true e = rw e (f w p e)
        go w p false e = rw e (g w p e)

    pub t_put : {Q : Unit → Past → Type 0} (s : BallState) (f : Phase) (y : Float) → ((w : Past) → P w → HasRoom w.log.points → Q tt (pointed s f y w))
        → ((w : Past) → P w → IsFull w.log.points → R 21 w) → Triple o P (put_point s f y) Q R
    unfolding put_point pushed reach
    t_put {Q} s f y g h = record { all = λ w p. go w p (nat_lt (length w.log.points.records) w.log.points.room) refl }
      where
        go : (w : Past) → P w → (b : Bool) → nat_lt (length w.log.points.records) w.log.points.room ≡ b → Left Q R (reaches o (put_point s f y) w)
        go w p true e = rw e (g w p (ltb-true (length w.log.points.records) w.log.points.room e))
        go w p false e = rw e (h w p (ltb-false (length w.log.points.records) w.log.points.room e))

    pub t_contact : {Q : Unit → Past → Type 0} (a : BallState) (s : GroundSample) (b : BallState)
        → ((w : Past) → P w → HasRoom w.log.contacts → Q tt (touched a s b w))
        → ((w : Past) → P w → IsFull w.log.contacts → R 20 w) → Triple o P (push_contact a s b) Q R
    unfolding push_contact pushed reach
    t_contact {Q} a s b g h = record { all = λ w p. go w p (nat_lt (length w.log.contacts.records) w.log.contacts.room) refl }
      where
        go : (w : Past) → P w → (t : Bool) → nat_lt (length w.log.contacts.records) w.log.contacts.room ≡ t → Left Q R (reaches o (push_contact a s b) w)
        go w p true e = rw e (g w p (ltb-true (length w.log.contacts.records) w.log.contacts.room e))
        go w p false e = rw e (h w p (ltb-false (length w.log.contacts.records) w.log.contacts.room e))

    pub t_mark : {Q : ℕ → Past → Type 0} → ((w : Past) → P w → Q (length w.log.points.records) w) → Triple o P mark Q R
    unfolding mark reach
    t_mark f = record { all = f }

    pub t_truncate : {Q : Unit → Past → Type 0} (n : ℕ) → ((w : Past) → P w → Q tt (cut_to n w)) → Triple o P (truncate n) Q R
    unfolding truncate reach
    t_truncate n f = record { all = f }

    -- a step is made, and counted
    pub t_step : {Q : Made → Past → Type 0} (s : Made) → ((w : Past) → P w → Q s (step_made s w)) → Triple o P (make_step s) Q R
    unfolding make_step reach
    t_step s f = record { all = f }

    -- and what follows goes on with what it made
    pub t_made : {Q : Past → Type 0} {B : Type 0} {S : B → Past → Type 0} (s : Made) (k : Made → M B)
        → Triple o P (make_step s) (λ _. Q) R → Triple o Q (k s) S R → Triple o P (make_step s >>= k) S R
    unfolding make_step ◌>>=◌ bind reach
    t_made s k t g = record { all = λ w p. g.all (step_made s w) (t.all w p) }

    -- an evaluation is counted
    pub t_evaluation : {Q : Unit → Past → Type 0} → ((w : Past) → P w → Q tt (evaluated_once w)) → Triple o P count_evaluation Q R
    unfolding count_evaluation reach
    t_evaluation f = record { all = f }

    pub t_left : {Q : ℕ → Past → Type 0} (c : Conditions) → ((w : Past) → P w → Q (c.step_limit - w.log.steps) w) → Triple o P (steps_left c) Q R
    unfolding steps_left reach
    t_left c f = record { all = f }

    pub t_when : {Q : Unit → Past → Type 0} {m : M Unit} (b : Bool) → Triple o P m Q R → ((w : Past) → P w → Q tt w) → Triple o P (when b m) Q R
    unfolding when
    t_when b t f = t_if b (λ _. t) (λ _. t_pure f)

  -- a push of a point: its look, then the push
  pub t_point : {P : Past → Type 0} {R : ℕ → Past → Type 0} {Q : Unit → Past → Type 0} (s : BallState) (f : Phase) → let x = s.pos.x in let z = s.pos.z in
      ((w : Past) → P w → spot_ok x z ≡ true → HasRoom w.log.points → Q tt (pointed s f (o x z).height (saw_at (spot x z) w)))
      → ((w : Past) → P w → spot_ok x z ≡ true → IsFull w.log.points → R 21 (saw_at (spot x z) w))
      → ((w : Past) → P w → spot_ok x z ≡ false → R 22 (missed_at (spot x z) w)) → Triple o P (push_point s f) Q R
  unfolding push_point
  t_point {R} {Q} s f g h k =
      t_bind {Q = λ y w. (HasRoom w.log.points → Q tt (pointed s f y.height w)) × (IsFull w.log.points → R 21 w)}
      (t_look s.pos.x s.pos.z (λ w p e. (g w p e, h w p e)) k) (λ y. t_put s f y.height (λ w p i. p.0 i) (λ w p i. p.1 i))

  -- nothing is asked, and nothing said
  pub t_any : {A : Type 0} {P : Past → Type 0} (m : M A) → Triple o P m (λ _ _. Unit {0}) (λ _ _. Unit {0})
  t_any {A} m = record { all = λ w _. go (reaches o m w).outcome _ }
    where
      go : (x : Outcome A) (w : Past) → After {A = A} (λ _ _. Unit {0}) (λ _ _. Unit {0}) x w
      go (goes a) w = tt
      go (stops n) w = tt

  module _ {R : ℕ → Past → Type 0} where
    -- of each x, so of the one that is read off what is behind
    pub t_of : {A X : Type 0} {I : X → Past → Type 0} {m : M A} {Q : A → Past → Type 0} (f : Past → X)
        → ((x : X) → Triple o (I x) m Q R) → Triple o (λ w. I (f w) w) m Q R
    t_of f g = record { all = λ w p. (g (f w)).all w p }

    -- a loop of passes: I n a before a pass at a with n more steps allowed; a pass is made where it is not late
    pub t_loop_due : {A B : Type 0} (late : A → Bool) (at_end : A → M B) (pass : A → M (Pass A B)) (I : ℕ → A → Past → Type 0) (Q : B → Past → Type 0)
        → ((n : ℕ) (a : A) → Triple o (I n a) (at_end a) Q R)
        → ((a : A) (w : Past) → I 0 a w → R 23 w)
        → ((n : ℕ) (a : A) → late a ≡ false → Triple o (I (suc n) a) (pass a) (OnWith (I n) Q) R)
        → (n : ℕ) (a : A) → Triple o (I n a) (loop n late at_end pass a) Q R
    unfolding loop
    t_loop_due late at_end pass I Q e z p zero a = t_if (late a) (λ _. e zero a) (λ _. t_stop (z a))
    t_loop_due late at_end pass I Q e z p (suc n) a = t_if (late a) (λ _. e (suc n) a)
        (λ d. t_bind (p n a d) (elim [ again b ↦ t_loop_due late at_end pass I Q e z p n b | over r ↦ t_pure (λ w q. q) ]))

    pub t_loop : {A B : Type 0} (late : A → Bool) (at_end : A → M B) (pass : A → M (Pass A B)) (I : ℕ → A → Past → Type 0) (Q : B → Past → Type 0)
        → ((n : ℕ) (a : A) → Triple o (I n a) (at_end a) Q R)
        → ((a : A) (w : Past) → I 0 a w → R 23 w)
        → ((n : ℕ) (a : A) → Triple o (I (suc n) a) (pass a) (OnWith (I n) Q) R)
        → (n : ℕ) (a : A) → Triple o (I n a) (loop n late at_end pass a) Q R
    t_loop late at_end pass I Q e z p = t_loop_due late at_end pass I Q e z (λ n a _. p n a)
