-- Lemmas: how far a run has come, from the place before a call to the place after it. Two laws serve every call, a word or a part of the settle:
-- `passes`, where the call goes on, and `fails`, where it stops.
use Rattle.std.proofs.Common.{◌≡◌, ℕ, ◌+◌, ◌-◌, ◌*◌, ◌/◌, ◌<◌, ◌≤◌, Bool, true, false, not, ltb, List, [], ◌∷◌, ◌++◌, length, drop, replicate, sym, refl}
use Rattle.std.proofs.Common.{ap, ◌∙◌, le-div_iff_mul-le, arith, length-append, ltb-true}
use lib.Ieee.{Float}
use lib.ListN.{length-replicate}
use lib.Seq.{drop-length}
use Rattle.state.specs.declared.BallState.{BallState}
use Rattle.state.specs.declared.Phase.{Phase}
use Rattle.surface.specs.declared.GroundSample.{GroundSample}
use Rattle.look.specs.Rect.{spot_ok}
use Rattle.look.specs.Tree.{Made, Oracle, exec, Did, did, done, bind, answer, widen_where}
use Rattle.records.specs.Records.{recs, null, pushed, pick, put, full, Clean}
use Rattle.records.proofs.Laws.{recs-length, recs_zeroed, clean_zeroed, zeroed_length}
use Rattle.tally.specs.Language.{M, Outcome, goes, stops, Ran, ran, stop_with, ◌>>=◌, when, seen_at, contact, point_width}
use Rattle.std.specs.Prelude.{if◌then◌else◌}
use Rattle.tally.specs.Language.{contact_width, contact_of, make_step, look, test, put_point, push_point, push_contact, mark, truncate}
use Rattle.tally.specs.Inner.{Place, place, log_at, RunsBy, Runs, RunsOn, Reached, MakesStep, outcome_by, Tests, PushesPoint, PushesContact}
use Rattle.tally.specs.Inner.{Truncates}
use Rattle.tally.specs.Lists.{stay, grow}
use Rattle.tally.proofs.Words as Words
use Rattle.tally.specs.declared.Tally.{Tally}
use Rattle.refusal.specs.declared.Refusal.{Refusal}
use Rattle.refusal.specs.Refusal.{number_of}
use Rattle.std.specs.Prelude.{Result, Ok, Err}

module _ {A : Type 0} {o : Oracle} {m : M A} {a : Place} where
  pub begun : Reached o m a 0 m a
  begun = record { same = refl; count = omega arith; work = omega arith; contacts = stay _ _ _; points = stay _ _ _ }

  module _ {n : ℕ} {b : Place} where
    -- nothing is left but the outcome
    pub ended : {x : Outcome A} → Reached o m a n (λ l. done (ran x l)) b → Runs o m n a x b
    unfolding exec
    ended r = record { same = r.same; count = r.count; work = r.work; contacts = r.contacts; points = r.points }

    -- a run makes as many steps as it counts
    pub on : {x : Outcome A} → Runs o m n a x b → RunsOn o m a x b
    on r = let e : n ≡ b.tally.steps - a.tally.steps = omega (arith, r.count) in rw e at r

    pub came : {m' : M A} → Reached o m a n m' b → Reached o m a (b.tally.steps - a.tally.steps) m' b
    came r = let e : n ≡ b.tally.steps - a.tally.steps = omega (arith, r.count) in rw e at r

    -- what is left, said otherwise
    pub said : (m1 m2 : M A) → Reached o m a n m1 b → exec o b.tally.rect (m2 (log_at b)) ≡ exec o b.tally.rect (m1 (log_at b)) → Reached o m a n m2 b
    said m1 m2 r e = record { same = e ∙ r.same; count = r.count; work = r.work; contacts = r.contacts; points = r.points }

    -- past a call
    pub beyond : {B : Type 0} {w : M B} {m1 m2 : M A} {j : ℕ} {x : Outcome B} {b' : Place} → Reached o m a n m1 b → Runs o w j b x b'
        → exec o b'.tally.rect (m2 (log_at b')) ≡ exec o b.tally.rect (m1 (log_at b)) → Reached o m a (n + j) m2 b'
    beyond r h e = record {
      same = e ∙ r.same;
      count = omega (arith, h.count, r.count);
      work = omega (arith, h.work, r.work);
      contacts = grow r.contacts h.contacts;
      points = grow r.points h.points;
    }

    -- a call's part and what follows it
    module _ {B : Type 0} (w : M B) (k : B → M A) {j : ℕ} {b' : Place} (r : Reached o m a n (w >>= k) b) where
      pub went : {v : B} → Runs o w j b (goes v) b' → Reached o m a (n + j) (k v) b'
      went h = beyond r h (Words.went o _ w k _ h.same refl refl)

      pub halted : {i : ℕ} → Runs o w j b (stops i) b' → Reached o m a (n + j) (stop_with i) b'
      unfolding exec
      halted h = beyond r h (Words.halted o _ w k _ h.same refl)

    -- past a call that makes no step but may make e evaluations, where those made so far leave room for them
    module _ {B : Type 0} (w : M B) (k : B → M A) {e : ℕ} {b' : Place} (r : Reached o m a n (w >>= k) b)
        (room : b.tally.evaluations + e ≤ a.tally.evaluations + 200 * n) where
      past : {x : Outcome B} {m2 : M A} → RunsBy o w 0 e b x b' → exec o b'.tally.rect (m2 (log_at b')) ≡ exec o b.tally.rect ((w >>= k) (log_at b))
          → Reached o m a n m2 b'
      past h i = record {
        same = i ∙ r.same;
        count = omega (arith, h.count, r.count);
        work = omega (arith, h.work, room);
        contacts = grow r.contacts h.contacts;
        points = grow r.points h.points;
      }

      pub searched : {v : B} → RunsBy o w 0 e b (goes v) b' → Reached o m a n (k v) b'
      searched h = past h (Words.went o _ w k _ h.same refl refl)

      pub search_halted : {i : ℕ} → RunsBy o w 0 e b (stops i) b' → Reached o m a n (stop_with i) b'
      unfolding exec
      search_halted h = past h (Words.halted o _ w k _ h.same refl)

    -- the last call
    pub last : {j : ℕ} {w : M A} {x : Outcome A} {b' : Place} → Reached o m a n w b → Runs o w j b x b' → Runs o m (n + j) a x b'
    last r h = record {
      same = h.same ∙ r.same;
      count = omega (arith, h.count, r.count);
      work = omega (arith, h.work, r.work);
      contacts = grow r.contacts h.contacts;
      points = grow r.points h.points;
    }

    -- a branch on t, where the code branches on h
    module _ (t : Bool) (m1 m2 : M A) {h : Bool} where
      module _ (r : Reached o m a n (if t then m1 else m2) b) (e : h ≡ t) where
        pub if_taken : h ≡ true → Reached o m a n m1 b
        if_taken v = rw (← e, v) at r

        pub if_left : h ≡ false → Reached o m a n m2 b
        if_left v = rw (← e, v) at r

      -- the same, where the definition negates t
      module _ (r : Reached o m a n (if not t then m1 else m2) b) (e : h ≡ t) where
        pub not_left : h ≡ false → Reached o m a n m1 b
        not_left v = rw (← e, v) at r

        pub not_taken : h ≡ true → Reached o m a n m2 b
        not_taken v = rw (← e, v) at r

    -- the points are marked, and taken back to a mark that is not below the first
    pub marked : (k : ℕ → M A) → Reached o m a n (mark >>= k) b → Reached o m a n (k b.tally.points) b
    marked k r = record {
      same = Words.marked o _ _ k (sym (recs-length point_width _ _)) refl ∙ r.same;
      count = r.count;
      work = r.work;
      contacts = r.contacts;
      points = r.points;
    }

    pub truncated : (k : Unit → M A) (i : ℕ) {t' : Tally} {l' : List Float} → Reached o m a n (truncate i >>= k) b → Truncates b.tally b.points i t' l'
        → a.tally.points ≤ i → i ≤ b.tally.points → i * point_width ≤ length b.points → Reached o m a n (k tt) (place t' b.contacts l')
    truncated k i r h u v w = rw (h.tally, h.list) (record {
      same = rw (zeroed_length b.points (i * point_width), recs_zeroed point_width i b.tally.points b.points v w)
          (Words.truncated o _ _ k i refl ∙ r.same);
      count = r.count;
      work = r.work;
      contacts = r.contacts;
      points = record { more = u; long = zeroed_length b.points (i * point_width) ∙ r.points.long; clean = λ _. clean_zeroed point_width i b.points w };
    })

-- ---- a push that was made: one record more, and what the list then holds fits in it
one_more : (w n k : ℕ) (l m r : List Float) → 0 < w → ltb (length (recs w n l)) (length l / w) ≡ true → recs w k m ≡ recs w n l ++ (r ∷ [])
    → (k ≡ n + 1) × (k * w ≤ length l)
one_more w n k l m r p t e =
    let i : k ≡ n + 1 = sym (recs-length w k m) ∙ ap length e ∙ length-append (recs w n l) (r ∷ []) ∙ ap (λ (j : ℕ). j + 1) (recs-length w n l) in
    let u : n < length l / w = ltb-true _ _ (rw (recs-length w n l) at t) in
    (i, (le-div_iff_mul-le p).0 (omega (arith, i, u)))

module _ {o : Oracle} {p q : Place} where
  pub point_more : (s : BallState) (f : Phase) → Runs o (push_point s f) 0 p (goes tt) q
      → (q.tally.points ≡ p.tally.points + 1) × (q.tally.points * point_width ≤ length p.points)
  unfolding push_point put_point look ◌>>=◌ bind pushed exec
  point_more s f h =
      go (spot_ok s.pos.x s.pos.z) (ltb (length (recs point_width p.tally.points p.points)) (length p.points / point_width)) refl h.same
    where
      go : (a b : Bool) → ltb (length (recs point_width p.tally.points p.points)) (length p.points / point_width) ≡ b
          → did (ran (goes tt) (log_at q)) q.tally.rect ≡ exec o (widen_where a p.tally.rect s.pos.x s.pos.z)
          ((seen_at (answer a (o s.pos.x s.pos.z)) >>= λ g. put_point s f g.height) (log_at p))
          → (q.tally.points ≡ p.tally.points + 1) × (q.tally.points * point_width ≤ length p.points)
      go true true t e =
          one_more point_width _ _ _ _ _ (omega arith) t (ap (λ (d : Did (Ran Unit)). d.value.log.points.records) (rw t at e))
      go true false t e =
          absurd (let f = ap (λ (d : Did (Ran Unit)). d.value.outcome) (rw t at e) in let z : ◌≡◌ {A = ℕ} 0 1 = cc (f) in omega arith)
      go false b t e = absurd (let f = ap (λ (d : Did (Ran Unit)). d.value.outcome) e in let z : ◌≡◌ {A = ℕ} 0 1 = cc (f) in omega arith)

  pub contact_more : (a : BallState) (s : GroundSample) (b : BallState) → Runs o (push_contact a s b) 0 p (goes tt) q
      → (q.tally.contacts ≡ p.tally.contacts + 1) × (q.tally.contacts * contact_width ≤ length p.contacts)
  unfolding push_contact pushed exec
  contact_more a s b h = go (ltb (length (recs contact_width p.tally.contacts p.contacts)) (length p.contacts / contact_width)) refl h.same
    where
      go : (t : Bool) → ltb (length (recs contact_width p.tally.contacts p.contacts)) (length p.contacts / contact_width) ≡ t
          → did (ran (goes tt) (log_at q)) q.tally.rect ≡ exec o p.tally.rect
          (contact (pick t (put (recs contact_width p.tally.contacts p.contacts ++ (contact_of a s b ∷ []))) full) (log_at p))
          → (q.tally.contacts ≡ p.tally.contacts + 1) × (q.tally.contacts * contact_width ≤ length p.contacts)
      go true t e = one_more contact_width _ _ _ _ _ (omega arith) t (ap (λ (d : Did (Ran Unit)). d.value.log.contacts.records) e)
      go false t e = absurd (let f = ap (λ (d : Did (Ran Unit)). d.value.outcome) e in let z : ◌≡◌ {A = ℕ} 0 1 = cc (f) in omega arith)

-- a test makes no evaluation
pub no_work_tested : (o : Oracle) (b : BallState) {t t' : Tally} (w : Result BallState Refusal) → Tests t b w t' → t'.evaluations ≤ t.evaluations
no_work_tested o b w h = let r = h o [] [] in omega (arith, r.work)

-- ---- a call of the code that goes on with a value, or stops by its refusal's number
module _ {A B : Type 0} {o : Oracle} {m : M A} {a b : Place} {n : ℕ} (w : M B) (k : B → M A) (r : Reached o m a n (w >>= k) b)
    {j : ℕ} {x : Result B Refusal} {b' : Place} (h : Runs o w j b (outcome_by x) b') where
  pub passes : {v : B} → x ≡ Ok v → Reached o m a (n + j) (k v) b'
  passes e = went w k r (rw e at h)

  pub fails : {e : Refusal} → x ≡ Err e → Reached o m a (n + j) (stop_with (number_of e)) b'
  fails e = halted w k r (rw e at h)

-- a step of the code
pub step_made_lem : {A : Type 0} {o : Oracle} {m : M A} {a : Place} {n : ℕ} {t : Tally} {lc lp : List Float} (s : Made) (k : Made → M A) {t' : Tally}
    → Reached o m a n (make_step s >>= k) (place t lc lp) → MakesStep t s.evaluations t' → Reached o m a (n + 1) (k s) (place t' lc lp)
step_made_lem s k r h = went _ k r (h.runs _ s refl _ _)

-- a push that was made, by its contract: one record more, and what the list then holds fits in it
pub point_fits : (o : Oracle) (s : BallState) (f : Phase) {t t' : Tally} {l m : List Float} {w : Result Unit Refusal} → PushesPoint o t l s f w t' m → w ≡ Ok tt
    → (t'.points ≡ t.points + 1) × (t'.points * point_width ≤ length l)
point_fits o s f {m = m} h v = point_more s f (rw v at (h m))

pub contact_fits : (o : Oracle) (a : BallState) (s : GroundSample) (b : BallState) {t t' : Tally} {l m : List Float} {w : Result Unit Refusal}
    → PushesContact t l a s b w t' m → w ≡ Ok tt
    → (t'.contacts ≡ t.contacts + 1) × (t'.contacts * contact_width ≤ length l)
contact_fits o a s b {m = m} h v = contact_more a s b (rw v at (h o m))

-- a call that may be made with any contacts pushes none: it would find no room in a list that is full
pub no_contact : {A : Type 0} {o : Oracle} {m : M A} {n : ℕ} {t t' : Tally} {lp mp : List Float} {x : Outcome A}
    → ((lc : List Float) → Runs o m n (place t lc lp) x (place t' lc mp)) → t'.contacts ≡ t.contacts
no_contact {t = t} h =
    let l = replicate (t.contacts * contact_width) null in
    let e : length l ≡ t.contacts * contact_width = length-replicate (t.contacts * contact_width) null in
    let r = (h l).contacts in
    let z : length l - t.contacts * contact_width ≡ 0 = omega (arith, e) in
    let c : Clean contact_width t.contacts l
    = record { fits = omega (arith, e); rest = ap (λ (j : ℕ). drop j l) (sym e) ∙ drop-length l ∙ ap (λ (j : ℕ). replicate j null) (sym z) } in
    let d = (r.clean c).fits in
    omega (arith, d, e, r.more)
