-- Statements. Of every call of `listen` with answer 0: every time gets exactly one mark, pairs never cross, each mark is right, and the totals are the
-- counts of the marks. Assumes nothing.
use Rattle.std.specs.Prelude.{ℕ, ◌+◌, ◌≤◌, ◌<◌, ◌≡◌, refl, Bool, true, false, not, ◌⊎◌, List, ◌++◌, T, take, drop, get_or, Float}
use Rattle.std.proofs.Common.{zero-add, arith, ap, ◌∙◌, inl, inr, ⊎_elim, append_assoc, take_at, get_or-append-add}
use Rattle.std.proofs.Math.Path.{sym, subst}
use Rattle.std.proofs.Math.ListN.{length, length-append, length-drop, get_or-append}
use Rattle.std.proofs.Math.Seq.{drop_at}
use Rattle.std.specs.Float.{nan}
use Rattle.std.specs.Float.Ieee.{lt}
use Rattle.listen.specs.Listen.{record_width, contact_times, near, walk, heard_marks, contact_marks, count, refusal_of, Listen, marked, listen_of}
use Rattle.listen.proofs.Accepted.{accepted}
use Rattle.listen.proofs.Walking.{firsts_length, walking, heard_length, contact_length, heard_total, contact_total, pairs_same}
use Rattle.listen.specs.Turns.{places, Increasing, PairAt, HeardOnlyAt, ComputedOnlyAt}
use Rattle.listen.proofs.Earlier.{earlier, time_finite, tolerance_from_0}
use Rattle.listen.proofs.Marking.{heard_each, contact_each, places_count, places_increase, heard_from, computed_from, pair_from}

-- heard times hs and contact times cs, a lent mark list, and what the call gives
module _ (t : Float) (hs cs : List Float) (lent : List ℕ) (out : Listen) where
  -- the marks of the heard times, and those of the contacts
  abbrev pub of_heard : List ℕ
  of_heard = take (length hs) out.marks

  abbrev pub of_contacts : List ℕ
  of_contacts = take (length cs) (drop (length hs) out.marks)

  -- the places of the paired heard times, and those of the paired contacts
  abbrev pub paired_heard : List ℕ
  paired_heard = places 0 0 of_heard

  abbrev pub paired_contacts : List ℕ
  paired_contacts = places 0 0 of_contacts

  pub record Listened : Type 0 where
    pub answer : out.heard.answer ≡ 0
    -- "marks past those stay"
    pub as_long : length out.marks ≡ length lent
    pub stay : drop (length hs + length cs) out.marks ≡ drop (length hs + length cs) lent
    -- "Every time gets exactly one mark": 0 or 1 a heard time, 0 or 2 a contact
    pub each_heard : (i : ℕ) → i < length hs → (get_or out.marks i 3 ≡ 0) ⊎ (get_or out.marks i 3 ≡ 1)
    pub each_contact : (j : ℕ) → j < length cs → (get_or out.marks (length hs + j) 3 ≡ 0) ⊎ (get_or out.marks (length hs + j) 3 ≡ 2)
    -- "pairs never cross": the k-th paired heard time goes with the k-th paired contact, and both have their places in order
    pub heard_in_order : Increasing paired_heard
    pub contacts_in_order : Increasing paired_contacts
    pub as_many_heard : length paired_heard ≡ out.heard.pairs
    pub as_many_contacts : length paired_contacts ≡ out.heard.pairs
    pub pairs : (k : ℕ) → k < out.heard.pairs → PairAt t hs cs (get_or paired_heard k 0) (get_or paired_contacts k 0)
    -- "otherwise the earlier front is marked .. A list left over is marked so"
    pub heard_only_lem : (i : ℕ) → i < length hs → get_or out.marks i 3 ≡ 1 → HeardOnlyAt t hs cs i
    pub computed_only_lem : (j : ℕ) → j < length cs → get_or out.marks (length hs + j) 3 ≡ 2 → ComputedOnlyAt t hs cs j
    -- the totals are the counts of the marks
    pub pairs_heard : out.heard.pairs ≡ count 0 of_heard
    pub pairs_contacts : out.heard.pairs ≡ count 0 of_contacts
    pub count_heard_only : out.heard.heard_only ≡ count 1 of_heard
    pub count_computed_only : out.heard.computed_only ≡ count 2 of_contacts
    -- "Pairs + heard only = times heard, and pairs + computed only = contacts"
    pub heard_sum : out.heard.pairs + out.heard.heard_only ≡ length hs
    pub contacts_sum : out.heard.pairs + out.heard.computed_only ≡ length cs

-- ---- of a walk
module _ (t : Float) (hs cs : List Float) (lent : List ℕ) (room : length hs + length cs ≤ length lent)
    (late : (i j : ℕ) → i < length hs → j < length cs → near t (get_or hs i nan) (get_or cs j nan) ≡ false → lt (get_or hs i nan) (get_or cs j nan) ≡ false
    → T (lt (get_or cs j nan) (get_or hs i nan))) where
  abbrev h : List ℕ
  h = heard_marks (walk t hs cs)

  abbrev c : List ℕ
  c = contact_marks (walk t hs cs)

  abbrev rest : List ℕ
  rest = drop (length h + length c) lent

  abbrev marks : List ℕ
  marks = (h ++ c) ++ rest

  long_h : length h ≡ length hs
  long_h = heard_length (walking t hs cs)

  long_c : length c ≡ length cs
  long_c = contact_length (walking t hs cs)

  front : take (length hs) marks ≡ h
  front = ap (take (length hs)) (append_assoc h c rest) ∙ take_at h (c ++ rest) (length hs) long_h

  behind : take (length cs) (drop (length hs) marks) ≡ c
  behind =
      ap (λ (l : List ℕ). take (length cs) (drop (length hs) l)) (append_assoc h c rest)
      ∙ ap (take (length cs)) (drop_at h (c ++ rest) (length hs) long_h) ∙ take_at c rest (length cs) long_c

  heard_mark : (i : ℕ) → i < length hs → get_or marks i 3 ≡ get_or h i 3
  heard_mark i l =
      ap (λ (m : List ℕ). get_or m i 3) (append_assoc h c rest) ∙ get_or-append h (c ++ rest) 3 i (omega (arith, long_h))

  contact_mark : (j : ℕ) → j < length cs → get_or marks (length hs + j) 3 ≡ get_or c j 3
  contact_mark j l =
      ap (λ (m : List ℕ). get_or m (length hs + j) 3) (append_assoc h c rest)
      ∙ ap (λ (n : ℕ). get_or (h ++ (c ++ rest)) (n + j) 3) (sym long_h) ∙ get_or-append-add h (c ++ rest) j 3
      ∙ get_or-append c rest 3 j (omega (arith, long_c))

  false_not : {b : Bool} → b ≡ false → T (not b)
  false_not e = subst (λ (x : Bool). T (not x)) (sym e) tt

  true_is : {b : Bool} → b ≡ true → T b
  true_is e = subst T (sym e) tt

  heard_alone : (i : ℕ) → i < length hs → get_or h i 3 ≡ 1 → HeardOnlyAt t hs cs i
  heard_alone i l e =
      let f = heard_from (walking t hs cs) 0 0 i l e in
      record { against = f.j; fronts = simp zero-add at f.fronts; why = ⊎_elim inl (λ x. inr (x.0, false_not x.1, true_is x.2)) f.why }

  contact_alone : (j : ℕ) → j < length cs → get_or c j 3 ≡ 2 → ComputedOnlyAt t hs cs j
  contact_alone j l e =
      let f = computed_from (walking t hs cs) 0 0 j l e in
      record {
        against = f.i;
        fronts = simp zero-add at f.fronts;
        why = ⊎_elim inl (λ x. inr (x.0, false_not x.1, late f.i j x.0 l x.1 x.2)) f.why;
      }

  pair_at : (k : ℕ) → k < count 0 h → PairAt t hs cs (get_or (places 0 0 h) k 0) (get_or (places 0 0 c) k 0)
  pair_at k l =
      let f = pair_from (walking t hs cs) 0 0 k l in
      rw (f.i_place ∙ zero-add f.i, f.j_place ∙ zero-add f.j)
      (record { fronts = simp zero-add at f.fronts; i_heard = f.i_heard; j_contact = f.j_contact; within = true_is f.within })

  of_walk : Listened t hs cs lent (marked (walk t hs cs) lent)
  unfolding marked
  of_walk =
      record {
        answer = refl;
        as_long =
            length-append (h ++ c) rest ∙ (omega (arith, length-append h c, length-drop (length h + length c) lent, long_h, long_c));
        stay = drop_at (h ++ c) rest (length hs + length cs) (omega (arith, length-append h c, long_h, long_c)) ∙ rw (long_h, long_c);
        each_heard = λ i l. subst (λ (m : ℕ). (m ≡ 0) ⊎ (m ≡ 1)) (sym (heard_mark i l)) (heard_each (walk t hs cs) i (omega (arith, long_h)));
        each_contact = λ j l. subst (λ (m : ℕ). (m ≡ 0) ⊎ (m ≡ 2)) (sym (contact_mark j l)) (contact_each (walk t hs cs) j (omega (arith, long_c)));
        heard_in_order = places_increase 0 0 (take (length hs) marks);
        contacts_in_order = places_increase 0 0 (take (length cs) (drop (length hs) marks));
        as_many_heard = rw front (places_count 0 0 h);
        as_many_contacts = rw behind (places_count 0 0 c ∙ sym (pairs_same (walk t hs cs)));
        pairs = rw (front, behind) pair_at;
        heard_only_lem = λ i l e. heard_alone i l (sym (heard_mark i l) ∙ e);
        computed_only_lem = λ j l e. contact_alone j l (sym (contact_mark j l) ∙ e);
        pairs_heard = rw front;
        pairs_contacts = rw behind (pairs_same (walk t hs cs));
        count_heard_only = rw front;
        count_computed_only = rw behind;
        heard_sum = heard_total (walk t hs cs) ∙ long_h;
        contacts_sum = rw (pairs_same (walk t hs cs)) (contact_total (walk t hs cs) ∙ long_c);
      }

-- ---- of a call
module _ (heard contacts : List Float) (n : ℕ) (t : Float) (marks : List ℕ) (e : refusal_of heard contacts n t (length marks) ≡ 0) where
  abbrev cs : List Float
  cs = contact_times n contacts

  room : length heard + length cs ≤ length marks
  room = omega (arith, (accepted heard contacts n t (length marks) e).room_for, firsts_length record_width n contacts)

  -- of two fronts further apart than the tolerance, where the heard time is not earlier the contact is
  late : (i j : ℕ) → i < length heard → j < length cs → near t (get_or heard i nan) (get_or cs j nan) ≡ false
      → lt (get_or heard i nan) (get_or cs j nan) ≡ false
      → T (lt (get_or cs j nan) (get_or heard i nan))
  late i j k l =
      let a = accepted heard contacts n t (length marks) e in
      earlier t (get_or heard i nan) (get_or cs j nan) (time_finite heard a.heard_times i k) (time_finite cs a.contact_times_lem j l)
      (tolerance_from_0 t a.tolerance)

  pub listened_right : Listened t heard (contact_times n contacts) marks (listen_of heard contacts n t marks)
  unfolding listen_of
  listened_right = rw e (of_walk t heard cs marks room late)
