-- Lemmas. Each mark of a walk and the turn that set it, from any two places on. Assumes nothing.
use Rattle.std.specs.Prelude.{ℕ, zero, suc, ◌+◌, ◌≤◌, ◌<◌, ◌≡◌, refl, Bool, true, false, ◌⊎◌, eqb, length, get_or, Float}
use Rattle.std.proofs.Common.{arith, ap, subst, inl, inr}
use mathlib.Core.List.{List, [], ◌∷◌, Memᴰ}
use Rattle.std.specs.Float.{nan}
use Rattle.std.specs.Float.Ieee.{lt}
use Rattle.std.specs.Prelude.{if◌then◌else◌}
use Rattle.listen.specs.Listen.{near, heard_marks, contact_marks, count}
use Rattle.listen.proofs.Walking.{Walking, ended, computed_left, heard_left, pair, heard_first, computed_first}
use Rattle.listen.specs.Turns.{Turn, turn, turns_from, places, Increasing}
use Rattle.listen.specs.declared.Mark.{Mark}
use Rattle.listen.specs.declared.Mark.TheVariants.{Paired, HeardOnly, ComputedOnly}

-- ---- the marks
pub heard_each : (w : List Mark) (i : ℕ) → i < length (heard_marks w) → (get_or (heard_marks w) i 3 ≡ 0) ⊎ (get_or (heard_marks w) i 3 ≡ 1)
unfolding heard_marks
heard_each [] i h = absurd (omega arith)
heard_each (Paired ∷ w) zero h = inl refl
heard_each (Paired ∷ w) (suc i) h = heard_each w i (omega arith)
heard_each (HeardOnly ∷ w) zero h = inr refl
heard_each (HeardOnly ∷ w) (suc i) h = heard_each w i (omega arith)
heard_each (ComputedOnly ∷ w) i h = heard_each w i h

pub contact_each : (w : List Mark) (j : ℕ) → j < length (contact_marks w) → (get_or (contact_marks w) j 3 ≡ 0) ⊎ (get_or (contact_marks w) j 3 ≡ 2)
unfolding contact_marks
contact_each [] j h = absurd (omega arith)
contact_each (Paired ∷ w) zero h = inl refl
contact_each (Paired ∷ w) (suc j) h = contact_each w j (omega arith)
contact_each (HeardOnly ∷ w) j h = contact_each w j h
contact_each (ComputedOnly ∷ w) zero h = inr refl
contact_each (ComputedOnly ∷ w) (suc j) h = contact_each w j (omega arith)

-- ---- the places of a mark
pub places_count : (k i : ℕ) (l : List ℕ) → length (places k i l) ≡ count k l
unfolding places count
places_count k i [] = refl
places_count k i (m ∷ l) = go (eqb m k) (places_count k (suc i) l)
  where
    go : (b : Bool) → length (places k (suc i) l) ≡ count k l
        → length (if b then i ∷ places k (suc i) l else places k (suc i) l) ≡ (if b then suc (count k l) else count k l)
    go true e = ap suc e
    go false e = e

places_from : (k i : ℕ) (l : List ℕ) (n : ℕ) → n < length (places k i l) → i ≤ get_or (places k i l) n 0
unfolding places
places_from k i [] n h = absurd (omega arith)
places_from k i (m ∷ l) n h = go (eqb m k) (places_from k (suc i) l) n h
  where
    go : (b : Bool) → ((n : ℕ) → n < length (places k (suc i) l) → suc i ≤ get_or (places k (suc i) l) n 0)
        → (n : ℕ) → n < length (if b then i ∷ places k (suc i) l else places k (suc i) l)
        → i ≤ get_or (if b then i ∷ places k (suc i) l else places k (suc i) l) n 0
    go true f zero h = omega arith
    go true f (suc n) h = omega (arith, f n (omega arith))
    go false f n h = omega (arith, f n h)

pub places_increase : (k i : ℕ) (l : List ℕ) → Increasing (places k i l)
unfolding places
places_increase k i [] n h = absurd (omega arith)
places_increase k i (m ∷ l) n h = go (eqb m k) (places_increase k (suc i) l) n h
  where
    go : (b : Bool) → Increasing (places k (suc i) l) → Increasing (if b then i ∷ places k (suc i) l else places k (suc i) l)
    go true f zero h = places_from k (suc i) l 0 (omega arith)
    go true f (suc n) h = f n (omega arith)
    go false f n h = f n h

-- ---- a turn at other names of its places
abbrev In : Turn → List Turn → Type 0
In x l = Memᴰ x l

at : {m : Mark} {i j i' j' : ℕ} {l : List Turn} → i ≡ i' → j ≡ j' → In (turn m i j) l → In (turn m i' j') l
at {m} {i} {j} {i'} {j'} {l} p q x = subst (λ (a : ℕ). In (turn m a j') l) p (subst (λ (b : ℕ). In (turn m i b) l) q x)

-- one time of the other list was passed before
passed : {j n : ℕ} {P Q : Type 0} → (j ≡ n) ⊎ ((j < n) × P × Q) → (suc j ≡ suc n) ⊎ ((suc j < suc n) × P × Q)
passed (inl e) = inl (ap suc e)
passed (inr x) = inr (omega arith, x.1, x.2)

-- ---- heard only
pub record HeardFrom (t : Float) (hs cs : List Float) (w : List Mark) (a b i : ℕ) : Type 0 where
  pub j : ℕ
  pub fronts : In (turn HeardOnly (a + i) (b + j)) (turns_from a b w)
  pub why : (j ≡ length cs) ⊎ ((j < length cs) × (near t (get_or hs i nan) (get_or cs j nan) ≡ false) × (lt (get_or hs i nan) (get_or cs j nan) ≡ true))

pub heard_from : {t : Float} {hs cs : List Float} {w : List Mark} → Walking t hs cs w → (a b i : ℕ) → i < length hs → get_or (heard_marks w) i 3 ≡ 1
    → HeardFrom t hs cs w a b i
unfolding heard_marks turns_from
heard_from ended a b i l e = absurd (omega arith)
heard_from (computed_left k) a b i l e = absurd (omega arith)
heard_from (heard_left k) a b zero l e = record { j = 0; fronts = at (omega arith) (omega arith) (Memᴰ.head refl); why = inl refl }
heard_from (heard_left k) a b (suc i) l e =
    let f = heard_from k (suc a) b i (omega arith) e in
    record { j = f.j; fronts = at (omega arith) refl (Memᴰ.tail f.fronts); why = f.why }
heard_from (pair n k) a b zero l e = absurd (omega arith)
heard_from (pair n k) a b (suc i) l e =
    let f = heard_from k (suc a) (suc b) i (omega arith) e in
    record { j = suc f.j; fronts = at (omega arith) (omega arith) (Memᴰ.tail f.fronts); why = passed f.why }
heard_from (heard_first n m k) a b zero l e = record { j = 0; fronts = at (omega arith) (omega arith) (Memᴰ.head refl); why = inr (omega arith, n, m) }
heard_from (heard_first n m k) a b (suc i) l e =
    let f = heard_from k (suc a) b i (omega arith) e in
    record { j = f.j; fronts = at (omega arith) refl (Memᴰ.tail f.fronts); why = f.why }
heard_from (computed_first n m k) a b i l e =
    let f = heard_from k a (suc b) i l e in
    record { j = suc f.j; fronts = at refl (omega arith) (Memᴰ.tail f.fronts); why = passed f.why }

-- ---- computed only
pub record ComputedFrom (t : Float) (hs cs : List Float) (w : List Mark) (a b j : ℕ) : Type 0 where
  pub i : ℕ
  pub fronts : In (turn ComputedOnly (a + i) (b + j)) (turns_from a b w)
  pub why : (i ≡ length hs) ⊎ ((i < length hs) × (near t (get_or hs i nan) (get_or cs j nan) ≡ false) × (lt (get_or hs i nan) (get_or cs j nan) ≡ false))

pub computed_from : {t : Float} {hs cs : List Float} {w : List Mark} → Walking t hs cs w → (a b j : ℕ) → j < length cs → get_or (contact_marks w) j 3 ≡ 2
    → ComputedFrom t hs cs w a b j
unfolding contact_marks turns_from
computed_from ended a b j l e = absurd (omega arith)
computed_from (heard_left k) a b j l e = absurd (omega arith)
computed_from (computed_left k) a b zero l e = record { i = 0; fronts = at (omega arith) (omega arith) (Memᴰ.head refl); why = inl refl }
computed_from (computed_left k) a b (suc j) l e =
    let f = computed_from k a (suc b) j (omega arith) e in
    record { i = f.i; fronts = at refl (omega arith) (Memᴰ.tail f.fronts); why = f.why }
computed_from (pair n k) a b zero l e = absurd (omega arith)
computed_from (pair n k) a b (suc j) l e =
    let f = computed_from k (suc a) (suc b) j (omega arith) e in
    record { i = suc f.i; fronts = at (omega arith) (omega arith) (Memᴰ.tail f.fronts); why = passed f.why }
computed_from (heard_first n m k) a b j l e =
    let f = computed_from k (suc a) b j l e in
    record { i = suc f.i; fronts = at (omega arith) refl (Memᴰ.tail f.fronts); why = passed f.why }
computed_from (computed_first n m k) a b zero l e =
    record { i = 0; fronts = at (omega arith) (omega arith) (Memᴰ.head refl); why = inr (omega arith, n, m) }
computed_from (computed_first n m k) a b (suc j) l e =
    let f = computed_from k a (suc b) j (omega arith) e in
    record { i = f.i; fronts = at refl (omega arith) (Memᴰ.tail f.fronts); why = f.why }

-- ---- pairs: the n-th place with the mark 0 among the heard times, and the n-th among the contacts
pub record PairFrom (t : Float) (hs cs : List Float) (w : List Mark) (a b n : ℕ) : Type 0 where
  pub i : ℕ
  pub j : ℕ
  pub i_heard : i < length hs
  pub j_contact : j < length cs
  pub i_place : get_or (places 0 a (heard_marks w)) n 0 ≡ a + i
  pub j_place : get_or (places 0 b (contact_marks w)) n 0 ≡ b + j
  pub fronts : In (turn Paired (a + i) (b + j)) (turns_from a b w)
  pub within : near t (get_or hs i nan) (get_or cs j nan) ≡ true

pub pair_from : {t : Float} {hs cs : List Float} {w : List Mark} → Walking t hs cs w → (a b n : ℕ) → n < count 0 (heard_marks w)
    → PairFrom t hs cs w a b n
unfolding heard_marks contact_marks turns_from places count
pair_from ended a b n l = absurd (omega arith)
pair_from (computed_left k) a b n l =
    let f = pair_from k a (suc b) n l in
    record {
      i = f.i;
      j = suc f.j;
      i_heard = f.i_heard;
      j_contact = omega (arith, f.j_contact);
      i_place = f.i_place;
      j_place = omega (arith, f.j_place);
      fronts = at refl (omega arith) (Memᴰ.tail f.fronts);
      within = f.within;
    }
pair_from (heard_left k) a b n l =
    let f = pair_from k (suc a) b n l in
    record {
      i = suc f.i;
      j = f.j;
      i_heard = omega (arith, f.i_heard);
      j_contact = f.j_contact;
      i_place = omega (arith, f.i_place);
      j_place = f.j_place;
      fronts = at (omega arith) refl (Memᴰ.tail f.fronts);
      within = f.within;
    }
pair_from (pair m k) a b zero l =
    record {
      i = 0;
      j = 0;
      i_heard = omega arith;
      j_contact = omega arith;
      i_place = omega arith;
      j_place = omega arith;
      fronts = at (omega arith) (omega arith) (Memᴰ.head refl);
      within = m;
    }
pair_from (pair m k) a b (suc n) l =
    let f = pair_from k (suc a) (suc b) n (omega arith) in
    record {
      i = suc f.i;
      j = suc f.j;
      i_heard = omega (arith, f.i_heard);
      j_contact = omega (arith, f.j_contact);
      i_place = omega (arith, f.i_place);
      j_place = omega (arith, f.j_place);
      fronts = at (omega arith) (omega arith) (Memᴰ.tail f.fronts);
      within = f.within;
    }
pair_from (heard_first x y k) a b n l =
    let f = pair_from k (suc a) b n l in
    record {
      i = suc f.i;
      j = f.j;
      i_heard = omega (arith, f.i_heard);
      j_contact = f.j_contact;
      i_place = omega (arith, f.i_place);
      j_place = f.j_place;
      fronts = at (omega arith) refl (Memᴰ.tail f.fronts);
      within = f.within;
    }
pair_from (computed_first x y k) a b n l =
    let f = pair_from k a (suc b) n l in
    record {
      i = f.i;
      j = suc f.j;
      i_heard = f.i_heard;
      j_contact = omega (arith, f.j_contact);
      i_place = f.i_place;
      j_place = omega (arith, f.j_place);
      fronts = at refl (omega arith) (Memᴰ.tail f.fronts);
      within = f.within;
    }
