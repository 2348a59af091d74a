-- Lemmas. Of names and of the first place that holds one. Assumes nothing.
use Rattle.std.specs.Prelude.{ℕ, zero, suc, ◌+◌, ◌-◌, ◌≤◌, ◌<◌, ◌≡◌, ◌⊎◌, Bool, not, ◌&&◌, ◌||◌, cond, List, [], ◌∷◌, ◌++◌, T, eqb, take, replicate}
use Rattle.std.proofs.Common.{arith, ap, ◌∙◌, sym, subst, inl, inr, leb-true, eqb-true, le-leb}
use Rattle.std.proofs.Math.Path.{refl}
use Rattle.std.proofs.Math.Bool.{true, false}
use Rattle.std.proofs.Math.Option.{none, some}
use Rattle.std.proofs.Math.Dec.{leb, eqb_refl}
use Rattle.std.proofs.Math.ListN.{length, length-append, length-replicate}
use Rattle.std.proofs.Math.Seq.{take-append_seam}
use Rattle.std.specs.Float.Ieee.Bits.{is_true}
use Rattle.std.proofs.lemmas.Bool.{lt-leb}
use Rattle.state.specs.State.{state_ok}
use Rattle.state.specs.declared.BallState.{BallState}
use Rattle.shelf.specs.declared.Place.{Place}
use Rattle.shelf.specs.Map.{is_letter, letters, name_ok, same}
use Rattle.shelf.specs.Shelf.{packed, no_name, empty_place, has, find, put, padded, sound_name, sound_place, sound}

-- ---- truth values
pub clash : {b : Bool} → b ≡ true → b ≡ false → ⊥
clash p q = subst T (sym p ∙ q) tt

pub both : (a b : Bool) → a && b ≡ true → (a ≡ true) × (b ≡ true)
both true b e = (refl, e)
both false b e = absurd (clash e refl)

abbrev pub Decided : Bool → Type 0
Decided b = (b ≡ true) ⊎ (b ≡ false)

pub decide : (b : Bool) → Decided b
decide true = inl refl
decide false = inr refl

-- ---- `same` is equality
pub same_self : (n : List ℕ) → same n n ≡ true
unfolding same
same_self [] = refl
same_self (b ∷ n) = rw (is_true (eqb b b) (eqb_refl b), same_self n)

pub same_eq : (m n : List ℕ) → same m n ≡ true → m ≡ n
unfolding same
same_eq [] [] e = refl
same_eq [] (b ∷ n) e = absurd (clash e refl)
same_eq (a ∷ m) [] e = absurd (clash e refl)
same_eq (a ∷ m) (b ∷ n) e =
    let h = both (eqb a b) (same m n) e in
    let p : a ≡ b = eqb-true a b h.0 in
    let q : m ≡ n = same_eq m n h.1 in
    cc

pub differ : (m n : List ℕ) → (m ≡ n → ⊥) → same m n ≡ false
differ m n f = go (decide (same m n))
  where
    go : Decided (same m n) → same m n ≡ false
    go (inl e) = absurd (f (same_eq m n e))
    go (inr e) = e

-- ---- packed names
pub packed_injective : (m n : List ℕ) → packed m ≡ packed n → m ≡ n
unfolding packed
packed_injective m n e =
    let l : length m ≡ length n = cc in
    let t : m ++ replicate (12 - length m) 0 ≡ n ++ replicate (12 - length n) 0 = cc in
    sym (take-append_seam m (replicate (12 - length m) 0)) ∙ ap (take (length m)) t ∙ ap (λ (i : ℕ). take i (n ++ replicate (12 - length n) 0)) l
    ∙ take-append_seam n (replicate (12 - length n) 0)

pub same_packed : (m n : List ℕ) → same m n ≡ false → same (packed m) (packed n) ≡ false
same_packed m n e = differ (packed m) (packed n) (λ p. clash (ap (same m) (sym (packed_injective m n p)) ∙ same_self m) e)

zeros : (k : ℕ) → padded 0 (replicate k 0) ≡ true
unfolding padded
zeros zero = refl
zeros (suc k) = zeros k

letters_padded : (n : List ℕ) (k : ℕ) → letters n ≡ true → padded (length n) (n ++ replicate k 0) ≡ true
unfolding padded letters
letters_padded [] k e = zeros k
letters_padded (b ∷ n) k e =
    let h = both (is_letter b) (letters n) e in
    rw (h.0, letters_padded n k h.1)

module _ (n : List ℕ) (ok : name_ok n ≡ true) where
  parts : (leb 1 (length n) && leb (length n) 12 ≡ true) × (letters n ≡ true)
  unfolding name_ok
  parts = both (leb 1 (length n) && leb (length n) 12) (letters n) ok

  ends : (leb 1 (length n) ≡ true) × (leb (length n) 12 ≡ true)
  ends = both (leb 1 (length n)) (leb (length n) 12) parts.0

  pub at_least_1 : 1 ≤ length n
  at_least_1 = leb-true 1 (length n) ends.0

  pub at_most_12 : length n ≤ 12
  at_most_12 = leb-true (length n) 12 ends.1

  pub packed_sound : sound_name (packed n) ≡ true
  unfolding packed sound_name
  packed_sound = rw (ends.1, letters_padded n (12 - length n) parts.1)

  pub packed_length : length (packed n) ≡ 13
  unfolding packed
  packed_length =
      let m = at_most_12 in
      omega (arith, length-append n (replicate (12 - length n) 0), length-replicate {A = ℕ} (12 - length n) 0)

  pub packed_taken : same (packed n) no_name ≡ false
  unfolding packed
  packed_taken = differ (packed n) no_name (λ e. let l : length n ≡ 0 = cc in let m = at_least_1 in omega arith)

  pub free_not_packed : same no_name (packed n) ≡ false
  unfolding packed
  free_not_packed = differ no_name (packed n) (λ e. let l : length n ≡ 0 = cc in let m = at_least_1 in omega arith)

-- ---- the first place that holds k, l being the places p ∷ l
module _ (k : List ℕ) (p : Place) (l : List Place) where
  pub has_cons : has k (p ∷ l) ≡ false → (same p.name k ≡ false) × (has k l ≡ false)
  unfolding has
  has_cons e = go (same p.name k) e
    where
      go : (b : Bool) → b || has k l ≡ false → (b ≡ false) × (has k l ≡ false)
      go true e = absurd (clash refl e)
      go false e = (refl, e)

  pub has_later : same p.name k ≡ false → has k (p ∷ l) ≡ has k l
  unfolding has
  has_later e = rw e

  pub find_here : same p.name k ≡ true → find k (p ∷ l) ≡ some p.state
  unfolding find
  find_here e = rw (find, e)

  pub find_later : same p.name k ≡ false → find k (p ∷ l) ≡ find k l
  unfolding find
  find_later e = rw (find, e)

  module _ (q : Place) where
    pub put_here : same p.name k ≡ true → put k q (p ∷ l) ≡ q ∷ l
    unfolding put
    put_here e = rw (put, e)

    pub put_later : same p.name k ≡ false → put k q (p ∷ l) ≡ p ∷ put k q l
    unfolding put
    put_later e = rw (put, e)

pub has_find : (k : List ℕ) (l : List Place) → has k l ≡ false → find k l ≡ none
unfolding find
has_find k [] e = refl
has_find k (p ∷ l) e = let h = has_cons k p l e in find_later k p l h.0 ∙ has_find k l h.1

-- k is the name n, or n is not there
abbrev pub Fresh : List ℕ → List ℕ → List Place → Type 0
Fresh k n l = (k ≡ n) ⊎ (has n l ≡ false)

fresh_later : (k n : List ℕ) (p : Place) (l : List Place) → Fresh k n (p ∷ l) → Fresh k n l
fresh_later k n p l (inl e) = inl e
fresh_later k n p l (inr e) = inr (has_cons n p l e).1

fresh_here : (k n : List ℕ) (p : Place) (l : List Place) → Fresh k n (p ∷ l) → same p.name k ≡ false → same p.name n ≡ false
fresh_here k n p l (inl e) h = rw e at h
fresh_here k n p l (inr e) h = (has_cons n p l e).0

-- ---- after q was put in its stead: q's own name
pub find_put : (k : List ℕ) (q : Place) (l : List Place) → has k l ≡ true → Fresh k q.name l → find q.name (put k q l) ≡ some q.state
unfolding has
find_put k q [] h f = absurd (clash h refl)
find_put k q (p ∷ l) h f = go (find_put k q l) (decide (same p.name k))
  where
    go : (has k l ≡ true → Fresh k q.name l → find q.name (put k q l) ≡ some q.state) → Decided (same p.name k)
        → find q.name (put k q (p ∷ l)) ≡ some q.state
    go r (inl e) = ap (find q.name) (put_here k p l q e) ∙ find_here q.name q l (same_self q.name)
    go r (inr e) =
        ap (find q.name) (put_later k p l q e) ∙ find_later q.name p (put k q l) (fresh_here k q.name p l f e)
        ∙ r (sym (has_later k p l e) ∙ h) (fresh_later k q.name p l f)

-- another name
pub find_other : (k m : List ℕ) (q : Place) (l : List Place) → same q.name m ≡ false → same k m ≡ false → find m (put k q l) ≡ find m l
unfolding put
find_other k m q [] h i = refl
find_other k m q (p ∷ l) h i = go (find_other k m q l h i) (decide (same p.name k)) (decide (same p.name m))
  where
    go : find m (put k q l) ≡ find m l → Decided (same p.name k) → Decided (same p.name m) → find m (put k q (p ∷ l)) ≡ find m (p ∷ l)
    go r (inl e) d =
        let j : same p.name m ≡ false = rw (same_eq p.name k e) i in
        ap (find m) (put_here k p l q e) ∙ find_later m q l h ∙ sym (find_later m p l j)
    go r (inr e) (inl d) = ap (find m) (put_later k p l q e) ∙ find_here m p (put k q l) d ∙ sym (find_here m p l d)
    go r (inr e) (inr d) = ap (find m) (put_later k p l q e) ∙ find_later m p (put k q l) d ∙ r ∙ sym (find_later m p l d)

pub has_put : (k m : List ℕ) (q : Place) (l : List Place) → same q.name m ≡ false → has m l ≡ false → has m (put k q l) ≡ false
unfolding put
has_put k m q [] h i = i
has_put k m q (p ∷ l) h i = go (has_put k m q l h) (decide (same p.name k))
  where
    j : (same p.name m ≡ false) × (has m l ≡ false)
    j = has_cons m p l i

    go : (has m l ≡ false → has m (put k q l) ≡ false) → Decided (same p.name k) → has m (put k q (p ∷ l)) ≡ false
    go r (inl e) = ap (has m) (put_here k p l q e) ∙ has_later m q l h ∙ j.1
    go r (inr e) = ap (has m) (put_later k p l q e) ∙ has_later m p (put k q l) j.0 ∙ r j.1

pub length-put : (k : List ℕ) (q : Place) (l : List Place) → length (put k q l) ≡ length l
unfolding put
length-put k q [] = refl
length-put k q (p ∷ l) = go (same p.name k) (length-put k q l)
  where
    go : (b : Bool) → length (put k q l) ≡ length l → length {A = Place} (elim b [ true ↦ q ∷ l | false ↦ p ∷ put k q l ]) ≡ suc (length l)
    go true e = refl
    go false e = ap suc e

-- ---- how many places hold a name
unfoldable pub one : List ℕ → ℕ
one n = cond (same n no_name) 0 1

unfoldable pub used : List Place → ℕ
used [] = 0
used (p ∷ l) = one p.name + used l

pub used_put : (k : List ℕ) (q : Place) (l : List Place) → has k l ≡ true → used (put k q l) + one k ≡ used l + one q.name
unfolding has used
used_put k q [] h = absurd (clash h refl)
used_put k q (p ∷ l) h = go (used_put k q l) (decide (same p.name k))
  where
    go : (has k l ≡ true → used (put k q l) + one k ≡ used l + one q.name) → Decided (same p.name k)
        → used (put k q (p ∷ l)) + one k ≡ one p.name + used l + one q.name
    go r (inl e) = rw (put_here k p l q e, same_eq p.name k e) (omega arith)
    go r (inr e) = let i = r (sym (has_later k p l e) ∙ h) in rw (put_later k p l q e) (omega arith)

-- 16 are used exactly if no place is free
pub used_most : (l : List Place) → used l ≤ length l
unfolding used one
used_most [] = omega arith
used_most (p ∷ l) = go (same p.name no_name) (used_most l)
  where
    go : (b : Bool) → used l ≤ length l → cond b 0 1 + used l ≤ suc (length l)
    go true h = omega arith
    go false h = omega arith

pub used_all : (l : List Place) → has no_name l ≡ false → used l ≡ length l
unfolding used one
used_all [] e = refl
used_all (p ∷ l) e = let h = has_cons no_name p l e in rw h.0 (let i = used_all l h.1 in omega arith)

pub used_some : (l : List Place) → has no_name l ≡ true → used l < length l
unfolding has used one
used_some [] e = absurd (clash e refl)
used_some (p ∷ l) e = go (same p.name no_name) (used_some l) e
  where
    m : used l ≤ length l
    m = used_most l

    go : (b : Bool) → (has no_name l ≡ true → used l < length l) → b || has no_name l ≡ true → cond b 0 1 + used l < suc (length l)
    go true r h = let i = m in omega arith
    go false r h = let i = r h in omega arith

pub used_room : (l : List Place) (n : ℕ) → length l ≡ n → leb n (used l) ≡ not (has no_name l)
used_room l n h = go (decide (has no_name l))
  where
    go : Decided (has no_name l) → leb n (used l) ≡ not (has no_name l)
    go (inl e) = let i = used_some l e in rw e (lt-leb n (used l) (omega arith))
    go (inr e) = let i = used_all l e in rw e (le-leb n (used l) (omega arith))

-- ---- sound places
pub record SoundAt (p : Place) (l : List Place) : Type 0 where
  pub name : sound_name p.name ≡ true
  pub kept : (same p.name no_name ≡ true) ⊎ ((state_ok p.state ≡ true) × (has p.name l ≡ false))

pub sound_read : (p : Place) (l : List Place) → sound (p ∷ l) ≡ true → SoundAt p l × (sound l ≡ true)
unfolding sound sound_place
sound_read p l e =
    let h = both (sound_place p l) (sound l) e in
    let i = both (sound_name p.name) (same p.name no_name || (state_ok p.state && not (has p.name l))) h.0 in
    (record { name = i.0; kept = go (same p.name no_name) (state_ok p.state) (has p.name l) i.1 }, h.1)
  where
    go : (a b c : Bool) → a || (b && not c) ≡ true → (a ≡ true) ⊎ ((b ≡ true) × (c ≡ false))
    go true b c e = inl refl
    go false true false e = inr (refl, refl)
    go false true true e = absurd (clash e refl)
    go false false c e = absurd (clash e refl)

pub sound_write : (p : Place) (l : List Place) → SoundAt p l → sound l ≡ true → sound (p ∷ l) ≡ true
unfolding sound sound_place
sound_write p l a e = go a.kept
  where
    or_true : (b : Bool) → b || true ≡ true
    or_true true = refl
    or_true false = refl

    go : (same p.name no_name ≡ true) ⊎ ((state_ok p.state ≡ true) × (has p.name l ≡ false)) → sound_place p l && sound l ≡ true
    go (inl h) = rw (a.name, h, e)
    go (inr h) = rw (a.name, h.0, h.1, or_true (same p.name no_name), e)

-- q may stand where k stands
pub record Fits (q : Place) (k : List ℕ) (l : List Place) : Type 0 where
  pub name : sound_name q.name ≡ true
  pub kept : (same q.name no_name ≡ true) ⊎ ((state_ok q.state ≡ true) × Fresh k q.name l)

module _ (q : Place) (k : List ℕ) (p : Place) (l : List Place) where
  fits_later : Fits q k (p ∷ l) → Fits q k l
  fits_later f = record { name = f.name; kept = go f.kept }
    where
      go : (same q.name no_name ≡ true) ⊎ ((state_ok q.state ≡ true) × Fresh k q.name (p ∷ l))
          → (same q.name no_name ≡ true) ⊎ ((state_ok q.state ≡ true) × Fresh k q.name l)
      go (inl h) = inl h
      go (inr h) = inr (h.0, fresh_later k q.name p l h.1)

  -- in the place of p
  sound_here : SoundAt p l → Fits q k (p ∷ l) → p.name ≡ k → SoundAt q l
  sound_here a f e = record { name = f.name; kept = go f.kept a.kept }
    where
      go : (same q.name no_name ≡ true) ⊎ ((state_ok q.state ≡ true) × Fresh k q.name (p ∷ l))
          → (same p.name no_name ≡ true) ⊎ ((state_ok p.state ≡ true) × (has p.name l ≡ false))
          → (same q.name no_name ≡ true) ⊎ ((state_ok q.state ≡ true) × (has q.name l ≡ false))
      go (inl h) b = inl h
      go (inr (s, inl h)) (inl b) = inl (subst (λ (n : List ℕ). same n no_name ≡ true) (e ∙ h) b)
      go (inr (s, inl h)) (inr b) = inr (s, subst (λ (n : List ℕ). has n l ≡ false) (e ∙ h) b.1)
      go (inr (s, inr h)) b = inr (s, (has_cons q.name p l h).1)

  -- after p
  sound_there : SoundAt p l → Fits q k (p ∷ l) → same p.name k ≡ false → SoundAt p (put k q l)
  sound_there a f e = record { name = a.name; kept = go (decide (same p.name no_name)) a.kept f.kept }
    where
      unlike : same p.name no_name ≡ false → (same q.name no_name ≡ true) ⊎ ((state_ok q.state ≡ true) × Fresh k q.name (p ∷ l))
          → q.name ≡ p.name → ⊥
      unlike t (inl h) i = clash (subst (λ (n : List ℕ). same n no_name ≡ true) i h) t
      unlike t (inr (s, h)) i = clash (ap (same p.name) i ∙ same_self p.name) (fresh_here k q.name p l h e)

      go : Decided (same p.name no_name) → (same p.name no_name ≡ true) ⊎ ((state_ok p.state ≡ true) × (has p.name l ≡ false))
          → (same q.name no_name ≡ true) ⊎ ((state_ok q.state ≡ true) × Fresh k q.name (p ∷ l))
          → (same p.name no_name ≡ true) ⊎ ((state_ok p.state ≡ true) × (has p.name (put k q l) ≡ false))
      go (inl t) b h = inl t
      go (inr t) (inl b) h = inl b
      go (inr t) (inr b) h = inr (b.0, has_put k p.name q l (differ q.name p.name (unlike t h)) b.1)

pub sound_put : (q : Place) (k : List ℕ) (l : List Place) → Fits q k l → sound l ≡ true → sound (put k q l) ≡ true
unfolding put
sound_put q k [] f e = e
sound_put q k (p ∷ l) f e = go (sound_put q k l (fits_later q k p l f)) (decide (same p.name k))
  where
    s : SoundAt p l × (sound l ≡ true)
    s = sound_read p l e

    go : (sound l ≡ true → sound (put k q l) ≡ true) → Decided (same p.name k) → sound (put k q (p ∷ l)) ≡ true
    go r (inl h) = rw (put_here k p l q h) (sound_write q l (sound_here q k p l s.0 f (same_eq p.name k h)) s.1)
    go r (inr h) = rw (put_later k p l q h) (sound_write p (put k q l) (sound_there q k p l s.0 f h) (r s.1))

-- a dropped name is nowhere
pub find_dropped : (n : List ℕ) (q : Place) (l : List Place) → same n no_name ≡ false → same q.name n ≡ false → sound l ≡ true → find n (put n q l) ≡ none
unfolding put find
find_dropped n q [] t h e = refl
find_dropped n q (p ∷ l) t h e = go (find_dropped n q l t h) (decide (same p.name n)) s.0.kept
  where
    s : SoundAt p l × (sound l ≡ true)
    s = sound_read p l e

    go : (sound l ≡ true → find n (put n q l) ≡ none) → Decided (same p.name n)
        → (same p.name no_name ≡ true) ⊎ ((state_ok p.state ≡ true) × (has p.name l ≡ false)) → find n (put n q (p ∷ l)) ≡ none
    go r (inl i) (inl j) = absurd (clash (subst (λ (m : List ℕ). same m no_name ≡ true) (same_eq p.name n i) j) t)
    go r (inl i) (inr j) =
        ap (find n) (put_here n p l q i) ∙ find_later n q l h ∙ has_find n l (subst (λ (m : List ℕ). has m l ≡ false) (same_eq p.name n i) j.1)
    go r (inr i) j = ap (find n) (put_later n p l q i) ∙ find_later n p (put n q l) i ∙ r s.1

-- ---- P of each place
unfoldable pub All : (Place → Type 0) → List Place → Type 0
All P [] = Unit
All P (p ∷ l) = P p × All P l

pub all_put : (P : Place → Type 0) (k : List ℕ) (q : Place) (l : List Place) → P q → All P l → All P (put k q l)
unfolding put All
all_put P k q [] h a = tt
all_put P k q (p ∷ l) h a = go (same p.name k) (all_put P k q l h a.1)
  where
    go : (b : Bool) → All P (put k q l) → All P (elim b [ true ↦ q ∷ l | false ↦ p ∷ put k q l ])
    go true r = (h, a.1)
    go false r = (a.0, r)

-- a name that is there has a state
pub found_state : (k : List ℕ) (l : List Place) → has k l ≡ true → (b : BallState) × (find k l ≡ some b)
unfolding has
found_state k [] e = absurd (clash e refl)
found_state k (p ∷ l) e = go (found_state k l) (decide (same p.name k))
  where
    go : (has k l ≡ true → (b : BallState) × (find k l ≡ some b)) → Decided (same p.name k) → (b : BallState) × (find k (p ∷ l) ≡ some b)
    go r (inl h) = (p.state, find_here k p l h)
    go r (inr h) = let s = r (sym (has_later k p l h) ∙ e) in (s.0, find_later k p l h ∙ s.1)

pub fits_empty : (k : List ℕ) (l : List Place) → Fits empty_place k l
unfolding sound_name padded same
fits_empty k l = record { name = refl; kept = inl refl }

pub one_free : one no_name ≡ 0
unfolding one same
one_free = refl

pub one_packed : (n : List ℕ) → name_ok n ≡ true → one (packed n) ≡ 1
unfolding one
one_packed n ok = rw (packed_taken n ok)
