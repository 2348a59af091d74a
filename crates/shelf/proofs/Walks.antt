-- Laws of walks along lists, at index i, and of the first place that holds a name. Assumes nothing.
use Prim.Native.Nat.{ℕ, zero, suc, ◌+◌, ◌-◌, ◌≤◌, ◌<◌}
use native.Mathlib.Nat.{sub-zero, zero-sub}
use native.Mathlib.Omega.{arith}
use mathlib.Core.Path.{◌≡◌, refl, ap, ◌∙◌, sym, subst}
use mathlib.Core.Bool.{and_assoc, Bool, true, false, ◌&&◌, ◌||◌, cond}
use mathlib.Core.List.{List, [], ◌∷◌, ◌++◌}
use mathlib.Core.Option.{Option, none, some}
use lib.Dec.{T, T_not, leb, eqb, ltb, leb-zero, leb-suc-suc}
use lib.ListN.{length, take, drop, get_or, set, replicate, length-drop}
use lib.Seq.{drop-drop, take_all}
use lib.Pointwise.{pointwise}
use Rattle.std.specs.List.{position_or_len}
use Rattle.std.specs.Prelude.{position, Some, None}
use Rattle.std.proofs.lemmas.List.Recursion.{is_position_or_len}
use borrow.Author.Tests.{leb-true, ltb-true, ltb-false, lt-ltb, le-ltb}
use Rattle.state.specs.declared.BallState.{BallState}
use Rattle.shelf.specs.declared.Place.{Place}
use Rattle.shelf.specs.Map.{letters, name_ok, same}
use Rattle.shelf.specs.Shelf.{has, find, packed, put, place_in, padded, sound_name, sound_place, sound}

-- ---- bytes
pub opened : (l : List ℕ) → 0 < length l → sound_name l ≡ leb (get_or l 0 0) 12 && padded (get_or l 0 0) (drop 1 l)
unfolding sound_name
opened [] h = absurd (omega arith)
opened (n ∷ l) h = refl

pub padded_parts : (n : ℕ) (l : List ℕ) → padded n l ≡ letters (take n l) && padded 0 (drop n l)
unfolding padded letters
padded_parts zero l = refl
padded_parts (suc n) [] = refl
padded_parts (suc n) (b ∷ l) = rw (padded_parts n l, and_assoc)

pub parts_of : (l : List ℕ) (n : ℕ) → length l ≡ 13 → n ≤ 12
    → letters (take (n + 1 - 1) (drop 1 l)) && padded 0 (take (13 - (n + 1)) (drop (n + 1) l)) ≡ padded n (drop 1 l)
parts_of l n h k =
    let e : n + 1 - 1 ≡ n = omega arith in
    let j : n + 1 ≡ 1 + n = omega arith in
    let f : take (13 - (n + 1)) (drop (n + 1) l) ≡ drop n (drop 1 l) =
    take_all (13 - (n + 1)) (drop (n + 1) l) (rw length-drop (omega arith)) ∙ ap (λ (i : ℕ). drop i l) j ∙ sym (drop-drop n 1 l) in
    rw (e, f) (sym (padded_parts n (drop 1 l)))

pub same_is : (a b : List ℕ) → pointwise eqb a b ≡ same a b
unfolding same
same_is [] [] = refl
same_is [] (b ∷ n) = refl
same_is (a ∷ m) [] = refl
same_is (a ∷ m) (b ∷ n) = ap (λ (t : Bool). eqb a b && t) (same_is m n)

-- ---- the place found by its number
pub placed : (k : List ℕ) (l : List Place) → ltb (place_in k l) (length l) ≡ has k l
unfolding place_in has
placed k [] = refl
placed k (p ∷ l) = go (same p.name k) (placed k l)
  where
    go : (b : Bool) → ltb (place_in k l) (length l) ≡ has k l → ltb (elim b [ true ↦ 0 | false ↦ suc (place_in k l) ]) (suc (length l)) ≡ (b || has k l)
    go true e = leb-suc-suc 0 (length l) ∙ leb-zero (length l)
    go false e = leb-suc-suc (suc (place_in k l)) (length l) ∙ e

pub found : (k : List ℕ) (l : List Place) (d : Place) → place_in k l < length l → find k l ≡ some (get_or l (place_in k l) d).state
unfolding place_in find
found k [] d h = absurd (omega arith)
found k (p ∷ l) d h = go (same p.name k) (found k l d) h
  where
    go : (b : Bool) → (place_in k l < length l → find k l ≡ some (get_or l (place_in k l) d).state)
        → elim b [ true ↦ 0 | false ↦ suc (place_in k l) ] < suc (length l)
        → elim b [ true ↦ some p.state | false ↦ find k l ] ≡ some (get_or (p ∷ l) (elim b [ true ↦ 0 | false ↦ suc (place_in k l) ]) d).state
    go true f h = refl
    go false f h = f (omega arith)

pub missing : (k : List ℕ) (l : List Place) → length l ≤ place_in k l → find k l ≡ none
unfolding place_in find
missing k [] h = refl
missing k (p ∷ l) h = go (same p.name k) (missing k l) h
  where
    go : (b : Bool) → (length l ≤ place_in k l → find k l ≡ none) → suc (length l) ≤ elim b [ true ↦ 0 | false ↦ suc (place_in k l) ]
        → ◌≡◌ {A = Option BallState} (elim b [ true ↦ some p.state | false ↦ find k l ]) none
    go true f h = absurd (omega arith)
    go false f h = f (omega arith)

pub puts : (k : List ℕ) (q : Place) (l : List Place) → set l (place_in k l) q ≡ put k q l
unfolding place_in put
puts k q [] = refl
puts k q (p ∷ l) = go (same p.name k) (puts k q l)
  where
    go : (b : Bool) → set l (place_in k l) q ≡ put k q l
        → set (p ∷ l) (elim b [ true ↦ 0 | false ↦ suc (place_in k l) ]) q ≡ elim b [ true ↦ q ∷ l | false ↦ p ∷ put k q l ]
    go true e = refl
    go false e = ap (λ (m : List Place). p ∷ m) e

pub drop_replicate : (i n : ℕ) (b : ℕ) → drop i (replicate n b) ≡ replicate (n - i) b
drop_replicate zero n b = ap (λ (m : ℕ). replicate m b) (sym (sub-zero n))
drop_replicate (suc i) zero b = ap (λ (m : ℕ). replicate m b) (sym (zero-sub (suc i)))
drop_replicate (suc i) (suc n) b = drop_replicate i n b ∙ ap (λ (m : ℕ). replicate m b) (let e : n - i ≡ suc n - suc i = omega arith in e)

pub whole : (n : List ℕ) {m : List ℕ} → m ≡ n → length n ∷ (m ++ drop (length n + 1 - 1) (replicate 12 0)) ≡ packed n
unfolding packed
whole n e = let k : length n + 1 - 1 ≡ length n = omega arith in rw (e, k, drop_replicate (length n) 12 0)

-- ---- what `find` found
place_step : (k : List ℕ) (p : Place) (l : List Place) → place_in k (p ∷ l) ≡ cond (same p.name k) 0 (1 + place_in k l)
unfolding place_in
place_step k p l = go (same p.name k)
  where
    go : (b : Bool) → elim b [ true ↦ 0 | false ↦ suc (place_in k l) ] ≡ cond b 0 (1 + place_in k l)
    go true = refl
    go false = omega arith

place_is : (k : List ℕ) (l : List Place) → place_in k l ≡ position_or_len (λ (p : Place). same p.name k) l
unfolding place_in
place_is k l = is_position_or_len (place_in k) (λ p. same p.name k) refl (place_step k) l

module _ (k : List ℕ) (l : List Place) where
  which : position (λ (p : Place). same p.name k) l ≡ cond (ltb (place_in k l) (length l)) (Some (place_in k l)) None
  which = rw (place_is k l)

  module _ {i : ℕ} (f : position (λ (p : Place). same p.name k) l ≡ Some i) where
    at : (i ≡ place_in k l) × (place_in k l < length l)
    at = go (ltb (place_in k l) (length l)) refl (sym which ∙ f)
      where
        go : (b : Bool) → ltb (place_in k l) (length l) ≡ b → cond b (Some (place_in k l)) None ≡ Some i → (i ≡ place_in k l) × (place_in k l < length l)
        go true e g = let h : i ≡ place_in k l = cc in (h, ltb-true _ _ e)
        go false e g = absurd (cc)

    pub is_there : has k l ≡ true
    is_there = sym (placed k l) ∙ lt-ltb (place_in k l) (length l) at.1

    pub there : (d : Place) → find k l ≡ some (get_or l i d).state
    there d = rw at.0 (found k l d at.1)

    pub put_there : (q : Place) → set l i q ≡ put k q l
    put_there q = rw at.0 (puts k q l)

  module _ (f : position (λ (p : Place). same p.name k) l ≡ None) where
    past : length l ≤ place_in k l
    past = go (ltb (place_in k l) (length l)) refl (sym which ∙ f)
      where
        go : (b : Bool) → ltb (place_in k l) (length l) ≡ b → cond b (Some (place_in k l)) None ≡ None → length l ≤ place_in k l
        go true e g = absurd (cc)
        go false e g = ltb-false _ _ e

    pub is_not : has k l ≡ false
    is_not = sym (placed k l) ∙ le-ltb (place_in k l) (length l) past

    pub not_there : find k l ≡ none
    not_there = missing k l past

-- ---- a walk along the places that tests each
module _ (l m : List Place) (left : sound m ≡ sound l) where
  module _ {p : Place} {q : List Place} (e : m ≡ p ∷ q) where
    pub stops : sound_place p q ≡ false → false ≡ sound l
    unfolding sound
    stops f = rw (e, f) at left

    pub goes : sound_place p q ≡ true → sound q ≡ sound l
    unfolding sound
    goes f = rw (e, f) at left

  pub all : length m ≡ 0 → true ≡ sound l
  unfolding sound
  all h = go m left h
    where
      go : (m : List Place) → sound m ≡ sound l → length m ≡ 0 → true ≡ sound l
      go [] k h = k
      go (p ∷ q) k h = absurd (omega arith)

-- a name that passes its test has at most 12 bytes
pub name_short : (n : List ℕ) → name_ok n ≡ true → length n ≤ 12
unfolding name_ok
name_short n e = go (leb 1 (length n)) (leb (length n) 12) refl e
  where
    go : (a b : Bool) → leb (length n) 12 ≡ b → a && b && letters n ≡ true → length n ≤ 12
    go true true p q = leb-true (length n) 12 p
    go true false p q = absurd (T_not true (subst T (sym q) tt) tt)
    go false b p q = absurd (T_not true (subst T (sym q) tt) tt)
