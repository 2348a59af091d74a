-- The laws of the loops, over plain values. Assumes nothing.
use Prim.Native.Nat.{ℕ, zero, suc, ◌+◌, ◌-◌, ◌*◌, ◌/◌, ◌≤◌, ◌<◌}
use native.Mathlib.Nat.{zero-mul, suc-mul, add_comm, mul-le-mul_right, le-div_iff_mul-le}
use native.Mathlib.Numerals.{add-one}
use native.Mathlib.Omega.{arith}
use mathlib.Core.Path.{◌≡◌, refl, ap, ◌∙◌, sym, subst}
use mathlib.Core.Bool.{Bool, true, false, ◌&&◌}
use mathlib.Core.List.{List, [], ◌∷◌, append_assoc}
use mathlib.Core.Logic.{◌⊎◌, inl, inr}
use lib.Dec.{T, T_not, leb, ltb}
use lib.ListN.{length, drop, get_or, replicate, length-take, length-drop, drop_of_length-le}
use lib.Seq.{sets, sets-eq, drop-drop, drop-cons, get_or-drop}
use Rattle.std.proofs.lemmas.List.{length-replicate}
use borrow.Rule.Slice.PartMut.{put_mid, mid_of}
use lib.Ieee.{Float, nan}
use borrow.Author.Tests.{le-leb, lt-leb, leb-true, leb-false, ltb-true, ltb-false}
use Rattle.listen.specs.Listen.{firsts, time_ok, in_order, times_ok, contacts_whole, all_times_ok, tolerance_ok, refusal_of}

-- ---- the times of a list of records
pub firsts_at : (w n i : ℕ) (l : List Float) → i < n → get_or (firsts w n l) i nan ≡ get_or l (i * w) nan
unfolding firsts
firsts_at w zero i l h = absurd (omega arith)
firsts_at w (suc n) zero l h = rw zero-mul
firsts_at w (suc n) (suc i) l h =
    let e : w + i * w ≡ suc i * w = add_comm w (i * w) ∙ sym (suc-mul i w) in
    firsts_at w n i (drop w l) (omega arith) ∙ get_or-drop w l (i * w) nan ∙ ap (λ (k : ℕ). get_or l k nan) e

pub firsts_all : (l : List Float) → firsts 1 (length l) l ≡ l
unfolding firsts
firsts_all [] = refl
firsts_all (x ∷ l) = ap (λ (m : List Float). x ∷ m) (firsts_all l)

-- record i of n starts within the list
pub inside : (i n w k : ℕ) → 0 < w → i < n → n * w ≤ k → i * w < k
inside i n w k p h f =
    let m : suc i * w ≤ n * w = mul-le-mul_right w h in
    omega (arith, suc-mul i w)

-- ---- a walk along times that tests each
module _ (ts : List Float) (i : ℕ) (b x : Float) (left : in_order b (drop i ts) ≡ times_ok ts) where
  pub low : i < length ts → get_or ts i nan ≡ x → time_ok b x ≡ false → false ≡ times_ok ts
  unfolding in_order
  low h e t = rw (drop-cons ts i nan h, e, t) at left

  pub on : i < length ts → get_or ts i nan ≡ x → time_ok b x ≡ true → in_order x (drop (i + 1) ts) ≡ times_ok ts
  unfolding in_order
  on h e t = rw add-one (rw (drop-cons ts i nan h, e, t) at left)

  pub all : length ts ≤ i → true ≡ times_ok ts
  unfolding in_order
  all h = rw (drop_of_length-le ts {i = i} h) at left

-- ---- whole records, as many as counted
pub counted : (len n : ℕ) → leb n (len / 20) ≡ leb (n * 20) len
counted len n = go (leb n (len / 20)) refl
  where
    go : (b : Bool) → leb n (len / 20) ≡ b → b ≡ leb (n * 20) len
    go true e = sym (le-leb (n * 20) len ((le-div_iff_mul-le (omega arith)).0 (leb-true n (len / 20) e)))
    go false e = sym (lt-leb (n * 20) len (past (leb-false n (len / 20) e)))
      where
        past : len / 20 < n → len < n * 20
        past h = omega arith

-- ---- one mark, filled in up to an index
pub filled : (l : List ℕ) (i n k : ℕ) → i ≤ n → n ≤ length l → {ys : List ℕ} → ys ≡ replicate (length (mid_of i (n - i) l)) k
    → put_mid i (n - i) l ys ≡ sets l i (replicate (n - i) k)
filled l i n k h j e =
    let o : length (mid_of i (n - i) l) ≡ n - i = simp (length-take, length-drop) (omega arith) in
    let m : length (replicate (n - i) k) ≡ n - i = length-replicate (n - i) k in
    rw (e, o) (sym (sets-eq (replicate (n - i) k) l i (omega arith) ∙ rw (m, ← drop-drop (n - i) i l, append_assoc)))

-- ---- a test of two orders
pub both : (a b c d : ℕ) → ltb a b && ltb c d ≡ true → (a < b) × (c < d)
both a b c d e = go (ltb a b) (ltb c d) refl refl e
  where
    go : (x y : Bool) → ltb a b ≡ x → ltb c d ≡ y → x && y ≡ true → (a < b) × (c < d)
    go true true p q e = (ltb-true a b p, ltb-true c d q)
    go true false p q e = absurd (T_not true (subst T (sym e) tt) tt)
    go false y p q e = absurd (T_not true (subst T (sym e) tt) tt)

pub either : (a b c d : ℕ) → ltb a b && ltb c d ≡ false → (b ≤ a) ⊎ (d ≤ c)
either a b c d e = go (ltb a b) (ltb c d) refl refl e
  where
    go : (x y : Bool) → ltb a b ≡ x → ltb c d ≡ y → x && y ≡ false → (b ≤ a) ⊎ (d ≤ c)
    go true true p q e = absurd (T_not true (subst T e tt) tt)
    go true false p q e = inr (ltb-false c d q)
    go false y p q e = inl (ltb-false a b p)

-- ---- the tests of a call
pub times_and : (heard contacts : List Float) (n : ℕ) {a b : Bool} → a ≡ times_ok (firsts 1 (length heard) heard) → b ≡ times_ok (firsts 20 n contacts)
    → (leb (length heard) 256 && a) && b ≡ all_times_ok heard contacts n
unfolding all_times_ok
times_and heard contacts n p q = rw (p, q, firsts_all heard)

module _ (heard contacts : List Float) (n : ℕ) (t : Float) (room : ℕ) where
  pub says_8 : contacts_whole (length contacts) n ≡ false → 8 ≡ refusal_of heard contacts n t room
  unfolding refusal_of
  says_8 a = rw a

  pub says_39 : contacts_whole (length contacts) n ≡ true → all_times_ok heard contacts n ≡ false → 39 ≡ refusal_of heard contacts n t room
  unfolding refusal_of
  says_39 a b = rw (a, b)

  pub says_40 : contacts_whole (length contacts) n ≡ true → all_times_ok heard contacts n ≡ true → tolerance_ok t ≡ false
      → 40 ≡ refusal_of heard contacts n t room
  unfolding refusal_of
  says_40 a b c = rw (a, b, c)

  module _ (a : contacts_whole (length contacts) n ≡ true) (b : all_times_ok heard contacts n ≡ true) (c : tolerance_ok t ≡ true) where
    pub says_41 : room < length heard + n → 41 ≡ refusal_of heard contacts n t room
    unfolding refusal_of
    says_41 h = rw (a, b, c, lt-leb _ _ h)

    pub says_0 : length heard + n ≤ room → 0 ≡ refusal_of heard contacts n t room
    unfolding refusal_of
    says_0 h = rw (a, b, c, le-leb _ _ h)
