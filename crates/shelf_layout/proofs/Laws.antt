-- Lemmas. Doubles read and written one after another. Assumes nothing.
use Prim.Native.Nat.{ℕ, ◌+◌, ◌*◌, ◌≤◌, ◌<◌}
use native.Mathlib.Omega.{arith}
use native.Mathlib.Numerals.{add-one}
use mathlib.Core.Path.{◌≡◌, refl, ap, ◌∙◌, sym}
use mathlib.Core.Bool.{Bool, true, false, cond}
use Rattle.std.specs.Prelude.{Result, Ok, Err}
use Rattle.refusal.specs.declared.Refusal.TheVariants.{NotHeld}
use Rattle.state.specs.declared.BallState.{BallState}
use mathlib.Core.List.{List, [], ◌++◌, map, append_assoc, append-nil}
use lib.Ieee.{Float}
use lib.ListN.{length, take, drop, get_or, length-append, drop_of_length-le}
use lib.Seq.{drop-cons, take_all}
use Rattle.fields.specs.Fields.{whole_of, state_at, state_fields, written}
use Rattle.fields.proofs.Written.{take_written, length_written, written_on}
use borrow.Author.Tests.{eq-eqb, ne_eqb}
use Rattle.refusal.specs.declared.Refusal.{Refusal}
use Rattle.refusal.specs.Refusal.{number_of}
use Rattle.refusal.proofs.Numbers.{never_0}
use Rattle.shelf.specs.declared.Place.{Place}
use Rattle.shelf.specs.declared.Shelf.{Shelf}
use Rattle.shelf.specs.Answers.{Saved}
use Rattle.shelf.specs.Shelf.{saved, returned, save_of, return_of, drop_of}
use Rattle.shelf_layout.specs.Doors.{answered, changed, held_of, shelf_save_door_of, shelf_return_door_of, shelf_drop_door_of}
use Rattle.shelf_layout.specs.Layout.{place_fields, places_fields, shelf_fields, shelf_at, shelf_ok, Wrote}

ended : {A : Type 0} (out w : List A) (i : ℕ) → length out ≤ i → take i out ++ [] ≡ w → out ≡ w
ended out w i h left = sym (append-nil (take i out) ∙ take_all i out h) ∙ left

-- ---- written
pub place_written : {l m₁ m : List Float} {at : ℕ} (p : Place) → at + 23 ≤ length l → Wrote l at (map whole_of p.name) 13 m₁
    → m ≡ written m₁ (at + 13) (state_fields p.state)
    → Wrote l at (place_fields p) 23 m
unfolding place_fields
place_written {l} {m₁} {m} {at} p h w e =
    let r = map whole_of p.name in
    let n = w.size in
    record {
      same =
          e ∙ ap (λ (x : List Float). written x (at + 13) (state_fields p.state)) w.same
          ∙ ap (λ (k : ℕ). written (written l at r) (at + k) (state_fields p.state)) (sym n)
          ∙ written_on l at r (state_fields p.state) (omega arith);
      size = omega (arith, length-append r (state_fields p.state));
    }

module _ (out m : List Float) (ps : List Place) (i : ℕ) (d : Place) (w : List Float) (h : i < 16) (k : length ps ≡ 16) where
  pub write_on : length out ≡ 368 → Wrote out (23 * i) (place_fields (get_or ps i d)) 23 m → take (23 * i) out ++ places_fields (drop i ps) ≡ w
      → (length m ≡ 368) × (take (23 * (i + 1)) m ++ places_fields (drop (i + 1) ps) ≡ w)
  unfolding places_fields
  write_on n e left =
      let r = place_fields (get_or ps i d) in
      let z = e.size in
      let f : 23 * i + length r ≤ length out = omega arith in
      let g : 23 * (i + 1) ≡ 23 * i + length r = omega arith in
      let j : i < length ps = omega arith in
      let t : take (23 * (i + 1)) m ≡ take (23 * i) out ++ r = rw (g, e.same) (take_written out (23 * i) r f) in
      (rw e.same (length_written out (23 * i) r f ∙ n), rw (t, append_assoc, add-one) (rw (drop-cons ps i d j) at left))

pub write_end : (out : List Float) (ps : List Place) (i : ℕ) (w : List Float) → 16 ≤ i → length ps ≡ 16 → length out ≡ 368
    → take (23 * i) out ++ places_fields (drop i ps) ≡ w → out ≡ w
unfolding places_fields
write_end out ps i w h k n left = ended out w (23 * i) (omega arith) (rw (drop_of_length-le ps {i = i} (let j : length ps ≤ i = omega arith in j)) at left)

-- a list that is written over whole
pub written_all : (l r : List Float) → length l ≡ length r → written l 0 r ≡ r
unfolding written
written_all l r h =
    let e : 0 + length r ≡ length r = omega arith in
    let k : length l ≤ length r = omega arith in
    rw (e, drop_of_length-le l {i = length r} k, append-nil)

-- ---- what a call leaves in the list
pub taken : (l : List Float) (s : Shelf) {x : Saved} → saved 0 s ≡ x → answered 0 (shelf_fields s) ≡ changed x l
unfolding changed
taken l s e = rw (← e)

pub turned_back : (l : List Float) (s : Shelf) (r : Refusal) {x : Saved} → saved (number_of r) s ≡ x → answered (number_of r) l ≡ changed x l
unfolding changed
turned_back l s r e = rw (← e, ne_eqb _ 0 (never_0 r))

-- ---- a list that is a shelf, and one that is none
pub held_ok : (l : List Float) {s : Shelf} → Ok s ≡ held_of l → (shelf_ok l ≡ true) × (s ≡ shelf_at l)
held_ok l {s} e = go (shelf_ok l) refl e
  where
    go : (b : Bool) → shelf_ok l ≡ b → ◌≡◌ {A = Result Shelf Refusal} (Ok s) (cond b (Ok (shelf_at l)) (Err NotHeld)) → (shelf_ok l ≡ true) × (s ≡ shelf_at l)
    go true k f = let g : s ≡ shelf_at l = cc in (k, g)
    go false k f = absurd (cc)

pub held_err : (l : List Float) {r : Refusal} → Err r ≡ held_of l → (shelf_ok l ≡ false) × (r ≡ NotHeld)
held_err l {r} e = go (shelf_ok l) refl e
  where
    go : (b : Bool) → shelf_ok l ≡ b → ◌≡◌ {A = Result Shelf Refusal} (Err r) (cond b (Ok (shelf_at l)) (Err NotHeld)) → (shelf_ok l ≡ false) × (r ≡ NotHeld)
    go false k f = let g : r ≡ NotHeld = cc in (k, g)
    go true k f = absurd (cc)

-- ---- the exported functions on a list of that length
module _ (l m : List Float) (h : length l ≡ 368) (e : m ≡ l) (n : List ℕ) where
  pub drop_none : {r : Refusal} → Err r ≡ held_of m → answered (number_of r) m ≡ shelf_drop_door_of l n
  unfolding shelf_drop_door_of
  drop_none x = let q = held_err l (rw e at x) in rw (e, eq-eqb _ _ h, q.0, q.1)

  pub drop_back : {s t : Shelf} (r : Refusal) → Ok s ≡ held_of m → saved (number_of r) t ≡ drop_of s n → answered (number_of r) m ≡ shelf_drop_door_of l n
  unfolding shelf_drop_door_of
  drop_back {s} {t} r x y =
      let q = held_ok l (rw e at x) in
      rw (e, eq-eqb _ _ h, q.0) (turned_back l t r (y ∙ ap (λ (z : Shelf). drop_of z n) q.1))

  pub drop_taken : {s t : Shelf} {w : List Float} → Ok s ≡ held_of m → saved 0 t ≡ drop_of s n → w ≡ shelf_fields t → answered 0 w ≡ shelf_drop_door_of l n
  unfolding shelf_drop_door_of
  drop_taken {s} {t} x y z =
      let q = held_ok l (rw e at x) in
      rw (eq-eqb _ _ h, q.0, z) (taken l t (y ∙ ap (λ (z : Shelf). drop_of z n) q.1))

  module _ (st : List Float) (k : length st ≡ 10) where
    pub save_none : {r : Refusal} → Err r ≡ held_of m → answered (number_of r) m ≡ shelf_save_door_of l n st
    unfolding shelf_save_door_of
    save_none x = let q = held_err l (rw e at x) in rw (e, eq-eqb _ _ h, eq-eqb _ _ k, q.0, q.1)

    pub save_back : {s t : Shelf} (r : Refusal) → Ok s ≡ held_of m → saved (number_of r) t ≡ save_of s n (state_at st 0)
        → answered (number_of r) m ≡ shelf_save_door_of l n st
    unfolding shelf_save_door_of
    save_back {s} {t} r x y =
        let q = held_ok l (rw e at x) in
        rw (e, eq-eqb _ _ h, eq-eqb _ _ k, q.0) (turned_back l t r (y ∙ ap (λ (z : Shelf). save_of z n (state_at st 0)) q.1))

    pub save_taken : {s t : Shelf} {w : List Float} → Ok s ≡ held_of m → saved 0 t ≡ save_of s n (state_at st 0) → w ≡ shelf_fields t
        → answered 0 w ≡ shelf_save_door_of l n st
    unfolding shelf_save_door_of
    save_taken {s} {t} x y z =
        let q = held_ok l (rw e at x) in
        rw (eq-eqb _ _ h, eq-eqb _ _ k, q.0, z) (taken l t (y ∙ ap (λ (z : Shelf). save_of z n (state_at st 0)) q.1))

    pub return_none : {r : Refusal} → Err r ≡ held_of m → answered (number_of r) st ≡ shelf_return_door_of l n st
    unfolding shelf_return_door_of
    return_none x = let q = held_err l (rw e at x) in rw (eq-eqb _ _ h, eq-eqb _ _ k, q.0, q.1)

    pub return_handed : {s : Shelf} (a : ℕ) (b : BallState) {w : List Float} → Ok s ≡ held_of m → returned a b ≡ return_of s n
        → w ≡ written st 0 (state_fields b) → answered a w ≡ shelf_return_door_of l n st
    unfolding shelf_return_door_of
    return_handed a b x y z =
        let q = held_ok l (rw e at x) in
        rw (eq-eqb _ _ h, eq-eqb _ _ k, q.0, ← q.1, ← y, z, written_all st (state_fields b) k)
