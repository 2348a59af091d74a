-- Lemmas. By which test an entry is answered: every statement about an answer goes by these cases.
use Rattle.std.specs.Prelude.{ℕ, ◌≤◌, ◌<◌, ◌≡◌, refl, Bool, true, false, not, ◌&&◌, ◌||◌, cond, List, [], ◌∷◌, T, leb, ltb, eqb, length}
use Rattle.std.proofs.Common.{arith, sym, subst, ltb-true, ltb-false, leb-true, leb-false}
use Rattle.std.proofs.lemmas.Bool.{eqb-false}
use Rattle.std.specs.Float.Ieee.Fits.{and_l, and_r}
use Rattle.number.specs.Ops.{dec}
use Rattle.number.specs.Number.{about_of}
use Rattle.board.specs.declared.Entry.{Entry}
use Rattle.board.specs.Rules.{near, holds, used, answer_of}
use Rattle.board.specs.Words.{All, Near}

pub data Tested (l : List Entry) (e : Entry) : ℕ → Type 0 where
  no_bay : 7 < e.bay → Tested l e 31
  far : e.bay ≤ 7 → (T (near e) → ⊥) → Tested l e 10
  repeated : T (near e) → holds e.shot l ≡ true → Tested l e 25
  full : e.bay ≤ 7 → T (near e) → (used e.bay l < 32 → length l < 256 → ⊥) → Tested l e 24
  taken : e.bay ≤ 7 → T (near e) → holds e.shot l ≡ false → used e.bay l < 32 → length l < 256 → Tested l e 0

pub tested : (l : List Entry) (e : Entry) → Tested l e (answer_of l e)
unfolding answer_of
tested l e = go (ltb 7 e.bay) refl (near e) (λ t. t) (λ t. t) (holds e.shot l) refl (leb 32 (used e.bay l)) refl (leb 256 (length l)) refl
  where
    go : (k : Bool) → ltb 7 e.bay ≡ k → (n : Bool) → (T n → T (near e)) → (T (near e) → T n) → (h : Bool) → holds e.shot l ≡ h
        → (u : Bool) → leb 32 (used e.bay l) ≡ u → (f : Bool) → leb 256 (length l) ≡ f
        → Tested l e (cond k 31 (cond (not n) 10 (cond h 25 (cond (u || f) 24 0))))
    go true k n i j h p u q f r = no_bay (ltb-true 7 e.bay k)
    go false k false i j h p u q f r = far (ltb-false 7 e.bay k) j
    go false k true i j true p u q f r = repeated (i tt) p
    go false k true i j false p true q f r = full (ltb-false 7 e.bay k) (i tt) (λ a b. let c = leb-true 32 (used e.bay l) q in omega arith)
    go false k true i j false p false q true r = full (ltb-false 7 e.bay k) (i tt) (λ a b. let c = leb-true 256 (length l) r in omega arith)
    go false k true i j false p false q false r =
        taken (ltb-false 7 e.bay k) (i tt) p (leb-false 32 (used e.bay l) q) (leb-false 256 (length l) r)

pub is_near_lem : (e : Entry) → T (near e) → Near e
unfolding near
is_near_lem e h = (
  and_l (about_of (dec 1000000 1) e.x) (about_of (dec 1000000 1) e.z) h,
  and_r (about_of (dec 1000000 1) e.x)
      (about_of (dec 1000000 1) e.z) h,
)

pub near_is : (e : Entry) → Near e → T (near e)
unfolding near
near_is e h = go (about_of (dec 1000000 1) e.x) (about_of (dec 1000000 1) e.z) h.0 h.1
  where
    go : (x z : Bool) → T x → T z → T (x && z)
    go true true p q = tt
    go true false p q = q
    go false z p q = p

-- an entry that stands on no list has another number than each entry of the list
pub held_not : (n : ℕ) (l : List Entry) → holds n l ≡ false → All (λ (f : Entry). n ≡ f.shot → ⊥) l
unfolding holds All
held_not n [] h = tt
held_not n (f ∷ l) h = go (held_not n l) (eqb f.shot n) refl h
  where
    go : (holds n l ≡ false → All (λ (f : Entry). n ≡ f.shot → ⊥) l) → (t : Bool) → eqb f.shot n ≡ t → (t || holds n l) ≡ false
        → (n ≡ f.shot → ⊥) × All (λ (f : Entry). n ≡ f.shot → ⊥) l
    go r true p k = absurd (subst T k tt)
    go r false p k = (λ q. eqb-false f.shot n p (sym q), r k)
