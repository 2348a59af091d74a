-- Lemmas. The walk as six rules, one for each way that a turn can go, and what follows of the marks' number. Assumes nothing.
use Rattle.std.specs.Prelude.{ℕ, zero, suc, ◌+◌, ◌≡◌, refl, Bool, true, false, List, [], ◌∷◌, length, drop, Float}
use Rattle.std.proofs.Common.{suc-add, add-suc, ap, ◌∙◌}
use Rattle.std.specs.Float.Ieee.{lt}
use Rattle.std.specs.Prelude.{if◌then◌else◌}
use Rattle.listen.specs.Listen.{firsts, near, walk, heard_marks, contact_marks, count}
use Rattle.listen.specs.declared.Mark.{Mark}
use Rattle.listen.specs.declared.Mark.TheVariants.{Paired, HeardOnly, ComputedOnly}

pub data Walking (t : Float) : List Float → List Float → List Mark → Type 0 where
  ended : Walking t [] [] []
  computed_left : {c : Float} {cs : List Float} {w : List Mark} → Walking t [] cs w → Walking t [] (c ∷ cs) (ComputedOnly ∷ w)
  heard_left : {h : Float} {hs : List Float} {w : List Mark} → Walking t hs [] w → Walking t (h ∷ hs) [] (HeardOnly ∷ w)
  pair : {h c : Float} {hs cs : List Float} {w : List Mark} → near t h c ≡ true → Walking t hs cs w → Walking t (h ∷ hs) (c ∷ cs) (Paired ∷ w)
  heard_first : {h c : Float} {hs cs : List Float} {w : List Mark} → near t h c ≡ false → lt h c ≡ true → Walking t hs (c ∷ cs) w
      → Walking t (h ∷ hs) (c ∷ cs) (HeardOnly ∷ w)
  computed_first : {h c : Float} {hs cs : List Float} {w : List Mark} → near t h c ≡ false → lt h c ≡ false → Walking t (h ∷ hs) cs w
      → Walking t (h ∷ hs) (c ∷ cs) (ComputedOnly ∷ w)

pub walking : (t : Float) (hs cs : List Float) → Walking t hs cs (walk t hs cs)
unfolding walk
walking t [] [] = ended
walking t [] (c ∷ cs) = computed_left (walking t [] cs)
walking t (h ∷ hs) [] = heard_left (walking t hs [])
walking t (h ∷ hs) (c ∷ cs) = go (near t h c) refl (lt h c) refl (walking t hs cs) (walking t hs (c ∷ cs)) (walking t (h ∷ hs) cs)
  where
    go : {u v w : List Mark} (a : Bool) → near t h c ≡ a → (b : Bool) → lt h c ≡ b → Walking t hs cs u → Walking t hs (c ∷ cs) v → Walking t (h ∷ hs) cs w
        → Walking t (h ∷ hs) (c ∷ cs) (if a then Paired ∷ u else if b then HeardOnly ∷ v else ComputedOnly ∷ w)
    go true a b k x y z = pair a x
    go false a true k x y z = heard_first a k y
    go false a false k x y z = computed_first a k z

-- a mark for each heard time, and one for each contact
pub heard_length : {t : Float} {hs cs : List Float} {w : List Mark} → Walking t hs cs w → length (heard_marks w) ≡ length hs
unfolding heard_marks
heard_length ended = refl
heard_length (computed_left k) = heard_length k
heard_length (heard_left k) = ap suc (heard_length k)
heard_length (pair a k) = ap suc (heard_length k)
heard_length (heard_first a b k) = ap suc (heard_length k)
heard_length (computed_first a b k) = heard_length k

pub contact_length : {t : Float} {hs cs : List Float} {w : List Mark} → Walking t hs cs w → length (contact_marks w) ≡ length cs
unfolding contact_marks
contact_length ended = refl
contact_length (computed_left k) = ap suc (contact_length k)
contact_length (heard_left k) = contact_length k
contact_length (pair a k) = ap suc (contact_length k)
contact_length (heard_first a b k) = contact_length k
contact_length (computed_first a b k) = ap suc (contact_length k)

-- pairs and heard only together are the heard times; pairs and computed only together are the contacts
pub heard_total : (w : List Mark) → count 0 (heard_marks w) + count 1 (heard_marks w) ≡ length (heard_marks w)
unfolding heard_marks count
heard_total [] = refl
heard_total (Paired ∷ w) = suc-add _ _ ∙ ap suc (heard_total w)
heard_total (HeardOnly ∷ w) = rw add-suc (ap suc (heard_total w))
heard_total (ComputedOnly ∷ w) = heard_total w

pub contact_total : (w : List Mark) → count 0 (contact_marks w) + count 2 (contact_marks w) ≡ length (contact_marks w)
unfolding contact_marks count
contact_total [] = refl
contact_total (Paired ∷ w) = suc-add _ _ ∙ ap suc (contact_total w)
contact_total (HeardOnly ∷ w) = contact_total w
contact_total (ComputedOnly ∷ w) = rw add-suc (ap suc (contact_total w))

-- as many pairs among the heard times as among the contacts
pub pairs_same : (w : List Mark) → count 0 (heard_marks w) ≡ count 0 (contact_marks w)
unfolding heard_marks contact_marks count
pairs_same [] = refl
pairs_same (Paired ∷ w) = ap suc (pairs_same w)
pairs_same (HeardOnly ∷ w) = pairs_same w
pairs_same (ComputedOnly ∷ w) = pairs_same w

-- as many times as records
pub firsts_length : (w n : ℕ) (l : List Float) → length (firsts w n l) ≡ n
unfolding firsts
firsts_length w zero l = refl
firsts_length w (suc n) l = ap suc (firsts_length w n (drop w l))
