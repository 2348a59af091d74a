-- Lemmas. Records in the order of their times, as pushes and cuts leave them; and a lent list read back as the records that it shows. Assumes nothing.
use Rattle.std.specs.Prelude.{ℕ, zero, suc, ◌-◌, ◌≤◌, ◌≡◌, refl, List, [], ◌∷◌, ◌++◌, T, Float, length, take, drop, replicate}
use Rattle.std.proofs.Common.{arith, ap, append_assoc, length-append}
use Rattle.std.specs.Float.Ieee.{le}
use Rattle.number.specs.Order.{le_through}
use Rattle.records.specs.Records.{Records, null, flat, shown, recs}
use Rattle.promises.specs.Terms.{Each}
use Rattle.promises.specs.Keeps.{each_more}
use Rattle.promises.specs.Table.{time_of, InOrder, AfterFirst}

-- ---- in order, and none after the time t

abbrev next : Float → Records → Float
next t [] = t
next t (r ∷ rs) = time_of r

abbrev pub UpTo : Float → Records → Type 0
UpTo t [] = Unit
UpTo t (r ∷ rs) = T (le (time_of r) (next t rs)) × UpTo t rs

pub up_ordered : (t : Float) (rs : Records) → UpTo t rs → InOrder rs
up_ordered t [] h = tt
up_ordered t (r ∷ []) h = (tt, tt)
up_ordered t (r ∷ s ∷ rs) h = (h.0, up_ordered t (s ∷ rs) h.1)

pub up_later : (t u : Float) (rs : Records) → T (le t u) → UpTo t rs → UpTo u rs
up_later t u [] l h = tt
up_later t u (r ∷ []) l h = (le_through (time_of r) t u h.0 l, tt)
up_later t u (r ∷ s ∷ rs) l h = (h.0, up_later t u (s ∷ rs) l h.1)

-- a record of that time more
pub up_more : (t : Float) (rs : Records) (r : List Float) → time_of r ≡ t → T (le t t) → UpTo t rs → UpTo t (rs ++ (r ∷ []))
up_more t [] r e l h = (rw e l, tt)
up_more t (s ∷ []) r e l h = (rw e h.0, (rw e l, tt))
up_more t (s ∷ u ∷ rs) r e l h = (h.0, up_more t (u ∷ rs) r e l h.1)

-- ---- a mark in a list: its first m records

take_all : (rs : Records) → take (length rs) rs ≡ rs
take_all [] = refl
take_all (r ∷ rs) = ap (λ (l : Records). r ∷ l) (take_all rs)

take_before : (m : ℕ) (rs : Records) (r : List Float) → m ≤ length rs → take m (rs ++ (r ∷ [])) ≡ take m rs
take_before zero rs r h = refl
take_before (suc m) [] r h = absurd (omega (arith, h))
take_before (suc m) (s ∷ rs) r h = ap (λ (l : Records). s ∷ l) (take_before m rs r (omega (arith, h)))

-- cut back to them, the list is in order up to t
pub record Marked (m : ℕ) (t : Float) (rs : Records) : Type 0 where
  pub kept : UpTo t (take m rs)
  pub long : m ≤ length rs

pub marked : (t : Float) (rs : Records) → UpTo t rs → Marked (length rs) t rs
marked t rs h = record { kept = rw (take_all rs) h; long = omega arith }

pub marked_more : (m : ℕ) (t : Float) (rs : Records) (r : List Float) → Marked m t rs → Marked m t (rs ++ (r ∷ []))
marked_more m t rs r h =
    let l = h.long in
    record { kept = rw (take_before m rs r l) h.kept; long = rw (length-append rs (r ∷ [])) (omega (arith, l)) }

-- ---- one record more after the first

-- P, unless the list is empty
abbrev pub IfAny : Type 0 → Records → Type 0
IfAny P [] = Unit
IfAny P (r ∷ rs) = P

pub after_more : (P : List Float → Type 0) (rs : Records) (r : List Float) → AfterFirst P rs → IfAny (P r) rs → AfterFirst P (rs ++ (r ∷ []))
after_more P [] r h p = tt
after_more P (s ∷ rs) r h p = each_more P rs r h p

pub if_any : (P : Type 0) (rs : Records) → P → IfAny P rs
if_any P [] p = tt
if_any P (r ∷ rs) p = p

-- ---- a list read back

pub each_long : (P : List Float → Type 0) (w : ℕ) → ((r : List Float) → P r → length r ≡ w) → (rs : Records) → Each P rs → Each (λ r. length r ≡ w) rs
each_long P w f [] h = tt
each_long P w f (r ∷ rs) h = (f r h.0, each_long P w f rs h.1)

front : (r l : List Float) → (take (length r) (r ++ l) ≡ r) × (drop (length r) (r ++ l) ≡ l)
front [] l = (refl, refl)
front (x ∷ r) l = (ap (λ (k : List Float). x ∷ k) (front r l).0, (front r l).1)

recs-flat : (w : ℕ) (rs : Records) (l : List Float) → Each (λ r. length r ≡ w) rs → recs w (length rs) (flat rs ++ l) ≡ rs
unfolding recs flat
recs-flat w [] l h = refl
recs-flat w (r ∷ rs) l h =
    rw (append_assoc r (flat rs) l, ← h.0, (front r (flat rs ++ l)).0, (front r (flat rs ++ l)).1) (ap (λ (k : Records). r ∷ k) (recs-flat w rs l h.1))

pub recs_shown : (w n : ℕ) (rs : Records) → Each (λ r. length r ≡ w) rs → recs w (length rs) (shown n rs) ≡ rs
unfolding shown
recs_shown w n rs h = recs-flat w rs (replicate (n - length (flat rs)) null) h
