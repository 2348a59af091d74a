-- Statements. The test of a list of times (39) passes exactly where each is in 0..1,000,000 and none is lower than the one before it. Assumes nothing.
use Rattle.std.specs.Prelude.{ℕ, zero, suc, ◌<◌, ◌≡◌, refl, Bool, true, not, ◌↔◌, List, [], ◌∷◌, T, length, get_or, Float}
use Rattle.std.proofs.Common.{arith, sym, subst}
use Rattle.std.specs.Float.{nan}
use Rattle.std.specs.Float.Ieee.{lt, le}
use Rattle.std.specs.Float.Ieee.Bits.{is_true}
use Rattle.number.specs.Ops.{dec}
use Rattle.number.specs.Number.{within_of}
use Rattle.number.specs.Order.{within_lo}
use Rattle.number.specs.Against0.{not_below}
use Rattle.listen.specs.Listen.{time_ok, in_order, times_ok}
use Rattle.listen.proofs.Accepted.{and_left, and_right}

abbrev pub InRange : Float → Type 0
InRange x = T (within_of (dec 0 1) (dec 1000000 1) x)

pub record Times (l : List Float) : Type 0 where
  pub in_range : (i : ℕ) → i < length l → InRange (get_or l i nan)
  pub not_lower : (i : ℕ) → suc i < length l → T (not (lt (get_or l (suc i) nan) (get_or l i nan)))

holds : {b : Bool} → b ≡ true → T b
holds e = subst T (sym e) tt

-- the first is not lower than b
abbrev From : Float → List Float → Type 0
From b l = 0 < length l → T (not (lt (get_or l 0 nan) b))

reads : (b : Float) (l : List Float) → in_order b l ≡ true → Times l × From b l
unfolding in_order time_ok
reads b [] e = (record { in_range = λ i h. absurd (omega arith); not_lower = λ i h. absurd (omega arith) }, λ h. absurd (omega arith))
reads b (x ∷ l) e =
    let t = and_left (time_ok b x) (in_order x l) e in
    let r = reads x l (and_right (time_ok b x) (in_order x l) e) in
    let w = holds (and_left (within_of (dec 0 1) (dec 1000000 1) x) (not (lt x b)) t) in (
      record {
        in_range = elim [ zero ↦ λ h. w | suc i ↦ λ h. r.0.in_range i (omega arith) ];
        not_lower = elim [ zero ↦ λ h. r.1 (omega arith) | suc i ↦ λ h. r.0.not_lower i (omega arith) ];
      },
      λ h. holds (and_right (within_of (dec 0 1) (dec 1000000 1) x) (not (lt x b)) t),
    )

passes : (b : Float) (l : List Float) → Times l → From b l → in_order b l ≡ true
unfolding in_order time_ok
passes b [] r f = refl
passes b (x ∷ l) r f =
    let w = is_true (within_of (dec 0 1) (dec 1000000 1) x) (r.in_range 0 (omega arith)) in
    let n = is_true (not (lt x b)) (f (omega arith)) in
    let k = passes x l
    (record { in_range = λ i h. r.in_range (suc i) (omega arith); not_lower = λ i h. r.not_lower (suc i) (omega arith) })
    (λ h. r.not_lower 0 (omega arith)) in
    rw (w, n, k)

-- the first has none before it: in range, it is not lower than 0
pub times_exactly : (l : List Float) → (times_ok l ≡ true) ↔ Times l
times_exactly l = (λ e. (reads (dec 0 1) l e).0, λ r. passes (dec 0 1) l r (λ h. not_below (get_or l 0 nan) (first r h)))
  where
    first : Times l → 0 < length l → T (le (dec 0 1) (get_or l 0 nan))
    first r h = within_lo (dec 0 1) (dec 1000000 1) (get_or l 0 nan) (r.in_range 0 h)
