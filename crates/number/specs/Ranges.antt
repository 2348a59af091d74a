-- Statements. A range is by value: a NaN fails every range, and −0 is in a range exactly where +0 is. Of two equal values min and max give the left
-- one, and they pass over a NaN. Assumes nothing.
use Rattle.std.specs.Prelude.{◌≡◌, Bool, true, false, ◌&&◌, T, refl, Float}
use Rattle.std.specs.Float.{nan, inf, fin}
use Rattle.std.specs.Float.Ieee.{lt, le, eq, neg, is_nan, round}
use Rattle.number.specs.Ops.{dec}
use Rattle.number.specs.Number.{min_of, max_of, within_of, about_of}
use Rattle.number.specs.Order.{le_through, eq-le, eq_sym, lt-nle}

-- 01: "NaN fails every range"
pub nan_fails : (lo hi : Float) → within_of lo hi nan ≡ false
unfolding within_of le lt eq
nan_fails nan hi = refl
nan_fails (inf s) hi = refl
nan_fails (fin s m e) hi = refl

pub nan_fails_about : (r : Float) → about_of r nan ≡ false
nan_fails_about r = nan_fails (neg r) r

-- two tests that follow from each other
same : (a b : Bool) → (T a → T b) → (T b → T a) → a ≡ b
same true true f g = refl
same false false f g = refl
same true false f g = absurd (f tt)
same false true f g = absurd (g tt)

-- 01: "−0 counts as 0"
module _ (x y : Float) (h : T (le x y)) (k : T (le y x)) where
  -- of any two that are equal by value
  pub within_by_value : (lo hi : Float) → within_of lo hi x ≡ within_of lo hi y
  unfolding within_of
  within_by_value lo hi = ap2 (same (le lo x) (le lo y) (λ a. le_through lo x y a h) (λ a. le_through lo y x a k))
      (same (le x hi) (le y hi) (λ a. le_through y x hi k a) (λ a. le_through x y hi h a))
    where
      ap2 : {a b c d : Bool} → a ≡ b → c ≡ d → (a && c) ≡ (b && d)
      ap2 p q = rw (p, q)

pub minus_zero_counts : (lo hi : Float) → within_of lo hi (neg (dec 0 1)) ≡ within_of lo hi (dec 0 1)
unfolding round neg le
minus_zero_counts lo hi = within_by_value (neg (dec 0 1)) (dec 0 1) tt tt lo hi

-- 01, "Arithmetic": "of two equal values both give the left one"
not_below : (a b : Float) → T (eq a b) → (lt b a ≡ false) × (is_nan a ≡ false) × (lt a b ≡ false)
unfolding eq lt is_nan
not_below nan b h = absurd h
not_below (inf s) nan h = absurd h
not_below (inf true) (inf true) h = (refl, refl, refl)
not_below (inf true) (inf false) h = absurd h
not_below (inf false) (inf true) h = absurd h
not_below (inf false) (inf false) h = (refl, refl, refl)
not_below (inf s) (fin t n d) h = absurd h
not_below (fin s m e) nan h = absurd h
not_below (fin s m e) (inf t) h = absurd h
not_below (fin s m e) (fin t n d) h =
    let a = fin s m e in
    let b = fin t n d in
    (no (lt b a) (λ l. lt-nle b a tt tt l (eq-le a b h)), refl, no (lt a b) (λ l. lt-nle a b tt tt l (eq-le b a (eq_sym a b tt tt h))))
  where
    no : (t : Bool) → (T t → ⊥) → t ≡ false
    no true f = absurd (f tt)
    no false f = refl

pub min_tie : (a b : Float) → T (eq a b) → min_of a b ≡ a
unfolding min_of
min_tie a b h = let n = not_below a b h in rw (n.1, n.0)

pub max_tie : (a b : Float) → T (eq a b) → max_of a b ≡ a
unfolding max_of
max_tie a b h = let n = not_below a b h in rw (n.1, n.2)

-- "they pass over a NaN"
pub min_past_nan : (a : Float) → (min_of nan a ≡ a) × (min_of a nan ≡ a)
unfolding min_of is_nan lt
min_past_nan nan = (refl, refl)
min_past_nan (inf s) = (refl, refl)
min_past_nan (fin s m e) = (refl, refl)

pub max_past_nan : (a : Float) → (max_of nan a ≡ a) × (max_of a nan ≡ a)
unfolding max_of is_nan lt
max_past_nan nan = (refl, refl)
max_past_nan (inf s) = (refl, refl)
max_past_nan (fin s m e) = (refl, refl)
