-- Lemmas. A scan upwards, one number at a time: `all` and `first`.
use Rattle.std.specs.Prelude.{ℕ, zero, suc, ◌+◌, ◌-◌, ◌≤◌, ◌<◌, ◌≡◌, refl, Bool, true, false, cond, ◌&&◌}
use Rattle.std.proofs.Common.{le_refl, add-one, arith, ◌∙◌}
use Rattle.sheet.specs.Sheet.{all, first}

pub and-false : (b : Bool) → (b && false) ≡ false
and-false true = refl
and-false false = refl

left : (i n : ℕ) → i < n → n - i ≡ suc (n - (i + 1))
left i n l = let e : n - i ≡ n - (i + 1) + 1 = omega arith in e ∙ add-one _

none : (i n : ℕ) → n ≤ i → n - i ≡ 0
none i n l = omega arith

module _ (p : ℕ → Bool) (i n : ℕ) where
  pub all_next : i < n → p i ≡ true → all p (n - (i + 1)) (i + 1) ≡ all p (n - i) i
  unfolding all
  all_next l e = rw (left i n l, e)

  pub all_stop : i < n → p i ≡ false → false ≡ all p (n - i) i
  unfolding all
  all_stop l e = rw (left i n l, e)

  pub all_end : n ≤ i → true ≡ all p (n - i) i
  unfolding all
  all_end l = rw (none i n l)

  pub first_next : i < n → p i ≡ false → first p (n - (i + 1)) (i + 1) ≡ first p (n - i) i
  unfolding first
  first_next l e = rw (left i n l, e)

  pub first_stop : i < n → p i ≡ true → i ≡ first p (n - i) i
  unfolding first
  first_stop l e = rw (left i n l, e)

  pub first_end : n ≤ i → i ≡ first p (n - i) i
  unfolding first
  first_end l = rw (none i n l)

pub first_from : (p : ℕ → Bool) (n i : ℕ) → i ≤ first p n i
unfolding first
first_from p zero i = le_refl i
first_from p (suc n) i = go (p i) (first_from p n (i + 1))
  where
    go : (t : Bool) → i + 1 ≤ first p n (i + 1) → i ≤ cond t i (first p n (i + 1))
    go true h = le_refl i
    go false h = omega arith
