-- Lemmas. Eight bays of 32 entries each: their counts add up to the length of a list, and do not depend on its order.
use Rattle.std.specs.Prelude.{ℕ, zero, suc, ◌+◌, ◌*◌, ◌≤◌, ◌<◌, ◌≡◌, refl, ◌⊎◌, Bool, true, false, cond, eqb, length}
use Rattle.std.proofs.Common.{arith, eq-or-lt_of_le, ap, ◌∙◌, inl, inr, eqb-true, eq-eqb, ne_eqb}
use mathlib.Core.List.{List, [], ◌∷◌, Permᴰ}
use Rattle.board.specs.declared.Entry.{Entry}
use Rattle.board.specs.Rules.{one, used}
use Rattle.board.specs.Words.{All}

pub used_perm : (k : ℕ) {l m : List Entry} → Permᴰ l m → used k l ≡ used k m
unfolding used
used_perm k Permᴰ.nil = refl
used_perm k (Permᴰ.cons e d) = let h = ap (one k) e in let i = used_perm k d in omega arith
used_perm k (Permᴰ.swap e f) = let h = ap (one k) e in let i = ap (one k) f in omega arith
used_perm k (Permᴰ.trans d e) = used_perm k d ∙ used_perm k e

-- ---- the counts of the bays 0 to n - 1 together
abbrev sum : (ℕ → ℕ) → ℕ → ℕ
sum f zero = 0
sum f (suc n) = sum f n + f n

sum-add : (f g : ℕ → ℕ) (n : ℕ) → sum (λ k. f k + g k) n ≡ sum f n + sum g n
sum-add f g zero = refl
sum-add f g (suc n) = let h = sum-add f g n in omega arith

sum_most : (f : ℕ → ℕ) → ((k : ℕ) → f k ≤ 32) → (n : ℕ) → sum f n ≤ 32 * n
sum_most f h zero = omega arith
sum_most f h (suc n) = omega (arith, sum_most f h n, h n)

sum_less : (f : ℕ → ℕ) → ((k : ℕ) → f k ≤ 32) → (k n : ℕ) → k < n → f k < 32 → sum f n < 32 * n
sum_less f h k zero l u = absurd (omega arith)
sum_less f h k (suc n) l u = let m : k ≤ n = omega arith in go (λ j. sum_less f h k n j u) (eq-or-lt_of_le m)
  where
    go : (k < n → sum f n < 32 * n) → (k ≡ n) ⊎ (k < n) → sum f n + f n < 32 * suc n
    go r (inl q) = let i = ap f q in omega (arith, sum_most f h n)
    go r (inr q) = omega (arith, r q, h n)

-- an entry counts for its bay alone
abbrev is : ℕ → ℕ → ℕ
is b k = cond (eqb b k) 1 0

below : (b n : ℕ) → n ≤ b → sum (is b) n ≡ 0
below b zero h = refl
below b (suc n) h = let i = below b n (omega arith) in rw (i, ne_eqb b n (λ q. omega arith))

each : (b n : ℕ) → b < n → sum (is b) n ≡ 1
each b zero h = absurd (omega arith)
each b (suc n) h = let m : b ≤ n = omega arith in go (each b n) (eq-or-lt_of_le m)
  where
    go : (b < n → sum (is b) n ≡ 1) → (b ≡ n) ⊎ (b < n) → sum (is b) n + is b n ≡ 1
    go r (inl q) = let i = below b n (omega arith) in rw (i, eq-eqb b n q)
    go r (inr q) = rw (r q, ne_eqb b n (λ i. omega arith))

abbrev pub InBay : Entry → Type 0
InBay e = e.bay ≤ 7

all_bays : (l : List Entry) → All InBay l → sum (λ k. used k l) 8 ≡ length l
unfolding used one All
all_bays [] a = refl
all_bays (e ∷ l) a = sum-add (is e.bay) (λ k. used k l) 8 ∙ (let i = all_bays l a.1 in omega (arith, each e.bay 8 (omega (arith, a.0))))

-- a bay with entries left leaves the board a place
pub bays_fit : (l : List Entry) → All InBay l → ((k : ℕ) → used k l ≤ 32) → (k : ℕ) → k ≤ 7 → used k l < 32 → length l < 256
bays_fit l a s k h u = omega (arith, all_bays l a, sum_less (λ i. used i l) s k 8 (omega arith) u)

-- one entry more of a bay that has some left
pub one_more : (e : Entry) (l : List Entry) → used e.bay l < 32 → ((k : ℕ) → used k l ≤ 32) → (k : ℕ) → used k (e ∷ l) ≤ 32
unfolding used one
one_more e l u s k = go (eqb e.bay k) refl (s k)
  where
    go : (t : Bool) → eqb e.bay k ≡ t → used k l ≤ 32 → cond t 1 0 + used k l ≤ 32
    go false p h = omega arith
    go true p h = let q : used e.bay l ≡ used k l = ap (λ (i : ℕ). used i l) (eqb-true e.bay k p) in omega arith
