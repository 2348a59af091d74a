-- Statements. `decimal_of n` is n in base ten: read from left to right it gives n back (`read_back`), each byte is a digit (`digits_only`), no 0 leads
-- (`no_leading_zero`), and a number below 10 ^ w takes at most w (`at_most`).
use Prim.Native.Nat.{ℕ, zero, suc, ◌+◌, ◌-◌, ◌*◌, ◌/◌, ◌%◌, ◌^◌, ◌≤◌, ◌<◌}
use Rattle.std.proofs.Common.{pow-suc, div-lt_iff_lt-mul, ◌∙◌, length-append, ltb-true, ltb-false}
use native.Mathlib.Omega.{arith}
use Rattle.std.specs.Prelude.{◌≡◌, Bool, List, [], ◌∷◌, ◌++◌, length, get_or}
use Rattle.std.proofs.Math.Path.{refl, subst}
use Rattle.std.proofs.Math.Bool.{true, false}
use Rattle.std.proofs.Math.Dec.{ltb}
use Rattle.text.specs.Text.{decimal_in, decimal_of}

-- ---- what holds of one digit, and goes on from n / 10 to n, holds of the digits of n
tenth : (k n : ℕ) → n < 10 ^ suc k → n / 10 < 10 ^ k
tenth k n h = (div-lt_iff_lt-mul {k = 10} (omega arith)).1 (subst (λ (x : ℕ). n < x) (pow-suc 10 k) h)

module _ (P : ℕ → List ℕ → Type 0) (none : P 0 []) (one : (n : ℕ) → n < 10 → P n ((48 + n) ∷ []))
    (more : (n : ℕ) (l : List ℕ) → 10 ≤ n → P (n / 10) l → P n (l ++ ((48 + n % 10) ∷ []))) where
  by_digits : (k n : ℕ) → n < 10 ^ k → P n (decimal_in k n)
  unfolding decimal_in
  by_digits zero n h = let e : 0 ≡ n = omega arith in subst (λ (x : ℕ). P x []) e none
  by_digits (suc k) n h = go (ltb n 10) refl (λ (u : n / 10 < 10 ^ k). by_digits k (n / 10) u)
    where
      go : (b : Bool) → ltb n 10 ≡ b → (n / 10 < 10 ^ k → P (n / 10) (decimal_in k (n / 10))) → P n (decimal_in (suc k) n)
      go true e f = rw e (one n (ltb-true n 10 e))
      go false e f = rw e (more n (decimal_in k (n / 10)) (ltb-false n 10 e) (f (tenth k n h)))

-- ---- every u64 is below 10 ^ 20

-- a number read from its digits, the most significant first, after those read before it
unfoldable pub read_from : ℕ → List ℕ → ℕ
read_from a [] = a
read_from a (c ∷ l) = read_from (10 * a + (c - 48)) l

read_more : (a : ℕ) (l : List ℕ) (c : ℕ) → read_from a (l ++ (c ∷ [])) ≡ 10 * read_from a l + (c - 48)
unfolding read_from
read_more a [] c = refl
read_more a (x ∷ l) c = read_more (10 * a + (x - 48)) l c

pub read_back : (n : ℕ) → n < 100000000000000000000 → read_from 0 (decimal_of n) ≡ n
unfolding decimal_of read_from
read_back = by_digits (λ n l. read_from 0 l ≡ n) refl (λ n h. omega arith) (λ n l h i. read_more 0 l (48 + n % 10) ∙ (omega arith)) 20

-- each byte is one of 48 to 57, "0" to "9"
abbrev pub Digits : List ℕ → Type 0
Digits [] = Unit
Digits (c ∷ l) = ((48 ≤ c) × (c ≤ 57)) × Digits l

digits_more : (l : List ℕ) (c : ℕ) → Digits l → (48 ≤ c) × (c ≤ 57) → Digits (l ++ (c ∷ []))
digits_more [] c h a = (a, tt)
digits_more (x ∷ l) c h a = (h.0, digits_more l c h.1 a)

pub digits_only : (n : ℕ) → n < 100000000000000000000 → Digits (decimal_of n)
unfolding decimal_of
digits_only = by_digits (λ n l. Digits l) tt (λ n h. ((omega arith, omega arith), tt)) (λ n l h i. digits_more l (48 + n % 10) i (omega arith, omega arith)) 20

-- a number above 0 begins with one of "1" to "9"
first_more : (l : List ℕ) (c : ℕ) → 49 ≤ get_or l 0 0 → 49 ≤ get_or (l ++ (c ∷ [])) 0 0
first_more [] c h = absurd (omega arith)
first_more (x ∷ l) c h = h

pub no_leading_zero : (n : ℕ) → n < 100000000000000000000 → 0 < n → 49 ≤ get_or (decimal_of n) 0 0
unfolding decimal_of
no_leading_zero =
    by_digits (λ n l. 0 < n → 49 ≤ get_or l 0 0) (λ p. absurd (omega arith)) (λ n h p. omega arith) (λ n l h i p. first_more l (48 + n % 10) (i (omega arith))) 20

-- a number below 10 ^ w takes at most w digits
narrower : (n v : ℕ) (l : List ℕ) → 10 ≤ n → n < 10 ^ suc v → ((w : ℕ) → n / 10 < 10 ^ suc w → length l ≤ suc w) → length (l ++ ((48 + n % 10) ∷ [])) ≤ suc v
narrower n zero l h b i = absurd (omega arith)
narrower n (suc v) l h b i = let k = i v (tenth (suc v) n b) in omega (arith, length-append l ((48 + n % 10) ∷ []))

pub at_most : (n : ℕ) → n < 100000000000000000000 → (w : ℕ) → n < 10 ^ suc w → length (decimal_of n) ≤ suc w
unfolding decimal_of
at_most = by_digits (λ n l. (w : ℕ) → n < 10 ^ suc w → length l ≤ suc w) (λ w h. omega arith) (λ n h w b. omega arith) (λ n l h i w b. narrower n w l h b i) 20
