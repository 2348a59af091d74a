-- The arithmetic of the digit loop and of the test that corrects an estimate. Assumes nothing.
use mathlib.Core.Path.{◌≡◌, refl, ◌∙◌}
use Prim.Native.Nat.{ℕ, ◌+◌, ◌-◌, ◌*◌, ◌/◌, ◌%◌, ◌^◌, ◌≤◌, ◌<◌}
use native.Mathlib.Nat.{lt_of_not-le, mul-le-mul_right, lt_of_lt_of_le}
use native.Mathlib.Numerals.{add-one}
use native.Mathlib.Omega.{arith}
use lib.Pow.{pow_mono}
use Rattle.root.specs.Inner.{Near}

-- i binary digits of the root are found, and m's digits not yet used are in `rest`
pub record State (m root rem rest i : ℕ) : Type 0 where
  pub count : i ≤ 53
  pub digits : root < 2 ^ i
  pub rem_le : rem ≤ root * 2
  pub rest_lt : rest < 18014398509481984
  pub total : (root * root + rem) * 18014398509481984 + rest ≡ m * (2 ^ i * 2 ^ i)

-- the state after a turn: without, and with, the new digit
record Turned (m p root rem rest : ℕ) : Type 0 where
  pub digits : root < 2 * p
  pub rem_le : rem ≤ root * 2
  pub rest_lt : rest < 18014398509481984
  pub total : (root * root + rem) * 18014398509481984 + rest ≡ m * (p * p) * 4

without : (m p root rem rest c : ℕ) → root < p → rest < 18014398509481984 → (root * root + rem) * 18014398509481984 + rest ≡ m * (p * p)
    → c ≡ rem * 4 + rest / 4503599627370496 → c < root * 4 + 1 → Turned m p (root * 2) c (rest % 4503599627370496 * 4)
without m p root rem rest c a b t e h = omega arith

with : (m p root rem rest c : ℕ) → root < p → rem ≤ root * 2 → rest < 18014398509481984 → (root * root + rem) * 18014398509481984 + rest ≡ m * (p * p)
    → c ≡ rem * 4 + rest / 4503599627370496 → root * 4 + 1 ≤ c → Turned m p (root * 2 + 1) (c - (root * 4 + 1)) (rest % 4503599627370496 * 4)
with m p root rem rest c a d b t e h =
    let z = c - (root * 4 + 1) in
    let ze : z + (root * 4 + 1) ≡ c = omega arith in
    omega arith

continued : (m root rem rest i : ℕ) → i < 53 → Turned m (2 ^ i) root rem rest → State m root rem rest (i + 1)
continued m root rem rest i h t =
    let e : 2 ^ (i + 1) ≡ 2 * 2 ^ i = rw add-one (omega arith) in
    record {
      count = omega arith;
      digits = omega arith;
      rem_le = t.rem_le;
      rest_lt = t.rest_lt;
      total = t.total ∙ rw e (omega arith);
    }

pub step_without : (m root rem rest i : ℕ) → i < 53 → State m root rem rest i → rem * 4 + rest / 4503599627370496 < root * 4 + 1
    → State m (root * 2) (rem * 4 + rest / 4503599627370496) (rest % 4503599627370496 * 4) (i + 1)
step_without m root rem rest i h s l = continued m _ _ _ i h (without m (2 ^ i) root rem rest _ s.digits s.rest_lt s.total refl l)

pub step_with : (m root rem rest i : ℕ) → i < 53 → State m root rem rest i → root * 4 + 1 ≤ rem * 4 + rest / 4503599627370496
    → State m (root * 2 + 1) (rem * 4 + rest / 4503599627370496 - (root * 4 + 1)) (rest % 4503599627370496 * 4) (i + 1)
step_with m root rem rest i h s l = continued m _ _ _ i h (with m (2 ^ i) root rem rest _ s.digits s.rem_le s.rest_lt s.total refl l)

-- a number of 53 digits, while the loop runs and at its end
pub small : (m root rem rest i : ℕ) → i < 53 → State m root rem rest i → root < 4503599627370496
small m root rem rest i h s = lt_of_lt_of_le s.digits (pow_mono {j = 52} (omega arith))

-- at the end
cut : (x y r : ℕ) → r < 18014398509481984 → x * 18014398509481984 + r ≡ y * 81129638414606681695789005144064 → x ≡ y * 4503599627370496
cut x y r h e = omega arith

lower : (m root rem : ℕ) → 4503599627370496 ≤ m → root * root + rem ≡ m * 4503599627370496 → rem ≤ root * 2 → 4503599627370496 ≤ root
lower m root rem h e l = lt_of_not-le (λ (g : root ≤ 4503599627370495). let k : root * root ≤ 4503599627370495 * root = mul-le-mul_right root g in omega arith)

-- the last digit found, 53 in all, and the remainder then rounds
pub record Whole (m root rem : ℕ) : Type 0 where
  pub least : 4503599627370496 ≤ root
  pub most : root < 9007199254740992
  pub rem_le : rem ≤ root * 2
  pub total : root * root + rem ≡ m * 4503599627370496

pub end : (m root rem rest i : ℕ) → 4503599627370496 ≤ m → 53 ≤ i → State m root rem rest i → Whole m root rem
end m root rem rest i h g s =
    let e : i ≡ 53 = omega (arith, s.count) in
    let t : (root * root + rem) * 18014398509481984 + rest ≡ m * (2 ^ 53 * 2 ^ 53) = rw e at s.total in
    let u : root * root + rem ≡ m * 4503599627370496 = cut (root * root + rem) m rest s.rest_lt t in
    let d : root < 2 ^ 53 = rw e at s.digits in
    record { least = lower m root rem h u s.rem_le; most = d; rem_le = s.rem_le; total = u }

pub no_more : (m root rem : ℕ) → Whole m root rem → rem ≤ root → Near m root
no_more m root rem w h = omega arith

-- one more is still below 2 ^ 53, since m is below 2 ^ 54 - 1
pub one_more : (m root rem : ℕ) → m < 18014398509481983 → Whole m root rem → root < rem → Near m (root + 1)
one_more m root rem k w h =
    record {
      least = omega arith;
      most = lt_of_not-le (λ (g : 9007199254740992 ≤ root + 1). let e : root ≡ 9007199254740991 = omega (arith, w.most) in
          let t : 9007199254740991 * 9007199254740991 + rem ≡ m * 4503599627370496 = rw e at w.total in omega arith);
      above = omega arith;
      under = omega arith;
    }
