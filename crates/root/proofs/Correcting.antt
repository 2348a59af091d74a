-- The test that corrects an estimate r of the root of m * 2 ^ 52, for r = a * 2 ^ 27 + b: the difference m * 2 ^ 52 - r * r is g - s, and by it r, r + 1 or r
-- - 1 is the nearest. Assumes nothing.
use mathlib.Core.Path.{◌≡◌, ap, ◌∙◌}
use Prim.Native.Nat.{ℕ, ◌+◌, ◌-◌, ◌*◌, ◌/◌, ◌%◌, ◌≤◌, ◌<◌}
use native.Mathlib.Nat.{mul-le-mul_right}
use native.Mathlib.Omega.{arith}
use Rattle.root.specs.Inner.{Near}

product : (a b : ℕ) → a < 134217728 → b < 134217728 → a * b ≤ 18014398241046529
product a b h k =
    let x : a * b ≤ 134217727 * b = mul-le-mul_right b (omega arith) in
    omega arith

-- the products of r's halves fit
pub record Halves (r : ℕ) : Type 0 where
  pub aa : r / 134217728 * (r / 134217728) ≤ 18014398241046529
  pub ab : r / 134217728 * (r % 134217728) ≤ 18014398241046529
  pub bb : r % 134217728 * (r % 134217728) ≤ 18014398241046529

pub halves : (r : ℕ) → r < 9007199254740992 → Halves r
halves r h =
    let a : r / 134217728 < 134217728 = omega arith in
    let b : r % 134217728 < 134217728 = omega arith in
    record { aa = product _ _ a a; ab = product _ _ a b; bb = product _ _ b b }

-- what the code works out, in whole numbers
pub exact : (m r a b e f : ℕ) → r ≡ a * 134217728 + b → a * a * 4 + e ≡ m + 64 → a * b + f ≡ e * 16777216
    → f * 268435456 + r * r ≡ m * 4503599627370496 + (b * b + 288230376151711744)
exact m r a b e f p q h =
    let x : r * r ≡ a * a * 18014398509481984 + a * b * 268435456 + b * b = ap (λ (z : ℕ). z * z) p ∙ omega arith in
    omega arith

-- one less, one more, or r itself
pub less : (m r g s t : ℕ) → g + r * r ≡ m * 4503599627370496 + s → s + 2 < g + r * 3 → g + r ≤ s → t ≡ r - 1 → 4503599627370496 ≤ t
    → t < 9007199254740992 → Near m t
less m r g s t e lo h k l n =
    let v : r ≡ t + 1 = omega arith in
    let x : r * r ≡ t * t + t * 2 + 1 = ap (λ (z : ℕ). z * z) v ∙ omega arith in
    omega arith

pub more : (m r g s t : ℕ) → g + r * r ≡ m * 4503599627370496 + s → g ≤ s + r * 3 + 2 → s + r < g → t ≡ r + 1 → 4503599627370496 ≤ t
    → t < 9007199254740992 → Near m t
more m r g s t e hi h k l n =
    let x : t * t ≡ r * r + r * 2 + 1 = ap (λ (z : ℕ). z * z) k ∙ omega arith in
    omega arith

pub kept : (m r g s t : ℕ) → g + r * r ≡ m * 4503599627370496 + s → g ≤ s + r → s < g + r → t ≡ r → 4503599627370496 ≤ t
    → t < 9007199254740992 → Near m t
kept m r g s t e h i k l n =
    let x : t * t ≡ r * r = ap (λ (z : ℕ). z * z) k in
    omega arith
