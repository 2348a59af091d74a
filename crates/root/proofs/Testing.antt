-- The test that r, for r = a * 2 ^ 21 + u, is the whole number nearest the root of m * 2 ^ 52: 2 r + 1 is a * 2 ^ 22 + l. Assumes nothing.
use mathlib.Core.Path.{◌≡◌, ap, ◌∙◌}
use Prim.Native.Nat.{ℕ, ◌+◌, ◌-◌, ◌*◌, ◌/◌, ◌%◌, ◌≤◌, ◌<◌}
use native.Mathlib.Nat.{mul-le-mul}
use native.Mathlib.Omega.{arith}
use Rattle.root.specs.Inner.{Near}

-- the products of the test fit
pub record Parts (r : ℕ) : Type 0 where
  pub aa : r / 2097152 * (r / 2097152) ≤ 18446744065119617025
  pub al : r / 2097152 * (r % 2097152 * 2 + 1) ≤ 18014394210320385
  pub ll : (r % 2097152 * 2 + 1) * (r % 2097152 * 2 + 1) ≤ 17592177655809

pub parts : (r : ℕ) → r < 9007199254740992 → Parts r
parts r h =
    let a : r / 2097152 ≤ 4294967295 = omega arith in
    let l : r % 2097152 * 2 + 1 ≤ 4194303 = omega arith in
    record { aa = mul-le-mul a a; al = mul-le-mul a l; ll = mul-le-mul l l }

-- (2 r + 1) ^ 2
doubled : (r a u : ℕ) → r ≡ a * 2097152 + u → r * r * 4 + r * 4 + 1 ≡ a * a * 17592186044416 + a * (u * 2 + 1) * 8388608 + (u * 2 + 1) * (u * 2 + 1)
doubled r a u e = let x : r * r ≡ a * a * 4398046511104 + a * u * 4194304 + u * u = ap (λ (z : ℕ). z * z) e ∙ omega arith in omega arith

-- k, g, q and s stand for the products
within : (m r a k g q s d : ℕ) → 4503599627370496 ≤ r → r < 9007199254740992 → a * 2097152 ≤ r → s * 4 + r * 4 + 1 ≡ k * 17592186044416 + g * 8388608 + q
    → k + d ≡ m * 1024 + 1024 → d * 2097152 ≤ g + q / 8388608 + 2147483648 → g + q / 8388608 + 2147483648 - d * 2097152 < a * 2
    → (s < m * 4503599627370496 + r) × (m * 4503599627370496 ≤ s + r)
within m r a k g q s d lo hi ar e f h t = omega arith

pub tested : (m r d : ℕ) → 4503599627370496 ≤ r → r < 9007199254740992 → r / 2097152 * (r / 2097152) + d ≡ m * 1024 + 1024
    → d * 2097152 ≤ r / 2097152 * (r % 2097152 * 2 + 1) + (r % 2097152 * 2 + 1) * (r % 2097152 * 2 + 1) / 8388608 + 2147483648
    → r / 2097152 * (r % 2097152 * 2 + 1) + (r % 2097152 * 2 + 1) * (r % 2097152 * 2 + 1) / 8388608 + 2147483648 - d * 2097152 < r / 2097152 * 2
    → Near m r
tested m r d lo hi f h t =
    let w = within m r (r / 2097152) _ _ _ (r * r) d lo hi (omega arith) (doubled r (r / 2097152) (r % 2097152) (omega arith)) f h t in
    record { least = lo; most = hi; above = w.0; under = w.1 }
