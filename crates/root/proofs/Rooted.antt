-- `root_of` from a whole number that is nearest to a root. Assumes nothing.
use mathlib.Core.Path.{◌≡◌, refl, sym, ap, ◌∙◌, subst}
use Prim.Native.Nat.{ℕ, suc, ◌+◌, ◌-◌, ◌*◌, ◌/◌, ◌%◌, ◌^◌, ◌≤◌, ◌<◌}
use native.Mathlib.Nat.{mul_assoc, mul-le-mul, mul-le-mul_left, mul-le-mul_right, lt_of_not-le, le_antisymm, le_of_suc-le-suc, lt_of_lt_of_le, mul-div_cancel}
use native.Mathlib.Nat.{not-le_of_lt, mul-lt-mul_of_pos_right, mul-pos}
use native.Mathlib.Omega.{arith}
use mathlib.Core.Bool.{Bool, true, false, cond, not}
use lib.Dec.{T, leb, leb→le, nleb→lt}
use lib.Pow.{pow-add, pow_pos, pow_mono}
use lib.Ieee.{size, odd}
use lib.Ieee.Digits.{size-lt, size-le}
use Rattle.root.specs.Root.{floor_root, near_root, root_units, dropped}
use Rattle.root.specs.Halfway.{floor_root_lem}
use Rattle.root.specs.Inner.{Near, Aligned, Radicand, RootBits, units_of}
use Rattle.root.proofs.Patterns.{normal, root_of_bits}
use Rattle.root.proofs.Aligning.{normal as aligned-normal}

-- ---- the nearest: only one number passes
near_unique : (n f r : ℕ) (b : Bool) → f * f ≤ n → n < (f + 1) * (f + 1) → r * r < n + r → n ≤ r * r + r → (T b → n ≤ f * f + f) → (T (not b) → f * f + f < n)
    → cond b f (f + 1) ≡ r
near_unique n f r b lo hi h k x y = pick b x y
  where
    not_less : f ≤ r
    not_less = lt_of_not_le' (λ (g : r < f).
        let p : (r + 1) * r ≤ f * r = mul-le-mul_right r (omega arith) in
        let q : f * (r + 1) ≤ f * f = mul-le-mul_left f (omega arith) in
        omega arith)
      where
        lt_of_not_le' : (r < f → ⊥) → f ≤ r
        lt_of_not_le' z = le_of_suc-le-suc (lt_of_not-le (λ g. z g))

    not_more : r ≤ f + 1
    not_more = le_of_suc-le-suc (lt_of_not-le (λ (g : suc (f + 1) ≤ r).
        let u = r - 1 in
        let e : r ≡ u + 1 = omega arith in
        let s : r * r ≡ u * u + u * 2 + 1 = ap (λ (z : ℕ). z * z) e ∙ omega arith in
        let p : (f + 1) * (f + 1) ≤ u * u = mul-le-mul (omega arith) (omega arith) in
        omega arith))

    pick : (c : Bool) → (T c → n ≤ f * f + f) → (T (not c) → f * f + f < n) → cond c f (f + 1) ≡ r
    pick true p q = le_antisymm not_less (le_of_suc-le-suc (lt_of_not-le (λ (g : suc f ≤ r).
        let e : r ≡ f + 1 = omega (arith, not_more) in
        let s : r * r ≡ f * f + f * 2 + 1 = ap (λ (z : ℕ). z * z) e ∙ omega arith in
        omega (arith, p tt))))
    pick false p q =
        let z : f < r = lt_of_not-le (λ (g : r ≤ f).
        let e : r ≡ f = omega (arith, not_less) in
        let s : r * r ≡ f * f = ap (λ (z : ℕ). z * z) e in
        omega (arith, q tt)) in
        omega (arith, not_more)

pub near_root_lem : (n r : ℕ) → n < 4 ^ 53 → r * r < n + r → n ≤ r * r + r → near_root n ≡ r
unfolding near_root
near_root_lem n r b h k =
    let f = floor_root 53 n in
    let i = floor_root_lem 53 n b in
    near_unique n f r (leb n (f * f + f)) i.0 i.1 h k (leb→le n _) (nleb→lt n _)

-- ---- how many digits are dropped
-- n * 4 ^ k, for an n of 105 or 106 digits
size_at : (n k z : ℕ) → 2 ^ 104 ≤ n → n < 2 ^ 106 → size (n * (2 ^ k * 2 ^ k)) ≡ z → (z - 105) / 2 ≡ k
size_at n k z h l e =
    let p : 2 ^ k * 2 ^ k ≡ 2 ^ (k + k) = sym (pow-add 2 k k) in
    let x = n * (2 ^ k * 2 ^ k) in
    let hi : z ≤ 106 + (k + k) = subst (λ (y : ℕ). y ≤ 106 + (k + k)) e
    (size-le x (106 + (k + k)) (rw (pow-add 2 106 (k + k), ← p) (mul-lt-mul_of_pos_right l (mul-pos (pow_pos k) (pow_pos k))))) in
    let lo : 104 + (k + k) < z = lt_of_not-le (λ (g : z ≤ 104 + (k + k)).
    not-le_of_lt (lt_of_lt_of_le (subst (λ (y : ℕ). x < 2 ^ y) e (size-lt x)) (pow_mono g))
    (rw (pow-add 2 104 (k + k), ← p) (mul-le-mul_right (2 ^ k * 2 ^ k) h))) in
    omega arith

pub root_units_lem : (n k r : ℕ) → 2 ^ 104 ≤ n → n < 2 ^ 106 → r * r < n + r → n ≤ r * r + r → root_units (n * (2 ^ k * 2 ^ k)) ≡ odd 53 false r k 1074
unfolding root_units
root_units_lem n k r h l a b =
    let x = n * (2 ^ k * 2 ^ k) in
    let e : dropped x ≡ k = size_at n k (size x) h l refl in
    ap (λ (d : ℕ). odd 53 false (near_root (x / (2 ^ d * 2 ^ d))) d 1074) e
    ∙ ap (λ (y : ℕ). odd 53 false (near_root y) k 1074) (mul-div_cancel n (mul-pos (pow_pos k) (pow_pos k)))
    ∙ ap (λ (y : ℕ). odd 53 false y k 1074) (near_root_lem n r l a b)

-- ---- from the aligned digits t and the field g: t * 2 ^ g is a * 2 ^ 1024, and m is t or its double, by whether g is even
square : (t g a : ℕ) → 2 ≤ g → t * 2 ^ g ≡ a * 2 ^ 1024 → a * 2 ^ 1074 ≡ t * 2 ^ (g % 2) * 2 ^ 52 * (2 ^ (g / 2 - 1) * 2 ^ (g / 2 - 1))
square t g a h e =
    let k = g / 2 - 1 in
    let i : g + 50 ≡ g % 2 + (52 + (k + k)) = omega arith in
    ap (λ (x : ℕ). a * x) (pow-add 2 1024 50)
    ∙ sym (mul_assoc a (2 ^ 1024) (2 ^ 50))
    ∙ ap (λ (x : ℕ). x * 2 ^ 50) (sym e)
    ∙ mul_assoc t (2 ^ g) (2 ^ 50)
    ∙ ap (λ (x : ℕ). t * x) (sym (pow-add 2 g 50) ∙ ap (λ (x : ℕ). 2 ^ x) i ∙ pow-add 2 (g % 2) (52 + (k + k)) ∙ ap (λ (x : ℕ). 2 ^ (g % 2) * x)
    (pow-add 2 52 (k + k) ∙ ap (λ (x : ℕ). 2 ^ 52 * x) (pow-add 2 k k)))
    ∙ sym (mul_assoc t (2 ^ (g % 2)) (2 ^ 52 * (2 ^ k * 2 ^ k)))
    ∙ sym (mul_assoc (t * 2 ^ (g % 2)) (2 ^ 52) (2 ^ k * 2 ^ k))

pub bits_of_root : (b w m r : ℕ) → 0 < b → b < 9218868437227405312 → Aligned b w
    → Radicand w m → Near m r
    → RootBits b (r + (w / 4503599627370496 / 2 - 1) * 4503599627370496)
bits_of_root b w m r p q a d n =
    let g = w / 4503599627370496 in
    let k = g / 2 - 1 in
    let t = 4503599627370496 + w % 4503599627370496 in
    let v = r + k * 4503599627370496 in
    let gl : 972 ≤ g = a.low in
    let gh : g < 3070 = a.high in
    let lo = d.least in
    let hi = d.most in
    let rl = n.least in
    let rm = n.most in
    let small : v < 9218868437227405312 = omega arith in
    let f : v / 4503599627370496 - 1 ≡ k = omega arith in
    let z : 4503599627370496 + v % 4503599627370496 ≡ r = omega arith in
    let u : units_of b * 2 ^ 1074 ≡ m * 4503599627370496 * (2 ^ k * 2 ^ k) = square t g (units_of b) (omega arith) a.same
    ∙ ap (λ (x : ℕ). x * 4503599627370496 * (2 ^ k * 2 ^ k)) (sym d.is) in
    record {
      finite = small;
      is = normal v (omega arith) small
          ∙ ap (λ (x : ℕ). odd 53 false x (v / 4503599627370496 - 1) 1074) z
          ∙ ap (λ (x : ℕ). odd 53 false r x 1074) f
          ∙ sym (root_units_lem (m * 4503599627370496) k r (omega arith) (omega arith) n.above n.under)
          ∙ ap root_units (sym u)
          ∙ sym (root_of_bits b p q);
    }

-- the two forms of m
pub doubled : (w : ℕ) → w / 4503599627370496 % 2 ≡ 1 → Radicand w ((w % 4503599627370496 + 4503599627370496) * 2)
doubled w e = record { is = rw e (omega arith); least = omega arith; most = omega arith }

pub single : (w : ℕ) → (w / 4503599627370496 % 2 ≡ 1 → ⊥) → Radicand w (w % 4503599627370496 + 4503599627370496)
single w h = let e : w / 4503599627370496 % 2 ≡ 0 = omega (arith, h) in record { is = rw e (omega arith); least = omega arith; most = omega arith }

-- bits whose field is that of the root, and whose digits are nearest
pub tested_bits : (b w m : ℕ) → 4503599627370496 ≤ b → b < 9218868437227405312 → Radicand (b + 4607182418800017408) m
    → w / 4503599627370496 ≡ (b + 4607182418800017408) / 9007199254740992 → Near m (w % 4503599627370496 + 4503599627370496) → RootBits b w
tested_bits b w m h k d e n =
    let v = b + 4607182418800017408 in
    let f : w % 4503599627370496 + 4503599627370496 + (v / 4503599627370496 / 2 - 1) * 4503599627370496 ≡ w = omega arith in
    rw f at (bits_of_root b v m _ (omega arith) k (aligned-normal b h k) d n)
