-- What `rounded` works out from a double's bits is the nearest whole number. Assumes nothing.
use Prim.Native.Nat.{ℕ, zero, suc, ◌+◌, ◌-◌, ◌*◌, ◌/◌, ◌%◌, ◌^◌, ◌≤◌, ◌<◌}
use native.Mathlib.Nat.{mul_comm, mul_assoc, mul_left_comm, mul_right_comm, add-mul, one-mul, two-pow-succ, div-eq_of_lt}
use native.Mathlib.Nat.{le_trans, le_of_lt, mul-le-mul, mul-le-mul_left, mul-le-mul_right, le_of_mul-le-mul_right}
use native.Mathlib.Omega.{arith}
use mathlib.Core.Path.{◌≡◌, refl, sym, ap, ◌∙◌, subst}
use mathlib.Core.Bool.{Bool, true, false, cond}
use lib.Dec.{T, leb, eqb}
use borrow.Author.Tests.{leb-true, leb-false}
use lib.Pow.{pow-add, pow_pos, pow_mono, shl_exact}
use lib.Ieee.{Float, nan, inf, fin, binary64, up, down, odd, of_fields, of_bits, to_bits, fits}
use lib.Ieee.Bits.{of_bits-to_bits}
use lib.Ieee.Digits.{Equals, odd_val}
use lib.Ieee.Fits.{down_pos}
use lib.Ieee.Nearest.{div_same}
use Rattle.number.specs.Ops.{dec}
use Rattle.number.specs.Number.{about_of, finite_of}
use Rattle.number.specs.Rounding.{about_size, about_finite}
use Rattle.rounding.specs.Rounded.{nearest_of, rounded_of}

-- ---- equal fractions round alike
scaled : (k a c d : ℕ) → (2 * (k * a) + c) * (2 * d) ≡ 2 * (k * (a * d)) * 2 + 2 * (c * d)
scaled k a c d = simp (add-mul, mul_assoc, mul_comm, mul_left_comm)

pub same : (k a c b d : ℕ) → 0 < c → 0 < d → a * d ≡ b * c → nearest_of k a c ≡ nearest_of k b d
same k a c b d C D e =
    div_same (2 * (k * a) + c) (2 * c) (2 * (k * b) + d) (2 * d) (omega arith) (omega arith)
    (scaled k a c d ∙ ap (λ (x : ℕ). 2 * (k * x) * 2 + 2 * (c * d)) e ∙ ap (λ (x : ℕ). 2 * (k * (b * c)) * 2 + 2 * x) (mul_comm c d) ∙ sym (scaled k b d c))

value : (k : ℕ) (x : Float) (a c : ℕ) → 0 < c → Equals x a c → rounded_of k x ≡ nearest_of k a c
unfolding rounded_of
value k nan a c C v = absurd v
value k (inf s) a c C v = absurd v
value k (fin s m e) a c C v = same k (m * up e) (down e) a c (down_pos e) C v

-- ---- q / (h + h), in whole numbers that fit 64 bits
double : (a h : ℕ) → (2 * a + (h + h)) * (h + h) ≡ (a + h) * (2 * (h + h))
double a h = let e : 2 * a + (h + h) ≡ 2 * (a + h) = omega arith in ap (λ (x : ℕ). x * (h + h)) e ∙ simp (mul_assoc, mul_left_comm)

half : (k q h : ℕ) → 0 < h → nearest_of k q (h + h) ≡ (k * q + h) / (h + h)
half k q h H = div_same (2 * (k * q) + (h + h)) (2 * (h + h)) (k * q + h) (h + h) (omega arith) (omega arith) (double (k * q) h)

product : (k q : ℕ) → k ≤ 1000 → q < 9007199254740992 → k * q < 9223372036854775808
product k q K Q = let h = mul-le-mul K (le_of_lt Q) in omega arith

-- below 1/2
tiny : (k q c : ℕ) → k ≤ 1000 → q < 9007199254740992 → 18446744073709551616 ≤ c → nearest_of k q c ≡ 0
tiny k q c K Q C = let h = product k q K Q in div-eq_of_lt (omega arith)

-- ---- q * 2 ^ j / 2 ^ 1074 is q / 2 ^ (1074 - j)
cut : (k q j w : ℕ) → w + j ≡ 1074 → nearest_of k (q * 2 ^ j) (2 ^ 1074) ≡ nearest_of k q (2 ^ w)
cut k q j w e =
    let p : 2 ^ 1074 ≡ 2 ^ w * 2 ^ j = ap (λ (n : ℕ). 2 ^ n) (sym e) ∙ pow-add 2 w j in
    same k (q * 2 ^ j) (2 ^ 1074) q (2 ^ w) (pow_pos 1074) (pow_pos w) (simp mul_assoc (ap (λ (x : ℕ). q * x) (mul_comm (2 ^ j) (2 ^ w) ∙ sym p)))

-- ---- what the fields of a finite double stand for
of_bits_is : (b : ℕ) → of_bits binary64 b ≡ of_fields binary64 (leb 9223372036854775808 b) (b % 9223372036854775808 / 4503599627370496) (b % 4503599627370496)
unfolding of_bits
of_bits_is b = refl

subnormal : (s : Bool) (t : ℕ) → of_fields binary64 s 0 t ≡ odd 53 s t 0 1074
unfolding of_fields
subnormal s t = refl

normal : (s : Bool) (x t : ℕ) → T (finite_of (of_fields binary64 s (suc x) t)) → of_fields binary64 s (suc x) t ≡ odd 53 s (4503599627370496 + t) x 1074
unfolding of_fields
normal s x t = go (eqb (suc x) 2047) (eqb t 0)
  where
    go : (b d : Bool) → T (finite_of (cond b (cond d (inf s) nan) (odd 53 s (4503599627370496 + t) x 1074)))
        → cond b (cond d (inf s) nan) (odd 53 s (4503599627370496 + t) x 1074) ≡ odd 53 s (4503599627370496 + t) x 1074
    go true true h = absurd h
    go true false h = absurd h
    go false d h = refl

-- a magnitude of at most 1,000,000 has an exponent of at most 2 ^ (1041 - 1074) for a significand of 53 digits
capped : (q y P : ℕ) → 0 < P → 1042 ≤ y → q * 2 ^ y ≤ 1000000 * (4294967296 * P) → P ≡ 2 ^ 1042 → q ≤ 4294967296000000
capped q y P p h l e =
    let a : q * P ≤ q * 2 ^ y = mul-le-mul_left q (subst (λ (x : ℕ). x ≤ 2 ^ y) (sym e) (pow_mono h)) in
    let b : q * P ≤ 4294967296000000 * P = le_trans a (subst (λ (x : ℕ). q * 2 ^ y ≤ x) (sym (mul_assoc 1000000 4294967296 P)) l) in
    le_of_mul-le-mul_right b p

small : (t : ℕ) → 4503599627370496 + t ≤ 4294967296000000 → ⊥
small t h = omega arith

size_of : (x : Float) (a c : ℕ) → 0 < c → T (about_of (dec 1000000 1) x) → Equals x a c → a ≤ 1000000 * c
size_of nan a c C h v = absurd v
size_of (inf s) a c C h v = absurd v
size_of (fin s m e) a c C h v =
    let b : m * up e * c ≤ 1000000 * down e * c = mul-le-mul_right c (about_size s m e h) in
    le_of_mul-le-mul_right (subst (λ (z : ℕ). a * down e ≤ z) (mul_right_comm 1000000 (down e) c)
    (subst (λ (z : ℕ). z ≤ 1000000 * down e * c) v b)) (down_pos e)

-- ---- the power of two that a shift makes
record Shifted (w d : ℕ) : Type 0 where
  pub is : d ≡ 2 ^ w
  pub even : d / 2 + d / 2 ≡ d
  pub above : 0 < d / 2
  pub below : d / 2 < 9223372036854775808

shifted : (w : ℕ) → 1 ≤ w → w ≤ 63 → Shifted w (1 * 2 ^ w % 18446744073709551616)
shifted zero h l = absurd (omega arith)
shifted (suc v) h l =
    let e : 1 * 2 ^ suc v % 18446744073709551616 ≡ 1 * 2 ^ suc v = shl_exact {a = 1} 1 (suc v) 64 (omega arith) (omega arith) in
    let p : 2 ^ suc v ≡ 2 ^ v + 2 ^ v = two-pow-succ v in
    let t : 2 ^ suc v ≤ 9223372036854775808 = pow_mono {i = suc v} {j = 63} l in
    let z = pow_pos v in
    let o = one-mul (2 ^ suc v) in
    record { is = omega arith; even = omega arith; above = omega arith; below = omega arith }

module _ (x : Float) (F : T (fits binary64 x)) (A : T (about_of (dec 1000000 1) x)) where
  abbrev pub field : ℕ
  field = to_bits binary64 x % 9223372036854775808 / 4503599627370496

  abbrev pub digits : ℕ
  digits = to_bits binary64 x % 4503599627370496

  abbrev sign : Bool
  sign = leb 9223372036854775808 (to_bits binary64 x)

  is : of_fields binary64 sign field digits ≡ x
  is = sym (of_bits_is (to_bits binary64 x)) ∙ of_bits-to_bits binary64 x F

  at_zero : field ≡ 0 → Equals x (digits * 2 ^ 0) (2 ^ 1074)
  at_zero e =
      subst (λ (y : Float). Equals y (digits * 2 ^ 0) (2 ^ 1074))
      (sym (subnormal sign digits) ∙ ap (λ (n : ℕ). of_fields binary64 sign n digits) (sym e) ∙ is) (odd_val 53 sign digits 0 1074)

  above : (y : ℕ) → field ≡ suc y → Equals x ((4503599627370496 + digits) * 2 ^ y) (2 ^ 1074)
  above y e =
      let i : of_fields binary64 sign (suc y) digits ≡ x = ap (λ (n : ℕ). of_fields binary64 sign n digits) (sym e) ∙ is in
      let fi : T (finite_of (of_fields binary64 sign (suc y) digits)) = subst (λ (z : Float). T (finite_of z)) (sym i) (about_finite x A) in
      subst (λ (z : Float). Equals z ((4503599627370496 + digits) * 2 ^ y) (2 ^ 1074)) (sym (normal sign y digits fi) ∙ i)
      (odd_val 53 sign (4503599627370496 + digits) y 1074)

  lowest : (n : ℕ) → field ≡ n → field ≤ 1042
  lowest zero e = omega arith
  lowest (suc y) e = go (leb 1042 y) refl
    where
      go : (b : Bool) → leb 1042 y ≡ b → field ≤ 1042
      go true h =
          let q = 4503599627370496 + digits in
          let s : q * 2 ^ y ≤ 1000000 * (4294967296 * 2 ^ 1042) =
          subst (λ (z : ℕ). q * 2 ^ y ≤ 1000000 * z) (pow-add 2 32 1042) (size_of x _ _ (pow_pos 1074) A (above y e)) in
          let c = capped q y (2 ^ 1042) (pow_pos 1042) (leb-true 1042 y h) s refl in
          absurd (small digits c)
      go false h = let l = leb-false 1042 y h in omega arith

  -- the exponent's field of a magnitude of at most 1,000,000
  pub most : field ≤ 1042
  most = lowest field refl

  module _ (k : ℕ) (K : k ≤ 1000) where
    pub none : field < 1012 → rounded_of k x ≡ 0
    none h = go field refl
      where
        go : (n : ℕ) → field ≡ n → rounded_of k x ≡ 0
        go zero e =
            value k x (digits * 2 ^ 0) (2 ^ 1074) (pow_pos 1074) (at_zero e) ∙ cut k digits 0 1074 refl
            ∙ tiny k digits (2 ^ 1074) K (omega arith) (pow_mono {i = 64} {j = 1074} (omega arith))
        go (suc y) e =
            let q = 4503599627370496 + digits in
            value k x (q * 2 ^ y) (2 ^ 1074) (pow_pos 1074) (above y e) ∙ cut k q y (1074 - y) (omega arith)
            ∙ tiny k q (2 ^ (1074 - y)) K (omega arith) (pow_mono {i = 64} {j = 1074 - y} (omega arith))

    some : (h : ℕ) → 0 < h → h + h ≡ 2 ^ (1075 - field) → 1012 ≤ field → rounded_of k x ≡ (k * (4503599627370496 + digits) + h) / (h + h)
    some h H e l = go field refl
      where
        go : (n : ℕ) → field ≡ n → rounded_of k x ≡ (k * (4503599627370496 + digits) + h) / (h + h)
        go zero i = absurd (omega arith)
        go (suc y) i =
            let q = 4503599627370496 + digits in
            let j : 1075 - field ≡ 1074 - y = omega arith in
            value k x (q * 2 ^ y) (2 ^ 1074) (pow_pos 1074) (above y i) ∙ cut k q y (1074 - y) (let m = most in omega arith)
            ∙ ap (nearest_of k q) (ap (λ (n : ℕ). 2 ^ n) (sym j) ∙ sym e) ∙ half k q h H

    abbrev q : ℕ
    q = 4503599627370496 + to_bits binary64 x % 9223372036854775808 % 4503599627370496

    abbrev d : ℕ
    d = 1 * 2 ^ (1075 - field) % 18446744073709551616

    pub record Works : Type 0 where
      pub product_fits : k * q < 9223372036854775808
      pub half_fits : d / 2 < 9223372036854775808
      pub divides : 0 < d
      pub result : (k * q + d / 2) / d ≡ rounded_of k x

    pub works : 1012 ≤ field → Works
    works l =
        let t = most in
        let p : Shifted (1075 - field) d = shifted (1075 - field) (omega arith) (omega arith) in
        let e = p.even in
        let i : q ≡ 4503599627370496 + digits = omega arith in
        let a = p.above in
        record {
          product_fits = product k q K (omega arith);
          half_fits = p.below;
          divides = omega arith;
          result = ap (λ (n : ℕ). (k * n + d / 2) / d) i ∙ ap (λ (n : ℕ). (k * (4503599627370496 + digits) + d / 2) / n) (sym e)
              ∙ sym (some (d / 2) a (e ∙ p.is) l);
        }
