-- Lemmas. A vector of the bits of (0, 1, 0), with zeros of either sign, is a unit vector already. Assumes nothing.
use mathlib.Core.Path.{◌≡◌, refl, sym, ap, ◌∙◌, subst}
use Prim.Native.Nat.{ℕ, ◌%◌, ◌<◌, ◌≤◌}
use native.Mathlib.Omega.{arith}
use mathlib.Core.Bool.{Bool, true, false, not}
use mathlib.Core.Logic.{◌⊎◌, inl, inr}
use lib.Dec.{T, ltb, ltb→lt, nltb→le}
use lib.Ieee.{Float, binary64, of_bits, to_bits, fits, round, add, mul, div}
use lib.Ieee.Bits.{of_bits-to_bits, to_bits-lt}
use Rattle.root.specs.Root.{root_of}
use Rattle.vector.specs.Vec.{vec, vscale, vdot, vlength, vnormalize}

-- a zero of either sign
abbrev pub Zero : Float → Type 0
Zero x = (of_bits binary64 0 ≡ x) ⊎ (of_bits binary64 9223372036854775808 ≡ x)

zero : (x : Float) → T (fits binary64 x) → to_bits binary64 x % 9223372036854775808 ≡ 0 → Zero x
zero x f h =
    let b = to_bits binary64 x in
    let l : b < 18446744073709551616 = to_bits-lt binary64 x f in
    let e : of_bits binary64 b ≡ x = of_bits-to_bits binary64 x f in
    elim (low b h l) [
      | inl p ↦ inl (ap (of_bits binary64) (sym p) ∙ e)
      | inr p ↦ inr (ap (of_bits binary64) (sym p) ∙ e)
    ]
  where
    low : (b : ℕ) → b % 9223372036854775808 ≡ 0 → b < 18446744073709551616 → (b ≡ 0) ⊎ (b ≡ 9223372036854775808)
    low b h l = go (ltb b 9223372036854775808) (ltb→lt b 9223372036854775808) (nltb→le b 9223372036854775808)
      where
        go : (t : Bool) → (T t → b < 9223372036854775808) → (T (not t) → 9223372036854775808 ≤ b) → (b ≡ 0) ⊎ (b ≡ 9223372036854775808)
        go true p q = let k = p tt in inl (omega (arith, h, k))
        go false p q = let k = q tt in inr (omega (arith, h, k, l))

-- it is its own unit vector
Unit : Float → Float → Float → Type 0
Unit x y z = vnormalize (vec x y z) ≡ vec x y z

abbrev one : Float
one = of_bits binary64 4607182418800017408

abbrev zero+ : Float
zero+ = of_bits binary64 0

abbrev zero- : Float
zero- = of_bits binary64 9223372036854775808

both : (a b x z : Float) → a ≡ x → b ≡ z → Unit a one b → Unit x one z
both a b x z p q u = subst (λ (c : Float). Unit c one z) p (subst (λ (c : Float). Unit a one c) q u)

units : (x z : Float) → Zero x → Zero z → Unit x one z
unfolding Unit vnormalize vscale vlength vdot root_of of_bits round add mul div
units x z (inl p) (inl q) = both zero+ zero+ x z p q refl
units x z (inl p) (inr q) = both zero+ zero- x z p q refl
units x z (inr p) (inl q) = both zero- zero+ x z p q refl
units x z (inr p) (inr q) = both zero- zero- x z p q refl

pub level : (x y z : Float) → T (fits binary64 x) → T (fits binary64 y) → T (fits binary64 z)
    → to_bits binary64 x % 9223372036854775808 ≡ 0 → to_bits binary64 z % 9223372036854775808 ≡ 0 → to_bits binary64 y ≡ 4607182418800017408
    → vnormalize (vec x y z) ≡ vec x y z
unfolding Unit
level x y z f g h a c b =
    subst (λ (d : Float). Unit x d z) (ap (of_bits binary64) (sym b) ∙ of_bits-to_bits binary64 y g) (units x z (zero x f a) (zero z h c))
