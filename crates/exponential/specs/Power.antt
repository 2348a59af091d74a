-- Statements. The rule of the powers of two, `power-bits`: for n = i − 1010 from −1010 to 1010, the double whose exponent field is n + 1023 and
-- whose 52 digits are 0 is 2 ^ n. Assumes nothing.
use Rattle.std.specs.Prelude.{◌≡◌, refl, ℕ, suc, ◌+◌, ◌-◌, ◌*◌, ◌/◌, ◌%◌, ◌≤◌, ◌<◌, Bool, false, cond, T, leb, eqb}
use Rattle.std.proofs.Common.{ap, ◌∙◌, not-le_of_lt, mod-eq_of_lt, arith, leb→le, eqb→eq}
use Rattle.std.proofs.Math.Dec.{not_T}
use Rattle.std.specs.Float.{nan, inf, fin, binary64}
use Rattle.std.specs.Float.Ieee.{odd, of_fields, of_bits, minus}
use Rattle.std.specs.Float.Ieee.Bits.{is_false, cond_no}
use Rattle.exponential.specs.Exp.{power}
use Rattle.exponential.specs.Shift.{minus_shift}

of_bits_is : (b : ℕ) → of_bits binary64 b ≡ of_fields binary64 (leb 9223372036854775808 b) (b % 9223372036854775808 / 4503599627370496) (b % 4503599627370496)
unfolding of_bits
of_bits_is b = refl

under_ones : (t x : ℕ) → suc x < 2047 → of_fields binary64 false (suc x) t ≡ odd 53 false (4503599627370496 + t) x 1074
unfolding of_fields
under_ones t x l =
    cond_no (eqb (suc x) 2047) (cond (eqb t 0) (inf false) nan) (odd 53 false (4503599627370496 + t) x 1074)
    (not_T (eqb (suc x) 2047) (λ (u : T (eqb (suc x) 2047)). differ (eqb→eq (suc x) 2047 u)))
  where
    differ : suc x ≡ 2047 → ⊥
    differ i = omega arith

-- a normal double above 0, by its field and digits
pub normal : (b : ℕ) → 4503599627370496 ≤ b → b < 9218868437227405312
    → of_bits binary64 b ≡ odd 53 false (4503599627370496 + b % 4503599627370496) (b / 4503599627370496 - 1) 1074
normal b h k =
    let small : b < 9223372036854775808 = omega arith in
    let e : b / 4503599627370496 ≡ suc (b / 4503599627370496 - 1) = omega arith in
    let sign = leb 9223372036854775808 b in
    of_bits_is b
    ∙ ap (λ (s : Bool). of_fields binary64 s (b % 9223372036854775808 / 4503599627370496) (b % 4503599627370496))
    (is_false sign (not_T sign (λ (u : T sign). not-le_of_lt small (leb→le 9223372036854775808 b u))))
    ∙ ap (λ (x : ℕ). of_fields binary64 false (x / 4503599627370496) (b % 4503599627370496)) (mod-eq_of_lt small)
    ∙ ap (λ (x : ℕ). of_fields binary64 false x (b % 4503599627370496)) e
    ∙ under_ones (b % 4503599627370496) (b / 4503599627370496 - 1) (omega arith)

no_digits : (x : ℕ) → odd 53 false 4503599627370496 x 1074 ≡ fin false 1 (minus (x + 52) 1074)
unfolding odd
no_digits x = refl

pub power_bits : (i : ℕ) → i < 2021 → of_bits binary64 ((i + 13) * 4503599627370496) ≡ power i
power_bits i h =
    let b = (i + 13) * 4503599627370496 in
    let d : 4503599627370496 + b % 4503599627370496 ≡ 4503599627370496 = omega arith in
    let f : b / 4503599627370496 - 1 ≡ i + 12 = omega arith in
    let e : i + 12 + 52 ≡ i + 64 = omega arith in
    normal b (omega arith) (omega arith)
    ∙ ap (λ (x : ℕ). odd 53 false x (b / 4503599627370496 - 1) 1074) d
    ∙ ap (λ (x : ℕ). odd 53 false 4503599627370496 x 1074) f
    ∙ no_digits (i + 12)
    ∙ ap (λ (x : ℕ). fin false 1 (minus x 1074)) e
    ∙ ap (fin false 1) (minus_shift i 1010 64)
