-- Statements. A double is by value a whole number from m to n exactly where `is_whole` says so, and `nat_of` is that number; a whole number that a u32
-- holds, as a double and back. Assumes nothing.
use Rattle.std.specs.Prelude.{◌≡◌, ℕ, ◌*◌, ◌/◌, ◌≤◌, min, Bool, true, false, ◌&&◌, ◌||◌, T, ◌↔◌, ℤ, pos, ◌==◌, nat_le, Float}
use Rattle.std.proofs.Math.Nat.{eq_of_mul-eq-mul_right, zero-div}
use Rattle.std.proofs.Common.{mul-div_cancel, mul_right_comm, zero-mul, arith, ◌∙◌, true≢false, leb→le, eqb→eq}
use Rattle.std.proofs.Math.Path.{sym, ap}
use Rattle.std.specs.Bool.{beq}
use Rattle.std.proofs.Math.Dec.{le→leb}
use Rattle.std.specs.Float.Ieee.{nan, up, down, binary64, level, eq, of_int, in_float, to_unsigned}
use Rattle.std.specs.Float.{inf, fin}
use Rattle.std.specs.Float.Ieee.Bits.{is_true}
use Rattle.std.specs.Float.Ieee.Exact.{HasValue}
use Rattle.std.specs.Float.Ieee.Fits.{and_l, and_r, down_pos}
use Rattle.std.specs.Float.Ieee.Back.{round_whole, unsigned_back}
use Rattle.number.specs.Number.{finite_of}
use Rattle.number.specs.Order.{eq_self}
use Rattle.fields.specs.Fields.{whole_of, nat_of, is_whole}

-- two numbers that are equal by value, of sizes p and q; the first is 0 where it has a sign that the second has not
same : (r s : Bool) (p q : ℕ) → T (level r p s q) → p ≡ q
same r s p q t = eqb→eq p q (and_l (p == q) (beq r s || p == 0) t)

none : (s : Bool) (p q : ℕ) → s ≡ false → T (level true p s q) → p ≡ 0
none true p q e t = absurd (true≢false e)
none false p q e t = eqb→eq p 0 (and_r (p == q) (p == 0) t)

module _ (n : ℕ) (h : n ≤ 4294967295) where
  has_value : HasValue (whole_of n) false n 1
  unfolding of_int
  has_value = round_whole binary64 false n (omega arith)

  whole_finite : T (finite_of (whole_of n))
  whole_finite = go (whole_of n) has_value
    where
      go : (x : Float) → HasValue x false n 1 → T (finite_of x)
      go nan v = v
      go (inf s) v = v
      go (fin s m e) v = tt

  in_float_lem : T (in_float binary64 (pos n))
  unfolding in_float
  in_float_lem = le→leb n 9007199254740992 (omega arith)

  pub nat_whole : nat_of (whole_of n) ≡ n
  unfolding nat_of
  nat_whole = (unsigned_back binary64 32 n in_float_lem (omega arith)).1

  pub whole_is_whole : (l m : ℕ) → l ≤ n → n ≤ m → is_whole l m (whole_of n) ≡ true
  unfolding is_whole
  whole_is_whole l m j k =
      let e = is_true (eq (whole_of n) (whole_of n)) (eq_self (whole_of n) whole_finite) in
      rw (nat_whole, e, is_true (nat_le l n) (le→leb l n j), is_true (nat_le n m) (le→leb n m k))

  -- a size a / c that is n
  cut : (m : ℕ) (e : ℤ) (a : ℕ) (d : ℤ) → m * up e * down d ≡ a * up d * down e → a * up d * 1 ≡ n * down d → m * up e / down e ≡ n
  cut m e a d i v =
      let w : m * up e * down d ≡ n * down e * down d
      = i ∙ ap (λ (q : ℕ). q * down e) (omega (arith, v)) ∙ mul_right_comm n (down d) (down e) in
      ap (λ (q : ℕ). q / down e) (eq_of_mul-eq-mul_right (down d) (down_pos d) (m * up e) (n * down e) w) ∙ mul-div_cancel n (down_pos e)

  capped : (q : ℕ) → q ≡ n → min q 4294967295 ≡ n
  capped q e = omega arith

  -- what is n by value is n as a u32
  pub nat_exactly : (x : Float) → T (eq x (whole_of n)) → nat_of x ≡ n
  unfolding nat_of eq to_unsigned
  nat_exactly x t = go x (whole_of n) t has_value
    where
      go : (x y : Float) → T (eq x y) → HasValue y false n 1 → nat_of x ≡ n
      go x nan t v = absurd v
      go x (inf s) t v = absurd v
      go nan (fin s a d) t v = absurd t
      go (inf r) (fin s a d) t v = absurd t
      go (fin false m e) (fin s a d) t v = capped (m * up e / down e) (cut m e a d (same false s (m * up e * down d) (a * up d * down e) t) v.1)
      go (fin true m e) (fin s a d) t v =
          let i = same true s (m * up e * down d) (a * up d * down e) t in
          let z = none s (m * up e * down d) (a * up d * down e) v.0 t in
          let u : m * up e ≡ 0 = eq_of_mul-eq-mul_right (down d) (down_pos d) (m * up e) 0 (z ∙ sym (zero-mul (down d))) in
          sym (zero-div (down e)) ∙ ap (λ (q : ℕ). q / down e) (sym u) ∙ cut m e a d i v.1

-- by value, so −0 is 0
pub whole_exactly : (m n : ℕ) → n ≤ 4294967295 → (x : Float) → (is_whole m n x ≡ true) ↔ ((k : ℕ) × (m ≤ k) × (k ≤ n) × T (eq x (whole_of k)))
unfolding is_whole
whole_exactly m n h x = (there, back)
  where
    there : is_whole m n x ≡ true → (k : ℕ) × (m ≤ k) × (k ≤ n) × T (eq x (whole_of k))
    there e =
        let k = nat_of x in
        let t : T (is_whole m n x) = rw e tt in
        let r = and_r (eq x (whole_of k)) (nat_le m k && nat_le k n) t in
        (k, leb→le m k (and_l (nat_le m k) (nat_le k n) r), leb→le k n (and_r (nat_le m k) (nat_le k n) r), and_l (eq x (whole_of k)) (nat_le m k && nat_le k n) t)

    back : (k : ℕ) × (m ≤ k) × (k ≤ n) × T (eq x (whole_of k)) → is_whole m n x ≡ true
    back (k, j, l, t) =
        rw (nat_exactly k (omega arith) x t, is_true (eq x (whole_of k)) t, is_true (nat_le m k) (le→leb m k j), is_true (nat_le k n) (le→leb k n l))
