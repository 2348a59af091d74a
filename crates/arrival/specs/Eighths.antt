-- Lemmas. The places x · i / 8 of a positive double x, each product and quotient rounded: they rise with i, from 0 to x. Assumes nothing.
use Rattle.std.specs.Prelude.{ℕ, suc, ◌+◌, ◌*◌, ◌^◌, ◌≤◌, ◌<◌, ◌≡◌, refl, true, T, ℤ, pos, negsuc, Float}
use Rattle.std.proofs.Common.{mul-one, mul-pos, mul_comm, mul-le-mul_left, mul-le-mul_right, lt_of_le_of_lt, mul-lt-mul_of_pos_right, zero-lt-suc, arith, sym, ap, subst, ◌∙◌, lit<, pow-add}
use Rattle.std.proofs.Math.Bool.{false}
use Rattle.std.specs.Float.{nan, inf, fin}
use Rattle.std.specs.Float.Ieee.{binary64, emax, low, up, down, round, of_int, fits, lt, le, mul, div}
use Rattle.std.specs.Float.Ieee.Exact.{HasValue}
use Rattle.std.specs.Float.Ieee.Fits.{down_pos}
use Rattle.std.specs.Float.Ieee.Order.{round_mono}
use Rattle.std.specs.Float.Ieee.Scale.{round_same}
use Rattle.number.specs.Ops.{◌⊗◌, ◌⊘◌, dec}
use Rattle.number.specs.Number.{finite_of}
use Rattle.number.specs.Order.{le→, between_finite}
use Rattle.number.specs.Rounding.{mul_mono, round_self, exactly, on_grid}
use Rattle.surface.specs.RoundingError.{mul_of}

eight : dec 8 1 ≡ fin false 1 (pos 3)
unfolding round
eight = refl

an_eighth : dec 1 8 ≡ fin false 1 (negsuc 2)
unfolding round
an_eighth = refl

-- by 8 is times 1/8
eighth : (x : Float) → T (finite_of x) → x ⊘ dec 8 1 ≡ x ⊗ dec 1 8
unfolding div mul
eighth nan i = elim i [ ]
eighth (inf _) i = elim i [ ]
eighth (fin true m e) i = ap (div binary64 (fin true m e)) eight ∙ ap (round binary64 true (m * up e * 1)) (mul_comm 8 (down e)) ∙ sym
    (ap (mul binary64 (fin true m e)) an_eighth)
eighth (fin false m e) i = ap (div binary64 (fin false m e)) eight ∙ ap (round binary64 false (m * up e * 1)) (mul_comm 8 (down e)) ∙ sym
    (ap (mul binary64 (fin false m e)) an_eighth)

eighth_mono : (x y : Float) → T (finite_of x) → T (finite_of y) → T (le x y) → T (le (x ⊘ dec 8 1) (y ⊘ dec 8 1))
eighth_mono x y i j h = rw (eighth x i, eighth y j) (mul_mono x y (dec 1 8) i j (unfold round in tt) h (unfold round in unfold le in tt))

zero_eighth : dec 0 1 ⊘ dec 8 1 ≡ dec 0 1
unfolding div round
zero_eighth = refl

value_finite : (y : Float) (a c : ℕ) → HasValue y false a c → T (finite_of y)
value_finite nan a c v = v
value_finite (inf s) a c v = v
value_finite (fin s m e) a c v = tt

whole_value : (i : ℕ) → i ≤ 8 → HasValue (of_int binary64 (pos i)) false i 1
unfolding of_int
whole_value i h = exactly binary64 false i 1 i (low binary64) (zero-lt-suc 0) (omega arith) (sym (mul-one _)) (lt_of_le_of_lt h (lit< tt))

abbrev pub times_of : Float → ℕ → Float
times_of x i = x ⊗ of_int binary64 (pos i)

abbrev pub eighths_of : Float → ℕ → Float
eighths_of x i = times_of x i ⊘ dec 8 1

-- eight times a double is a double
eight_grid : (X E l q w : ℕ) → X * l ≡ q * w * E → X * 8 * l ≡ q * (w * 8) * (E * 1)
eight_grid X E l q w h = omega arith

eight_small : (X E : ℕ) → 0 < E * 1 → X ≤ 1000000 * E → X * 8 < 2 ^ suc (emax binary64) * (E * 1)
eight_small X E p h =
    let a : X * 8 ≤ 8000000 * (E * 1) = omega arith in
    lt_of_le_of_lt a (mul-lt-mul_of_pos_right (lit< tt) p)

-- 0 ≤ x · i / 8 ≤ x · j / 8 for i ≤ j ≤ 8, and x · 8 / 8 is x
pub record Eighths (x : Float) : Type 0 where
  pub rising : (i j : ℕ) → i ≤ j → j ≤ 8 → T (le (eighths_of x i) (eighths_of x j))
  pub from_0 : (i : ℕ) → i ≤ 8 → T (le (dec 0 1) (eighths_of x i))
  pub last : eighths_of x 8 ≡ x

module _ (m : ℕ) (e : ℤ) (double : T (fits binary64 (fin false m e))) (small : m * up e ≤ 1000000 * down e) where
  product : (i : ℕ) → i ≤ 8 → times_of (fin false m e) i ≡ round binary64 false (m * up e * i) (down e * 1)
  product i h = mul_of binary64 (fin false m e) (of_int binary64 (pos i)) (m * up e) (down e) i 1 (down_pos e) (zero-lt-suc 0) (refl, refl) (whole_value i h)

  positive : 0 < down e * 1
  positive = mul-pos (down_pos e) (zero-lt-suc 0)

  full : HasValue (times_of (fin false m e) 8) false (m * up e * 8) (down e * 1)
  full =
      let g = on_grid binary64 false m e double in
      rw (product 8 (omega arith))
      (exactly binary64 false (m * up e * 8) (down e * 1) g.q (g.j + 3) positive g.short
      (rw (pow-add 2 g.j 3) (eight_grid (m * up e) (down e) (2 ^ low binary64) g.q (2 ^ g.j) g.same))
      (eight_small (m * up e) (down e) positive small))

  ordered : (i j : ℕ) → i ≤ j → j ≤ 8 → T (le (times_of (fin false m e) i) (times_of (fin false m e) j))
  ordered i j h k =
      rw (product i (omega arith), product j k)
      (round_mono binary64 (m * up e * i) (down e * 1) (m * up e * j) (down e * 1) positive positive
      (mul-le-mul_right (down e * 1) (mul-le-mul_left (m * up e) h)))

  above_0 : (i : ℕ) → i ≤ 8 → T (le (dec 0 1) (times_of (fin false m e) i))
  above_0 i h = rw (product i h) (round_mono binary64 0 1 (m * up e * i) (down e * 1) (zero-lt-suc 0) positive (omega arith))

  finite : (i : ℕ) → i ≤ 8 → T (finite_of (times_of (fin false m e) i))
  finite i h =
      between_finite (dec 0 1) (times_of (fin false m e) 8) (times_of (fin false m e) i) (unfold round in tt)
      (value_finite (times_of (fin false m e) 8) (m * up e * 8) (down e * 1) full) (above_0 i h) (ordered i 8 h (omega arith))

  eighths_fin : Eighths (fin false m e)
  eighths_fin =
      record {
        rising = λ i j h k. eighth_mono (times_of (fin false m e) i) (times_of (fin false m e) j) (finite i (omega arith)) (finite j k) (ordered i j h k);
        from_0 = λ i h. subst (λ (z : Float). T (le z (eighths_of (fin false m e) i))) zero_eighth
            (eighth_mono (dec 0 1) (times_of (fin false m e) i) (unfold round in tt) (finite i h) (above_0 i h));
        last = eighth (times_of (fin false m e) 8) (finite 8 (omega arith))
            ∙ mul_of binary64 (times_of (fin false m e) 8) (dec 1 8) (m * up e * 8) (down e * 1) 1 8 positive (zero-lt-suc 7) full
            (unfold round in (refl, refl))
            ∙ round_same binary64 false (m * up e * 8 * 1) (down e * 1 * 8) (m * up e) (down e) (mul-pos positive (zero-lt-suc 7)) (down_pos e) (omega arith)
            ∙ round_self binary64 false m e double;
      }

-- of a positive double of at most 1,000,000
pub eighths : (x : Float) → T (fits binary64 x) → T (lt (dec 0 1) x) → T (le x (dec 1000000 1)) → Eighths x
eighths nan f p q = absurd (unfold round in unfold lt in p)
eighths (inf true) f p q = absurd (unfold round in unfold lt in p)
eighths (inf false) f p q = absurd (unfold round in unfold le in q)
eighths (fin true m e) f p q = absurd (unfold round in unfold lt in p)
eighths (fin false m e) f p q = let l = le→ false m e false 15625 (pos 6) (unfold round in q) in eighths_fin m e f (omega arith)
