-- Lemmas. Rounding and the order of doubles: rounding is monotone and leaves a double as it is, sums and products are monotone and commute, and the
-- middle of two doubles lies within them. Assumes nothing.
use Rattle.std.specs.Prelude.{◌≡◌, ℕ, zero, suc, ◌+◌, ◌-◌, ◌*◌, ◌/◌, ◌%◌, ◌^◌, ◌<◌, ◌≤◌, Bool, true, false, cond, not, ◌&&◌, T, ltb, leb, ℤ, pos, negsuc, ◌==◌, from_bits, nat_eq, nat_le, nat_lt, refl, Float}
use Rattle.std.proofs.Common.{sym, subst, ◌∙◌, lt_of_le_of_lt, add_comm, le_of_eq, le_antisymm, add-mul, mul-le-mul_right, lt_of_lt_of_le, le_of_mul-le-mul_right, zero-lt-suc, lt_irrefl, lt_of_not-le, le_of_suc-le-suc, lt_of_mul-lt-mul_right, mul-lt-mul_of_pos_right, mul-one, one-mul, mul-zero, zero-mul, mul_comm, mul_assoc, mul_left_comm, mul_right_comm, mul-pos, arith, ltb→lt, nltb→le, leb→le, lit<, pow-add, pow_pos}
use Rattle.std.proofs.Math.Path.{ap}
use Prim.Native.Nat.{zero-le, compare}
use Rattle.std.proofs.Math.Nat.{eq_of_mul-eq-mul_right, pow-succ'}
use Rattle.std.proofs.Math.Pow.{pow-lt}
use Rattle.std.specs.Float.{nan, inf, fin, Format, binary32, binary64}
use Rattle.std.specs.Float.Ieee.{prec, emax, low, up, down, unlike, top, hid, size, nearest, odd, units, round, sum, add, sub, mul, neg, le, fits, to_bits}
use Rattle.std.specs.Float.Ieee.Bits.{of_bits-to_bits}
use Rattle.std.specs.Float.Ieee.Digits.{back}
use Rattle.std.specs.Float.Ieee.Exact.{HasValue, round_exact}
use Rattle.std.specs.Float.Ieee.Fits.{down_pos, and_l, and_r, round-fits, round_is}
use Rattle.std.specs.Float.Ieee.Nearest.{div_same}
use Rattle.std.specs.Float.Ieee.Order.{round_mono}
use Rattle.std.specs.Float.Ieee.Scale.{round_same}
use Rattle.number.specs.Ops.{◌⊕◌, ◌⊖◌, ◌⊗◌, dec}
use Rattle.number.specs.Number.{finite_of, within_of, about_of}
use Rattle.number.specs.Order.{pp, np, Le, le→, le_through, neg-le, neg_finite, scale, together, apart, both_zero, le_self, within_of_lem, within_lo, within_hi, between_finite, within_finite}

-- ---- two doubles of the same sign and size are the same
abbrev bits_of : Format → Bool → ℕ → ℕ
bits_of f s n = let k = size n - prec f in cond s (top f) 0 + k * hid f + n / 2 ^ k

value_bits : (f : Format) (x : Float) (s : Bool) (a c : ℕ) → 0 < c → HasValue x s a c → to_bits f x ≡ bits_of f s (a * 2 ^ low f / c)
unfolding to_bits
value_bits f nan s a c C v = absurd v
value_bits f (inf t) s a c C v = absurd v
value_bits f (fin t m e) s a c C v =
    ap (λ (u : Bool). bits_of f u (m * up e * 2 ^ low f / down e)) v.0
    ∙ ap (bits_of f s) (div_same (m * up e * 2 ^ low f) (down e) (a * 2 ^ low f) c (down_pos e) C
    (mul_right_comm (m * up e) (2 ^ low f) c ∙ ap (λ (z : ℕ). z * 2 ^ low f) v.1 ∙ mul_right_comm a (down e) (2 ^ low f)))

pub value_unique : (f : Format) (x y : Float) (s : Bool) (a c : ℕ) → 0 < c → T (fits f x) → T (fits f y) → HasValue x s a c → HasValue y s a c → x ≡ y
value_unique f x y s a c C p q v w =
    sym (of_bits-to_bits f x p) ∙ ap (from_bits f) (value_bits f x s a c C v ∙ sym (value_bits f y s a c C w)) ∙ of_bits-to_bits f y q

-- ---- a finite double is q * 2 ^ j times the smallest positive double, with a q of no more digits than the format keeps
pow_le_back : (a l : ℕ) → 2 ^ a ≤ 2 ^ l → a ≤ l
pow_le_back a l h = le_of_suc-le-suc (lt_of_not-le (λ (g : suc l ≤ a). lt_irrefl (2 ^ l) (lt_of_lt_of_le (pow-lt g) h)))

place : (l : ℕ) (e : ℤ) → down e ≤ 2 ^ l → (j : ℕ) × ((m : ℕ) → m * up e * 2 ^ l ≡ m * 2 ^ j * down e)
place l (pos a) h = (a + l, λ m. mul_assoc m (2 ^ a) (2 ^ l) ∙ ap (λ (x : ℕ). m * x) (sym (pow-add 2 a l)) ∙ sym (mul-one (m * 2 ^ (a + l))))
place l (negsuc a) h = (
  l - suc a,
  λ m.
      ap (λ (x : ℕ). x * 2 ^ l) (mul-one m)
      ∙ ap (λ (x : ℕ). m * x) (ap (λ (x : ℕ). 2 ^ x) (sym (back l (suc a) (pow_le_back (suc a) l h))) ∙ pow-add 2 (l - suc a) (suc a))
      ∙ sym (mul_assoc m (2 ^ (l - suc a)) (2 ^ suc a)),
)

pub record Grid (f : Format) (m : ℕ) (e : ℤ) : Type 0 where
  pub q : ℕ
  pub j : ℕ
  pub short : q < 2 ^ prec f
  pub same : m * up e * 2 ^ low f ≡ q * 2 ^ j * down e

pub on_grid : (f : Format) (s : Bool) (m : ℕ) (e : ℤ) → T (fits f (fin s m e)) → Grid f m e
unfolding fits
on_grid f s zero e h = record { q = 0; j = 0; short = pow_pos (prec f); same = ap (λ (z : ℕ). z * 2 ^ low f) (zero-mul (up e)) ∙ zero-mul (2 ^ low f) ∙ sym (zero-mul (down e)) }
on_grid f s (suc m) e h =
    let A = nat_eq (suc m % 2) 1 in
    let B = ltb (suc m) (2 ^ prec f) in
    let C = leb (down e) (2 ^ low f) in
    let D = ltb (suc m * up e) (2 ^ suc (emax f) * down e) in
    let k = place (low f) e (leb→le (down e) (2 ^ low f) (and_r (A && B) C (and_l (A && B && C) D h))) in
    record { q = suc m; j = k.0; short = ltb→lt (suc m) (2 ^ prec f) (and_r A B (and_l (A && B) C (and_l (A && B && C) D h))); same = k.1 (suc m) }

-- its size is below 2 ^ (emax + 1)
pub in_reach : (f : Format) (s : Bool) (m : ℕ) (e : ℤ) → T (fits f (fin s m e)) → m * up e < 2 ^ suc (emax f) * down e
unfolding fits
in_reach f s zero e h = subst (λ (z : ℕ). z < 2 ^ suc (emax f) * down e) (sym (zero-mul (up e))) (mul-pos (pow_pos (suc (emax f))) (down_pos e))
in_reach f s (suc m) e h = ltb→lt (suc m * up e) (2 ^ suc (emax f) * down e) (and_r (suc m % 2 == 1 && nat_lt (suc m) (2 ^ prec f) && nat_le (down e) (2 ^ low f)) (nat_lt (suc m * up e) (2 ^ suc (emax f) * down e)) h)

-- a fraction a / c below 2 ^ (emax + 1) that is q * 2 ^ j smallest values is rounded to its own value
pub exactly : (f : Format) (s : Bool) (a c q j : ℕ) → 0 < c → q < 2 ^ prec f → a * 2 ^ low f ≡ q * 2 ^ j * c → a < 2 ^ suc (emax f) * c → HasValue (round f s a c) s a c
exactly f s a c q j C short same small =
    round_exact f s a c q j C short
    (lt_of_mul-lt-mul_right c
    (subst (λ (z : ℕ). z < 2 ^ (low f + suc (emax f)) * c) same
    (subst (λ (z : ℕ). a * 2 ^ low f < z) (mul_right_comm (2 ^ suc (emax f)) c (2 ^ low f) ∙ ap (λ (z : ℕ). z * c) (mul_comm (2 ^ suc (emax f)) (2 ^ low f) ∙ sym (pow-add 2 (low f) (suc (emax f)))))
    (mul-lt-mul_of_pos_right small (pow_pos (low f))))))
    same

-- ---- a double rounds to itself
pub round_self : (f : Format) (s : Bool) (m : ℕ) (e : ℤ) → T (fits f (fin s m e)) → round f s (m * up e) (down e) ≡ fin s m e
round_self f s m e h =
    let g = on_grid f s m e h in
    value_unique f (round f s (m * up e) (down e)) (fin s m e) s (m * up e) (down e) (down_pos e) (round-fits f s (m * up e) (down e)) h
    (exactly f s (m * up e) (down e) g.q g.j (down_pos e) g.short g.same (in_reach f s m e h)) (refl, refl)

-- ---- the sign goes through rounding
odd_neg : (d q k l : ℕ) → odd d true q k l ≡ neg (odd d false q k l)
unfolding odd neg
odd_neg d zero k l = refl
odd_neg d (suc q) k l = refl

units_neg : (f : Format) (q k : ℕ) → units f true q k ≡ neg (units f false q k)
unfolding units neg
units_neg f q k = go (nat_lt (q * 2 ^ k) (2 ^ (low f + suc (emax f))))
  where
    go : (b : Bool) → cond b (odd (suc (prec f)) true q k (low f)) (inf true) ≡ neg (cond b (odd (suc (prec f)) false q k (low f)) (inf false))
    go true = odd_neg (suc (prec f)) q k (low f)
    go false = refl

pub round-neg : (f : Format) (a c : ℕ) → round f true a c ≡ neg (round f false a c)
round-neg f a c =
    let n = a * 2 ^ low f in
    let k = size (n / c) - prec f in
    round_is f true a c ∙ units_neg f (nearest (n / (c * 2 ^ k)) (compare (n % (c * 2 ^ k) * 2) (c * 2 ^ k))) k ∙ ap neg (sym (round_is f false a c))

-- ---- rounding keeps the order: ±a / c ≤ ±b / d
zero_round : (f : Format) → round f false 0 1 ≡ fin false 0 (pos 0)
unfolding round
zero_round binary32 = refl
zero_round binary64 = refl

round_ge_zero : (f : Format) (a c : ℕ) → 0 < c → T (le (fin false 0 (pos 0)) (round f false a c))
round_ge_zero f a c C = subst (λ (z : Float). T (le z (round f false a c))) (zero_round f) (round_mono f 0 1 a c (zero-lt-suc 0) C (subst (λ (z : ℕ). z ≤ a * 1) (sym (zero-mul c)) zero-le))

round-le_zero : (f : Format) (a c : ℕ) → 0 < c → a ≤ 0 → T (le (round f false a c) (fin false 0 (pos 0)))
round-le_zero f a c C h = subst (λ (z : Float). T (le (round f false a c) z)) (zero_round f) (round_mono f a c 0 1 C (zero-lt-suc 0) (omega (arith, zero-mul c)))

le_zeros : (s t : Bool) → T (le (fin s 0 (pos 0)) (fin t 0 (pos 0)))
unfolding le
le_zeros true true = tt
le_zeros true false = tt
le_zeros false true = tt
le_zeros false false = tt

turned : (f : Format) (a c : ℕ) (x : Float) → T (le x (round f false a c)) → T (le (round f true a c) (neg x))
turned f a c x h = subst (λ (z : Float). T (le z (neg x))) (sym (round-neg f a c)) (neg-le x (round f false a c) h)

turned' : (f : Format) (a c : ℕ) (x : Float) → T (le (round f false a c) x) → T (le (neg x) (round f true a c))
turned' f a c x h = subst (λ (z : Float). T (le (neg x) z)) (sym (round-neg f a c)) (neg-le (round f false a c) x h)

nought : (x D : ℕ) → 0 < D → x * D ≤ 0 → x ≤ 0
nought x D d h = le_of_mul-le-mul_right (subst (λ (z : ℕ). x * D ≤ z) (sym (zero-mul D)) h) d

pub round-le : (f : Format) (s : Bool) (a c : ℕ) (t : Bool) (b d : ℕ) → 0 < c → 0 < d → Le s (a * d) t (b * c) → T (le (round f s a c) (round f t b d))
unfolding neg
round-le f false a c false b d C D h = round_mono f a c b d C D (omega arith)
round-le f true a c true b d C D h = subst (λ (z : Float). T (le (round f true a c) z)) (sym (round-neg f b d)) (turned f a c (round f false b d) (round_mono f b d a c D C (omega arith)))
round-le f true a c false b d C D h =
    le_through (round f true a c) (fin true 0 (pos 0)) (round f false b d) (turned f a c (fin false 0 (pos 0)) (round_ge_zero f a c C))
    (le_through (fin true 0 (pos 0)) (fin false 0 (pos 0)) (round f false b d) (le_zeros true false) (round_ge_zero f b d D))
round-le f false a c true b d C D h =
    le_through (round f false a c) (fin false 0 (pos 0)) (round f true b d) (round-le_zero f a c C (nought a d D (omega arith)))
    (le_through (fin false 0 (pos 0)) (fin true 0 (pos 0)) (round f true b d) (le_zeros false true) (turned' f b d (fin false 0 (pos 0)) (round-le_zero f b d D (nought b c C (omega arith)))))

-- ---- a fraction between two doubles rounds to a double between them. x ≤ ±a / c, and ±a / c ≤ x:
abbrev pub AtMost : Float → Bool → ℕ → ℕ → Type 0
AtMost nan s a c = ⊥
AtMost (inf t) s a c = ⊥
AtMost (fin t m e) s a c = Le t (m * up e * c) s (a * down e)

abbrev pub AtLeast : Float → Bool → ℕ → ℕ → Type 0
AtLeast nan s a c = ⊥
AtLeast (inf t) s a c = ⊥
AtLeast (fin t m e) s a c = Le s (a * down e) t (m * up e * c)

pub round_above : (f : Format) (x : Float) (s : Bool) (a c : ℕ) → T (fits f x) → 0 < c → AtMost x s a c → T (le x (round f s a c))
round_above f nan s a c i C h = absurd h
round_above f (inf t) s a c i C h = absurd h
round_above f (fin t m e) s a c i C h = subst (λ (z : Float). T (le z (round f s a c))) (round_self f t m e i) (round-le f t (m * up e) (down e) s a c (down_pos e) C h)

pub round_below : (f : Format) (x : Float) (s : Bool) (a c : ℕ) → T (fits f x) → 0 < c → AtLeast x s a c → T (le (round f s a c) x)
round_below f nan s a c i C h = absurd h
round_below f (inf t) s a c i C h = absurd h
round_below f (fin t m e) s a c i C h = subst (λ (z : Float). T (le (round f s a c) z)) (round_self f t m e i) (round-le f s a c t (m * up e) (down e) C (down_pos e) h)

pub round_between : (f : Format) (x y : Float) (s : Bool) (a c : ℕ) → T (fits f x) → T (fits f y) → 0 < c → AtMost x s a c → AtLeast y s a c → T (within_of x y (round f s a c))
round_between f x y s a c i j C p q = within_of_lem x y (round f s a c) (round_above f x s a c i C p) (round_below f y s a c j C q)

-- ---- a product with 1
pub times_one : (x : Float) → T (fits binary64 x) → x ⊗ dec 1 1 ≡ x
unfolding mul round
times_one nan i = refl
times_one (inf true) i = refl
times_one (inf false) i = refl
times_one (fin true m e) i = rw (mul-one (m * up e), mul-one (down e)) (round_self binary64 true m e i)
times_one (fin false m e) i = rw (mul-one (m * up e), mul-one (down e)) (round_self binary64 false m e i)

-- ---- a sum is a fraction ±m / c rounded, the exact sum of ±a / c and ±b / c
pub record Summed (f : Format) (s : Bool) (a : ℕ) (t : Bool) (b c : ℕ) : Type 0 where
  pub sign : Bool
  pub size : ℕ
  pub is : sum f s a t b c ≡ round f sign size c
  pub exact : pp sign size + (np s a + np t b) ≡ pp s a + pp t b + np sign size

pub summed : (f : Format) (s : Bool) (a : ℕ) (t : Bool) (b c : ℕ) → Summed f s a t b c
unfolding sum
summed f false a false b c = record { sign = false; size = a + b; is = refl; exact = omega arith }
summed f true a true b c = record { sign = true; size = a + b; is = refl; exact = omega arith }
summed f false a true b c = go (nat_lt a b) refl (ltb→lt a b) (nltb→le a b)
  where
    go : (x : Bool) → nat_lt a b ≡ x → (T x → a < b) → (T (not x) → b ≤ a) → Summed f false a true b c
    go true e p q = let l = p tt in record { sign = true; size = b - a; is = rw e; exact = omega arith }
    go false e p q = let l = q tt in record { sign = false; size = a - b; is = rw e; exact = omega arith }
summed f true a false b c = go (nat_lt a b) refl (ltb→lt a b) (nltb→le a b) (nat_lt b a) refl (ltb→lt b a) (nltb→le b a)
  where
    go : (x : Bool) → nat_lt a b ≡ x → (T x → a < b) → (T (not x) → b ≤ a) → (y : Bool) → nat_lt b a ≡ y → (T y → b < a) → (T (not y) → a ≤ b) → Summed f true a false b c
    go true e p q y d r u = let l = p tt in record { sign = false; size = b - a; is = rw e; exact = omega arith }
    go false e p q true d r u = let l = q tt in record { sign = true; size = a - b; is = rw (e, d); exact = omega arith }
    go false e p q false d r u = let l = q tt in let k = u tt in record { sign = false; size = a - b; is = rw (e, d); exact = omega arith }

-- ---- a sum grows with each of its parts. x = (p - n) / E and so on: with x ≤ y and z ≤ w, x + z = (P - N) / EG is at most y + w = (Q - M) / DK
sum_order : (p n E q m D r l G u v K P N Q M : ℕ) → P + (n * G + l * E) ≡ p * G + r * E + N → Q + (m * K + v * D) ≡ q * K + u * D + M
    → p * D + m * E ≤ q * E + n * D → r * K + v * G ≤ u * G + l * K → P * (D * K) + M * (E * G) ≤ Q * (E * G) + N * (D * K)
sum_order p n E q m D r l G u v K P N Q M i j h k =
    let a = simp (add-mul, mul_assoc, mul_comm, mul_left_comm) at (ap (λ (z : ℕ). z * (D * K)) i) in
    let b = simp (add-mul, mul_assoc, mul_comm, mul_left_comm) at (ap (λ (z : ℕ). z * (E * G)) j) in
    let c = simp (add-mul, mul_assoc, mul_comm) at (mul-le-mul_right (G * K) h) in
    let d = simp (add-mul, mul_assoc, mul_comm, mul_left_comm) at (mul-le-mul_right (E * D) k) in
    simp (mul_comm, mul_left_comm) (omega arith)

pub parts : (f : Format) (s : Bool) (x D : ℕ) (t : Bool) (y E c : ℕ) (r : Summed f s (x * D) t (y * E) c) → pp r.sign r.size + (np s x * D + np t y * E) ≡ pp s x * D + pp t y * E + np r.sign r.size
parts f s x D t y E c r = omega (arith, r.exact, (scale s x D).0, (scale s x D).1, (scale t y E).0, (scale t y E).1)

pub add_mono : (x y z w : Float) → T (finite_of x) → T (finite_of y) → T (finite_of z) → T (finite_of w) → T (le x y) → T (le z w) → T (le (x ⊕ z) (y ⊕ w))
unfolding add
add_mono nan y z w i j a b p q = elim i [ ]
add_mono (inf _) y z w i j a b p q = elim i [ ]
add_mono (fin s m e) nan z w i j a b p q = elim j [ ]
add_mono (fin s m e) (inf _) z w i j a b p q = elim j [ ]
add_mono (fin s m e) (fin t n d) nan w i j a b p q = elim a [ ]
add_mono (fin s m e) (fin t n d) (inf _) w i j a b p q = elim a [ ]
add_mono (fin s m e) (fin t n d) (fin u l g) nan i j a b p q = elim b [ ]
add_mono (fin s m e) (fin t n d) (fin u l g) (inf _) i j a b p q = elim b [ ]
add_mono (fin s m e) (fin t n d) (fin u l g) (fin v k h) i j a b p q =
    let A = summed binary64 s (m * up e * down g) u (l * up g * down e) (down e * down g) in
    let B = summed binary64 t (n * up d * down h) v (k * up h * down d) (down d * down h) in
    subst (λ (r : Float). T (le r (sum binary64 t (n * up d * down h) v (k * up h * down d) (down d * down h)))) (sym A.is)
    (subst (λ (r : Float). T (le (round binary64 A.sign A.size (down e * down g)) r)) (sym B.is)
    (round-le binary64 A.sign A.size (down e * down g) B.sign B.size (down d * down h) (mul-pos (down_pos e) (down_pos g)) (mul-pos (down_pos d) (down_pos h))
    (apart A.sign A.size (down d * down h) B.sign B.size (down e * down g)
    (sum_order (pp s (m * up e)) (np s (m * up e)) (down e) (pp t (n * up d)) (np t (n * up d)) (down d) (pp u (l * up g)) (np u (l * up g)) (down g) (pp v (k * up h)) (np v (k * up h)) (down h)
    (pp A.sign A.size) (np A.sign A.size) (pp B.sign B.size) (np B.sign B.size)
    (parts binary64 s (m * up e) (down g) u (l * up g) (down e) (down e * down g) A) (parts binary64 t (n * up d) (down h) v (k * up h) (down d) (down d * down h) B)
    (together s (m * up e) (down d) t (n * up d) (down e) (le→ s m e t n d p)) (together u (l * up g) (down h) v (k * up h) (down g) (le→ u l g v k h q))))))

pub sub_mono : (x y z w : Float) → T (finite_of x) → T (finite_of y) → T (finite_of z) → T (finite_of w) → T (le x y) → T (le w z) → T (le (x ⊖ z) (y ⊖ w))
unfolding sub
sub_mono x y z w i j k l p q = add_mono x y (neg z) (neg w) i j (neg_finite z k) (neg_finite w l) p (neg-le w z q)

-- ---- what is not negative, added, does not make a sum less
grow_order : (p n E q m D P N : ℕ) → P + (n * D + m * E) ≡ p * D + q * E + N → m ≤ q → p * (E * D) + N * E ≤ P * E + n * (E * D)
grow_order p n E q m D P N i h =
    let a = simp (add-mul, mul_assoc, mul_comm) at (ap (λ (z : ℕ). z * E) i) in
    let b = simp (mul_comm, mul_left_comm) at (mul-le-mul_right (E * E) h) in
    simp mul_comm (omega arith)

-- ---- 0 is at most z: z has no negative part
pub zero_is : dec 0 1 ≡ fin false 0 (pos 0)
unfolding round
zero_is = refl

pub not_negative : (t : Bool) (n : ℕ) (d : ℤ) → T (le (dec 0 1) (fin t n d)) → np t (n * up d) ≤ pp t (n * up d)
not_negative t n d h =
    let l : Le false (0 * 1 * down d) t (n * up d * 1) = le→ false 0 (pos 0) t n d (subst (λ (z : Float). T (le z (fin t n d))) zero_is h) in
    omega (arith, zero-mul (down d), (scale t (n * up d) 1).0, (scale t (n * up d) 1).1, mul-one (np t (n * up d)), mul-one (pp t (n * up d)))

pub add_grows : (x y : Float) → T (fits binary64 x) → T (finite_of x) → T (finite_of y) → T (le (dec 0 1) y) → T (le x (x ⊕ y))
unfolding add
add_grows nan y f i j h = elim i [ ]
add_grows (inf _) y f i j h = elim i [ ]
add_grows (fin s m e) nan f i j h = elim j [ ]
add_grows (fin s m e) (inf _) f i j h = elim j [ ]
add_grows (fin s m e) (fin t n d) f i j h =
    let A = summed binary64 s (m * up e * down d) t (n * up d * down e) (down e * down d) in
    subst (λ (r : Float). T (le (fin s m e) r)) (sym A.is)
    (round_above binary64 (fin s m e) A.sign A.size (down e * down d) f (mul-pos (down_pos e) (down_pos d))
    (apart s (m * up e) (down e * down d) A.sign A.size (down e)
    (grow_order (pp s (m * up e)) (np s (m * up e)) (down e) (pp t (n * up d)) (np t (n * up d)) (down d) (pp A.sign A.size) (np A.sign A.size)
    (parts binary64 s (m * up e) (down d) t (n * up d) (down e) (down e * down d) A) (not_negative t n d h))))

-- ---- a product with what is not negative keeps the order
product_order : (p n E q m D Z G : ℕ) → p * D + m * E ≤ q * E + n * D → p * Z * (D * G) + m * Z * (E * G) ≤ q * Z * (E * G) + n * Z * (D * G)
product_order p n E q m D Z G h =
    let a = simp (add-mul, mul_assoc, mul_comm) at (mul-le-mul_right (Z * G) h) in
    simp (mul_assoc, mul_left_comm) (omega arith)

product_le : (s : Bool) (x E : ℕ) (t : Bool) (y D Z G : ℕ) → Le s (x * D) t (y * E) → Le s (x * Z * (D * G)) t (y * Z * (E * G))
product_le s x E t y D Z G h =
    apart s (x * Z) (D * G) t (y * Z) (E * G)
    (rw ((scale s x Z).0, (scale s x Z).1, (scale t y Z).0, (scale t y Z).1) (product_order (pp s x) (np s x) E (pp t y) (np t y) D Z G (together s x D t y E h)))

nothing : (x Z D : ℕ) → Z ≡ 0 → x * Z * D ≡ 0
nothing x Z D p = rw (p, mul-zero x) (zero-mul D)

pub mul_mono : (x y z : Float) → T (finite_of x) → T (finite_of y) → T (finite_of z) → T (le x y) → T (le (dec 0 1) z) → T (le (x ⊗ z) (y ⊗ z))
unfolding mul
mul_mono (fin s m e) (fin t n d) (fin true l g) i j k p q =
    let z : l * up g ≡ 0 = le_antisymm (not_negative true l g q) zero-le in
    round-le binary64 (unlike s true) (m * up e * (l * up g)) (down e * down g) (unlike t true) (n * up d * (l * up g)) (down d * down g) (mul-pos (down_pos e) (down_pos g)) (mul-pos (down_pos d) (down_pos g))
    (le_of_eq (both_zero (unlike s true) (m * up e * (l * up g) * (down d * down g)) (unlike t true) (n * up d * (l * up g) * (down e * down g)) (nothing (m * up e) (l * up g) (down d * down g) z) (nothing (n * up d) (l * up g) (down e * down g) z)))
mul_mono nan y z i j k p q = elim i [ ]
mul_mono (inf _) y z i j k p q = elim i [ ]
mul_mono (fin s m e) nan z i j k p q = elim j [ ]
mul_mono (fin s m e) (inf _) z i j k p q = elim j [ ]
mul_mono (fin s m e) (fin t n d) nan i j k p q = elim k [ ]
mul_mono (fin s m e) (fin t n d) (inf _) i j k p q = elim k [ ]
mul_mono (fin s m e) (fin t n d) (fin false l g) i j k p q =
    round-le binary64 (unlike s false) (m * up e * (l * up g)) (down e * down g) (unlike t false) (n * up d * (l * up g)) (down d * down g) (mul-pos (down_pos e) (down_pos g)) (mul-pos (down_pos d) (down_pos g))
    (subst (λ (b : Bool). Le b (m * up e * (l * up g) * (down d * down g)) (unlike t false) (n * up d * (l * up g) * (down e * down g))) (sym (keeps s))
    (subst (λ (b : Bool). Le s (m * up e * (l * up g) * (down d * down g)) b (n * up d * (l * up g) * (down e * down g))) (sym (keeps t))
    (product_le s (m * up e) (down e) t (n * up d) (down d) (l * up g) (down g) (le→ s m e t n d p))))
  where
    keeps : (s : Bool) → unlike s false ≡ s
    keeps true = refl
    keeps false = refl

-- ---- sums and products commute
unlike_comm : (s t : Bool) → unlike s t ≡ unlike t s
unlike_comm true true = refl
unlike_comm true false = refl
unlike_comm false true = refl
unlike_comm false false = refl

pub mul_commutes : (f : Format) (x y : Float) → mul f x y ≡ mul f y x
unfolding mul
mul_commutes f nan nan = refl
mul_commutes f nan (inf t) = refl
mul_commutes f nan (fin t n d) = refl
mul_commutes f (inf s) nan = refl
mul_commutes f (inf s) (inf t) = ap inf (unlike_comm s t)
mul_commutes f (inf s) (fin t n d) = ap (λ (b : Bool). cond (n == 0) nan (inf b)) (unlike_comm s t)
mul_commutes f (fin s m e) nan = refl
mul_commutes f (fin s m e) (inf t) = ap (λ (b : Bool). cond (m == 0) nan (inf b)) (unlike_comm s t)
mul_commutes f (fin s m e) (fin t n d) =
    ap (λ (b : Bool). round f b (m * up e * (n * up d)) (down e * down d)) (unlike_comm s t)
    ∙ ap (λ (a : ℕ). round f (unlike t s) a (down e * down d)) (mul_comm (m * up e) (n * up d))
    ∙ ap (λ (c : ℕ). round f (unlike t s) (n * up d * (m * up e)) c) (mul_comm (down e) (down d))

clash : (a b : ℕ) → a < b → b < a → ⊥
clash a b h k = omega arith

level : (a b : ℕ) → a ≤ b → b ≤ a → a - b ≡ b - a
level a b h k = omega arith

unlike_sum : (f : Format) (a b c : ℕ) → sum f false a true b c ≡ sum f true b false a c
unfolding sum
unlike_sum f a b c = go (nat_lt a b) (ltb→lt a b) (nltb→le a b) (nat_lt b a) (ltb→lt b a) (nltb→le b a)
  where
    go : (x : Bool) → (T x → a < b) → (T (not x) → b ≤ a) → (y : Bool) → (T y → b < a) → (T (not y) → a ≤ b)
        → cond x (round f true (b - a) c) (round f false (a - b) c) ≡ cond y (round f false (a - b) c) (round f x (b - a) c)
    go true p q true r u = absurd (clash a b (p tt) (r tt))
    go true p q false r u = refl
    go false p q true r u = refl
    go false p q false r u = ap (λ (z : ℕ). round f false z c) (level a b (u tt) (q tt))

sum_comm : (f : Format) (s : Bool) (a : ℕ) (t : Bool) (b c : ℕ) → sum f s a t b c ≡ sum f t b s a c
sum_comm f false a true b c = unlike_sum f a b c
sum_comm f true a false b c = sym (unlike_sum f b a c)
sum_comm f false a false b c = unfold sum in ap (λ (z : ℕ). round f false z c) (add_comm a b)
sum_comm f true a true b c = unfold sum in ap (λ (z : ℕ). round f true z c) (add_comm a b)

pub add_commutes : (f : Format) (x y : Float) → add f x y ≡ add f y x
unfolding add
add_commutes f nan nan = refl
add_commutes f nan (inf t) = refl
add_commutes f nan (fin t n d) = refl
add_commutes f (inf s) nan = refl
add_commutes f (inf true) (inf true) = refl
add_commutes f (inf true) (inf false) = refl
add_commutes f (inf false) (inf true) = refl
add_commutes f (inf false) (inf false) = refl
add_commutes f (inf s) (fin t n d) = refl
add_commutes f (fin s m e) nan = refl
add_commutes f (fin s m e) (inf t) = refl
add_commutes f (fin s m e) (fin t n d) =
    sum_comm f s (m * up e * down d) t (n * up d * down e) (down e * down d)
    ∙ ap (sum f t (n * up d * down e) s (m * up e * down d)) (mul_comm (down e) (down d))

-- ---- the middle of two doubles of magnitude at most 1,000,000 lies within them: twice a double is exact, and its half is the double
-- a size of at most 1,000,000, as a fraction
million : dec 1000000 1 ≡ fin false 15625 (pos 6)
unfolding round
million = refl

pub about_size : (s : Bool) (m : ℕ) (e : ℤ) → T (about_of (dec 1000000 1) (fin s m e)) → m * up e ≤ 1000000 * down e
unfolding neg
about_size s m e h =
    let a : T (about_of (fin false 15625 (pos 6)) (fin s m e)) = subst (λ (r : Float). T (about_of r (fin s m e))) million h in
    go s (le→ true 15625 (pos 6) s m e (within_lo (fin true 15625 (pos 6)) (fin false 15625 (pos 6)) (fin s m e) a)) (le→ s m e false 15625 (pos 6) (within_hi (fin true 15625 (pos 6)) (fin false 15625 (pos 6)) (fin s m e) a))
  where
    go : (s : Bool) → Le true (1000000 * down e) s (m * up e * 1) → Le s (m * up e * 1) false (1000000 * down e) → m * up e ≤ 1000000 * down e
    go true p q = omega (arith, mul-one (m * up e))
    go false p q = omega (arith, mul-one (m * up e))

twice_grid : (X E l q j : ℕ) → X * l ≡ q * 2 ^ j * E → (X * E + X * E) * l ≡ q * 2 ^ suc j * (E * E)
twice_grid X E l q j h =
    let a = simp (mul_assoc, mul_comm, mul_left_comm) at (ap (λ (z : ℕ). z * E) h) in
    rw (pow-succ' 2 j, add-mul) (simp (mul_assoc, mul_comm, mul_left_comm) (omega arith))

pub about_finite : (x : Float) → T (about_of (dec 1000000 1) x) → T (finite_of x)
unfolding round neg
about_finite x h = within_finite (fin true 15625 (pos 6)) (fin false 15625 (pos 6)) x tt tt h

half : dec 1 2 ≡ fin false 1 (negsuc 0)
unfolding round
half = refl

half_mono : (x y : Float) → T (finite_of x) → T (finite_of y) → T (le x y) → T (le (dec 1 2 ⊗ x) (dec 1 2 ⊗ y))
half_mono x y i j h =
    subst (λ (z : Float). T (le z (dec 1 2 ⊗ y))) (mul_commutes binary64 x (dec 1 2))
    (subst (λ (z : Float). T (le (x ⊗ dec 1 2) z)) (mul_commutes binary64 y (dec 1 2))
    (mul_mono x y (dec 1 2) i j (unfold round in tt) h (unfold round in unfold le in tt)))

twice_small : (X E : ℕ) → 0 < E → X ≤ 1000000 * E → X * E + X * E < 2 ^ suc (emax binary64) * (E * E)
twice_small X E p h =
    let a = mul-le-mul_right E h in
    let b : X * E + X * E ≤ 2000000 * (E * E) = omega (arith, mul_assoc 1000000 E E) in
    lt_of_le_of_lt b (mul-lt-mul_of_pos_right (lit< tt) (mul-pos p p))

alike_sum : (f : Format) (s : Bool) (a b c : ℕ) → sum f s a s b c ≡ round f s (a + b) c
unfolding sum
alike_sum f true a b c = refl
alike_sum f false a b c = refl

twice : (s : Bool) (m : ℕ) (e : ℤ) → T (fits binary64 (fin s m e)) → m * up e ≤ 1000000 * down e
    → HasValue (fin s m e ⊕ fin s m e) s (m * up e * down e + m * up e * down e) (down e * down e)
unfolding add
twice s m e f h =
    let g = on_grid binary64 s m e f in
    subst (λ (r : Float). HasValue r s (m * up e * down e + m * up e * down e) (down e * down e)) (sym (alike_sum binary64 s (m * up e * down e) (m * up e * down e) (down e * down e)))
    (exactly binary64 s (m * up e * down e + m * up e * down e) (down e * down e) g.q (suc g.j) (mul-pos (down_pos e) (down_pos e)) g.short
    (twice_grid (m * up e) (down e) (2 ^ low binary64) g.q g.j g.same) (twice_small (m * up e) (down e) (down_pos e) h))

-- the half of what is twice X / E
halved : (n d X E : ℕ) → 0 < E → n * (E * E) ≡ (X * E + X * E) * d → n * E ≡ X * (2 * d)
halved n d X E p h =
    eq_of_mul-eq-mul_right E p (n * E) (X * (2 * d))
    (let a = simp (add-mul, mul_assoc, mul_comm, mul_left_comm) at h in simp (mul_assoc, mul_comm, mul_left_comm) (omega arith))

half_of : (y : Float) (s : Bool) (X E : ℕ) → 0 < E → HasValue y s (X * E + X * E) (E * E) → dec 1 2 ⊗ y ≡ round binary64 s X E
unfolding mul
half_of nan s X E p v = absurd v
half_of (inf t) s X E p v = absurd v
half_of (fin t n d) s X E p v =
    ap (λ (h : Float). mul binary64 h (fin t n d)) half
    ∙ ap (λ (b : Bool). round binary64 b (1 * (n * up d)) (2 * down d)) (keeps t ∙ v.0)
    ∙ ap (λ (a : ℕ). round binary64 s a (2 * down d)) (one-mul (n * up d))
    ∙ round_same binary64 s (n * up d) (2 * down d) X E (mul-pos (zero-lt-suc 1) (down_pos d)) p (halved (n * up d) (down d) X E p v.1)
  where
    keeps : (s : Bool) → unlike false s ≡ s
    keeps true = refl
    keeps false = refl

value_finite : (y : Float) (s : Bool) (a c : ℕ) → HasValue y s a c → T (finite_of y)
value_finite nan s a c v = v
value_finite (inf t) s a c v = v
value_finite (fin t m e) s a c v = tt

pub half_twice : (x : Float) → T (fits binary64 x) → T (finite_of x) → T (about_of (dec 1000000 1) x) → (dec 1 2 ⊗ (x ⊕ x) ≡ x) × T (finite_of (x ⊕ x))
half_twice nan f i a = elim i [ ]
half_twice (inf _) f i a = elim i [ ]
half_twice (fin s m e) f i a =
    let v = twice s m e f (about_size s m e a) in
    (half_of (fin s m e ⊕ fin s m e) s (m * up e) (down e) (down_pos e) v ∙ round_self binary64 s m e f, value_finite (fin s m e ⊕ fin s m e) s (m * up e * down e + m * up e * down e) (down e * down e) v)

pub midpoint : (lo hi : Float) → T (fits binary64 lo) → T (fits binary64 hi) → T (about_of (dec 1000000 1) lo) → T (about_of (dec 1000000 1) hi) → T (le lo hi)
    → T (within_of lo hi (dec 1 2 ⊗ (lo ⊕ hi)))
midpoint lo hi f g a b h =
    let i = about_finite lo a in
    let j = about_finite hi b in
    let L = half_twice lo f i a in
    let H = half_twice hi g j b in
    let p = add_mono lo lo lo hi i i i j (le_self lo i) h in
    let q = add_mono lo hi hi hi i j j j h (le_self hi j) in
    let k = between_finite (lo ⊕ lo) (hi ⊕ hi) (lo ⊕ hi) L.1 H.1 p q in
    within_of_lem lo hi (dec 1 2 ⊗ (lo ⊕ hi))
    (subst (λ (z : Float). T (le z (dec 1 2 ⊗ (lo ⊕ hi)))) L.0 (half_mono (lo ⊕ lo) (lo ⊕ hi) L.1 k p))
    (subst (λ (z : Float). T (le (dec 1 2 ⊗ (lo ⊕ hi)) z)) H.0 (half_mono (lo ⊕ hi) (hi ⊕ hi) k H.1 q))
