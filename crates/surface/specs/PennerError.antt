-- Statements. Penner's quadratic as doubles compute it is within 1 / 10 ^ 13 of the exact polynomial, for every speed from 0 to 20 m/s.
-- Assumes nothing.
use Rattle.std.specs.Prelude.{◌≡◌, refl, Bool, true, false, ℕ, ◌+◌, ◌*◌, ◌^◌, ◌≤◌, ◌<◌, ℤ, Float}
use Rattle.std.proofs.Common.{sym, ap, ◌∙◌, subst, true≢false, le_trans, le_of_eq, le_of_mul-le-mul_right, add-mul, mul_assoc, mul_comm, mul_left_comm, mul-le-mul_left, mul-le-mul_right, mul-pos, arith, pow_pos}
use Rattle.std.specs.Float.{nan, inf, fin, binary64}
use Rattle.std.specs.Float.Ieee.{up, down, round, mul}
use Rattle.std.specs.Float.Ieee.Exact.{HasValue}
use Rattle.std.specs.Float.Ieee.Fits.{down_pos}
use Rattle.number.specs.Ops.{◌⊖◌, ◌⊗◌, dec}
use Rattle.number.specs.Order.{pp, np}
use Rattle.surface.specs.RoundingError.{Off, Rounded, rounded, mul_of, Added, add_of, sub_of}
use Rattle.surface.specs.Penner.{quadratic, doubles}

-- |(P - N) / Q - (510000·x - 37500·y + 903·z) / (1000000·x)| ≤ 1 / 10 ^ 13, with no division
abbrev pub Within : ℕ → ℕ → ℕ → ℕ → ℕ → ℕ → Type 0
Within P N Q x y z =
    (10000000000000 * (1000000 * (P * x) + 37500 * (Q * y)) ≤ 10000000000000 * (1000000 * (N * x) + 510000 * (Q * x) + 903 * (Q * z)) + 1000000 * (Q * x))
    × (10000000000000 * (1000000 * (N * x) + 510000 * (Q * x) + 903 * (Q * z)) ≤ 10000000000000 * (1000000 * (P * x) + 37500 * (Q * y)) + 1000000 * (Q * x))

-- The double is finite, and within 1 / 10 ^ 13 of 0.510 - 0.0375·v + 0.000903·v² at v = p / q.
abbrev pub Near : Float → ℕ → ℕ → Type 0
Near nan p q = ⊥
Near (inf s) p q = ⊥
Near (fin s m e) p q = Within (pp s (m * up e)) (np s (m * up e)) (down e) (q * q) (p * q) (p * p)

scale : (P N W P' N' Q x y z : ℕ) → 0 < W → P' * W ≡ P * Q → N' * W ≡ N * Q → Within P N W x y z → Within P' N' Q x y z
scale P N W P' N' Q x y z X h k c =
    let a : P * (x * Q) ≡ P' * (x * W) = mul_left_comm P x Q ∙ ap (λ (t : ℕ). x * t) (sym h) ∙ mul_left_comm x P' W in
    let b : N * (x * Q) ≡ N' * (x * W) = mul_left_comm N x Q ∙ ap (λ (t : ℕ). x * t) (sym k) ∙ mul_left_comm x N' W in
    let swap : (t : ℕ) → W * (t * Q) ≡ Q * (t * W) = λ t. simp (mul_comm, mul_left_comm) in
    let ex = swap x in
    let ey = swap y in
    let ez = swap z in
    let l = simp (add-mul, mul_assoc) at (mul-le-mul_right Q c.0) in
    let r = simp (add-mul, mul_assoc) at (mul-le-mul_right Q c.1) in (
      le_of_mul-le-mul_right {k = W} (simp (add-mul, mul_assoc) (omega arith)) X,
      le_of_mul-le-mul_right {k = W} (simp (add-mul, mul_assoc) (omega arith)) X,
    )

-- from units of 1 / W to the double's own fraction
near : (x : Float) (s : Bool) (R W p q : ℕ) → 0 < W → HasValue x s R W → Within (pp s R) (np s R) W (q * q) (p * q) (p * p) → Near x p q
near nan s R W p q X h c = absurd h
near (inf t) s R W p q X h c = absurd h
near (fin true m e) true R W p q X h c = scale 0 R W 0 (m * up e) (down e) (q * q) (p * q) (p * p) X (omega arith) h.1 c
near (fin false m e) false R W p q X h c = scale R 0 W (m * up e) 0 (down e) (q * q) (p * q) (p * p) X h.1 (omega arith) c
near (fin true m e) false R W p q X h c = absurd (true≢false h.0)
near (fin false m e) true R W p q X h c = absurd (true≢false (sym h.0))

-- the errors of the constants and of the five operations, each of d at most in units of 1 / W, put together
total : (W d p q Ra Rb Rc R1 R3 R4 P N : ℕ) → 4503599627370496 * d ≤ W → p ≤ 20 * q
    → Off W d Ra 510 1000 → Off W d Rb 375 10000 → Off W d Rc 903 1000000
    → (R1 * q ≤ Rb * p + d * q) × (Rb * p ≤ R1 * q + d * q)
    → (R3 * q ≤ Rc * p + d * q) × (Rc * p ≤ R3 * q + d * q)
    → (R4 * q ≤ R3 * p + d * q) × (R3 * p ≤ R4 * q + d * q)
    → (P + R1 ≤ N + Ra + R4 + 2 * d) × (N + Ra + R4 ≤ P + R1 + 2 * d)
    → Within P N W (q * q) (p * q) (p * p)
total W d p q Ra Rb Rc R1 R3 R4 P N fine hp a b c o1 o3 o4 o5 =
    let f = simp mul_assoc at (mul-le-mul_right (q * q) fine) in
    let pq : p * q ≤ 20 * (q * q) = simp mul_assoc at (mul-le-mul_right q hp) in
    let pp' : p * p ≤ 20 * (p * q) = le_trans (mul-le-mul_left p hp) (le_of_eq (mul_left_comm p 20 q)) in
    let dpq : d * (p * q) ≤ 20 * (d * (q * q)) = le_trans (mul-le-mul_left d pq) (le_of_eq (mul_left_comm d 20 (q * q))) in
    let dpp : d * (p * p) ≤ 20 * (d * (p * q)) = le_trans (mul-le-mul_left d pp') (le_of_eq (mul_left_comm d 20 (p * q))) in
    let a0' : 1000 * Ra ≤ 510 * W + 1000 * d = omega (arith, a.0) in
    let a1' : 510 * W ≤ 1000 * Ra + 1000 * d = omega (arith, a.1) in
    let b0' : 10000 * Rb ≤ 375 * W + 10000 * d = omega (arith, b.0) in
    let b1' : 375 * W ≤ 10000 * Rb + 10000 * d = omega (arith, b.1) in
    let c0' : 1000000 * Rc ≤ 903 * W + 1000000 * d = omega (arith, c.0) in
    let c1' : 903 * W ≤ 1000000 * Rc + 1000000 * d = omega (arith, c.1) in
    let a0 = simp (add-mul, mul_assoc) at (mul-le-mul_right (q * q) a0') in
    let a1 = simp (add-mul, mul_assoc) at (mul-le-mul_right (q * q) a1') in
    let b0 = simp (add-mul, mul_assoc) at (mul-le-mul_right (p * q) b0') in
    let b1 = simp (add-mul, mul_assoc) at (mul-le-mul_right (p * q) b1') in
    let c0 = simp (add-mul, mul_assoc) at (mul-le-mul_right (p * p) c0') in
    let c1 = simp (add-mul, mul_assoc) at (mul-le-mul_right (p * p) c1') in
    let m0 = simp (add-mul, mul_assoc) at (mul-le-mul_right q o1.0) in
    let m1 = simp (add-mul, mul_assoc) at (mul-le-mul_right q o1.1) in
    let k0 = simp (add-mul, mul_assoc) at (mul-le-mul_right p o3.0) in
    let k1 = simp (add-mul, mul_assoc) at (mul-le-mul_right p o3.1) in
    let l0 = simp (add-mul, mul_assoc) at (mul-le-mul_right q o4.0) in
    let l1 = simp (add-mul, mul_assoc) at (mul-le-mul_right q o4.1) in
    let s0 = simp (add-mul, mul_assoc) at (mul-le-mul_right (q * q) o5.0) in
    let s1 = simp (add-mul, mul_assoc) at (mul-le-mul_right (q * q) o5.1) in
    let w3 : R3 * (q * p) ≡ R3 * (p * q) = ap (λ (t : ℕ). R3 * t) (mul_comm q p) in
    let wd : d * (q * p) ≡ d * (p * q) = ap (λ (t : ℕ). d * t) (mul_comm q p) in
    (omega arith, omega arith)

-- ---- a product with the speed, and a sum, each with its rounding
record Times (W d : ℕ) (z : Float) (R p q : ℕ) : Type 0 where
  T : ℕ
  value : HasValue z false T W
  off : (T * q ≤ R * p + d * q) × (R * p ≤ T * q + d * q)
  small : T ≤ 20 * R + d

record Summed (W d : ℕ) (z : Float) (s : Bool) (A : ℕ) (t : Bool) (B : ℕ) : Type 0 where
  sign : Bool
  R : ℕ
  value : HasValue z sign R W
  low : pp sign R + (np s A + np t B) ≤ np sign R + (pp s A + pp t B) + d
  high : np sign R + (pp s A + pp t B) ≤ pp sign R + (np s A + np t B) + d
  small : R ≤ A + B + d

signed : (s : Bool) (R D d : ℕ) → R ≤ D + d → D ≤ R + d → (pp s R + np s D ≤ np s R + pp s D + d) × (np s R + pp s D ≤ pp s R + np s D + d)
signed true R D d h k = (omega arith, omega arith)
signed false R D d h k = (omega arith, omega arith)

-- ---- sizes along the way
slope_small : (W d R : ℕ) → 4503599627370496 * d ≤ W → R * 10000 ≤ 375 * W + d * 10000 → 20 * R ≤ W
slope_small W d R fine h = omega arith

square_small : (W d R : ℕ) → 4503599627370496 * d ≤ W → R * 1000000 ≤ 903 * W + d * 1000000 → 20 * R ≤ W
square_small W d R fine h = omega arith

product_small : (W d R T : ℕ) → 4503599627370496 * d ≤ W → 20 * R ≤ W → T ≤ 20 * R + d → 2 * T ≤ 3 * W
product_small W d R T fine h k = omega arith

twice : (W d R T : ℕ) → 4503599627370496 * d ≤ W → R * 1000000 ≤ 903 * W + d * 1000000 → T ≤ 20 * R + d → 20 * T ≤ W
twice W d R T fine h k = omega arith

first_sum : (W d A T : ℕ) → 0 < W → 4503599627370496 * d ≤ W → A * 1000 ≤ 510 * W + d * 1000 → 2 * T ≤ 3 * W → A + T < 4 * W
first_sum W d A T X fine h k = omega arith

second_sum : (W d A T R Q : ℕ) → 0 < W → 4503599627370496 * d ≤ W → A * 1000 ≤ 510 * W + d * 1000 → 2 * T ≤ 3 * W → R ≤ A + T + d → 2 * Q ≤ 3 * W → R + Q < 4 * W
second_sum W d A T R Q X fine h k l n = omega arith

-- both sums together
both : (P N P2 N2 A T1 T4 d : ℕ)
    → P2 + (0 + T1) ≤ N2 + (A + 0) + d → N2 + (A + 0) ≤ P2 + (0 + T1) + d → P + (N2 + 0) ≤ N + (P2 + T4) + d → N + (P2 + T4) ≤ P + (N2 + 0) + d
    → (P + T1 ≤ N + A + T4 + 2 * d) × (N + A + T4 ≤ P + T1 + 2 * d)
both P N P2 N2 A T1 T4 d h k l n = (omega arith, omega arith)

module _ (W d : ℕ) (X : 0 < W) (rnd : (s : Bool) (a c : ℕ) → 0 < c → a < 4 * c → Rounded W d (round binary64 s a c) s a c) where
  times : (x v : Float) (R p q : ℕ) → 0 < q → p ≤ 20 * q → 20 * R ≤ W → HasValue x false R W → HasValue v false p q → Times W d (mul binary64 x v) R p q
  times x v R p q Q hp hr h k =
      let m : R * p ≤ 20 * R * q = le_trans (mul-le-mul_left R hp) (le_of_eq (mul_left_comm R 20 q ∙ sym (mul_assoc 20 R q))) in
      let n : 20 * R * q ≤ W * q = mul-le-mul_right q hr in
      let w : 0 < W * q = mul-pos X Q in
      let r = rnd false (R * p) (W * q) w (omega arith) in
      let swap : (t : ℕ) → t * (W * q) ≡ t * q * W = λ t. ap (λ (z : ℕ). t * z) (mul_comm W q) ∙ sym (mul_assoc t q W) in
      let e = swap r.R in
      let g = swap d in
      let lo : r.R * q ≤ R * p + d * q = le_of_mul-le-mul_right {k = W} (rw (add-mul (R * p) (d * q) W) (omega (arith, r.off.0))) X in
      let hi : R * p ≤ r.R * q + d * q = le_of_mul-le-mul_right {k = W} (rw (add-mul (r.R * q) (d * q) W) (omega (arith, r.off.1))) X in
      record {
        T = r.R;
        value = subst (λ (z : Float). HasValue z false r.R W) (sym (mul_of binary64 x v R W p q X Q h k)) r.value;
        off = (lo, hi);
        small = le_of_mul-le-mul_right {k = q} (rw (add-mul (20 * R) d q) (omega arith)) Q;
      }

  summed : (z : Float) (s : Bool) (A : ℕ) (t : Bool) (B : ℕ) → A + B < 4 * W → Added binary64 z W s A t B → Summed W d z s A t B
  summed z s A t B l a =
      let r = rnd a.sign a.D W X (omega (arith, a.small)) in
      let lo : r.R ≤ a.D + d = le_of_mul-le-mul_right {k = W} (rw (add-mul a.D d W) r.off.0) X in
      let hi : a.D ≤ r.R + d = le_of_mul-le-mul_right {k = W} (rw (add-mul r.R d W) r.off.1) X in
      let g = signed a.sign r.R a.D d lo hi in
      record {
        sign = a.sign;
        R = r.R;
        value = subst (λ (y : Float). HasValue y a.sign r.R W) (sym a.is) r.value;
        low = omega (arith, g.0, a.exact);
        high = omega (arith, g.1, a.exact);
        small = omega (arith, a.small);
      }

  close_in : 4503599627370496 * d ≤ W → (m : ℕ) (e : ℤ) → m * up e ≤ 20 * down e → Near (quadratic doubles (fin false m e)) (m * up e) (down e)
  close_in fine m e hp =
      let p = m * up e in
      let q = down e in
      let v = fin false m e in
      let a = rnd false 510 1000 (omega arith) (omega arith) in
      let b = rnd false 375 10000 (omega arith) (omega arith) in
      let c = rnd false 903 1000000 (omega arith) (omega arith) in
      let kb = slope_small W d b.R fine b.off.0 in
      let x1 = times (dec 375 10000) v b.R p q (down_pos e) hp kb b.value (refl, refl) in
      let k1 = product_small W d b.R x1.T fine kb x1.small in
      let s2 = summed (dec 510 1000 ⊖ dec 375 10000 ⊗ v) false a.R true x1.T (first_sum W d a.R x1.T X fine a.off.0 k1)
      (sub_of binary64 (dec 510 1000) (dec 375 10000 ⊗ v) false false a.R x1.T W X a.value x1.value) in
      let x3 = times (dec 903 1000000) v c.R p q (down_pos e) hp (square_small W d c.R fine c.off.0) c.value (refl, refl) in
      let k3 = twice W d c.R x3.T fine c.off.0 x3.small in
      let x4 = times (dec 903 1000000 ⊗ v) v x3.T p q (down_pos e) hp k3 x3.value (refl, refl) in
      let s5 = summed (quadratic doubles v) s2.sign s2.R false x4.T
      (second_sum W d a.R x1.T s2.R x4.T X fine a.off.0 k1 s2.small (product_small W d x3.T x4.T fine k3 x4.small))
      (add_of binary64 (dec 510 1000 ⊖ dec 375 10000 ⊗ v) (dec 903 1000000 ⊗ v ⊗ v) s2.sign false s2.R x4.T W X s2.value x4.value) in
      near (quadratic doubles v) s5.sign s5.R W p q X s5.value
      (total W d p q a.R b.R c.R x1.T x3.T x4.T (pp s5.sign s5.R) (np s5.sign s5.R) fine hp a.off b.off c.off x1.off x3.off x4.off
      (both (pp s5.sign s5.R) (np s5.sign s5.R) (pp s2.sign s2.R) (np s2.sign s2.R) a.R x1.T x4.T d s2.low s2.high s5.low s5.high))

-- Every double v = m · 2 ^ e from 0 to 20, which is (m · up e) / down e as a fraction.
pub quadratic_close : (m : ℕ) (e : ℤ) → m * up e ≤ 20 * down e → Near (quadratic doubles (fin false m e)) (m * up e) (down e)
quadratic_close = close_in (2 ^ 1074) (2 ^ 1022) (pow_pos 1074) (rounded binary64) (le_of_eq units)
  where
    units : 4503599627370496 * 2 ^ 1022 ≡ 2 ^ 1074
    units = refl
