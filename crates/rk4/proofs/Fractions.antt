-- Statements. Exact fractions are an instance of exact arithmetic, and vectors of three of them a space over it.
-- Assumes nothing.
use Rattle.std.specs.Prelude.{◌≡◌, refl, ℕ, zero, suc, ◌+◌, ◌*◌, ◌-◌, ◌<◌}
use Rattle.std.proofs.Common.{ap, arith, mul-pos}
use Rattle.std.proofs.Math.Nat.{eq_of_mul-eq-mul_right}
use Rattle.rk4.specs.Rk4.{Scalars, Space, moved_in, step_in, step_state_in}
use Rattle.rk4.specs.Classical.{Exact, Linear, classical, line, pairs, line_linear, pairs_linear, step_is_classical, step_state_is_classical}

-- (up − down) / den
pub record Fraction : Type 0 where
  pub up : ℕ
  pub down : ℕ
  pub den : ℕ
  pub positive : 0 < den

-- equality of fractions, multiplied out: (up − down)·den' = (up' − down')·den, with no difference left
pub record Equal (a b : Fraction) : Type 0 where
  pub cross : a.up * b.den + b.down * a.den ≡ b.up * a.den + a.down * b.den

-- the whole number n
abbrev pub whole : ℕ → Fraction
whole n = record { up = n; down = 0; den = 1; positive = omega arith }

abbrev pub plus_f : Fraction → Fraction → Fraction
plus_f a b =
    record {
      up = a.up * b.den + b.up * a.den;
      down = a.down * b.den + b.down * a.den;
      den = a.den * b.den;
      positive = mul-pos a.positive b.positive;
    }

abbrev pub times_f : Fraction → Fraction → Fraction
times_f a b =
    record {
      up = a.up * b.up + a.down * b.down;
      down = a.up * b.down + a.down * b.up;
      den = a.den * b.den;
      positive = mul-pos a.positive b.positive;
    }

abbrev pub negate_f : Fraction → Fraction
negate_f a = record { up = a.down; down = a.up; den = a.den; positive = a.positive }

-- n / m where m is not 0, else −n / k where k is not 0, else 0
unfoldable pub reciprocal : ℕ → ℕ → ℕ → Fraction
reciprocal zero zero n = whole 0
reciprocal (suc m) k n = record { up = n; down = 0; den = suc m; positive = omega arith }
reciprocal zero (suc k) n = record { up = 0; down = n; den = suc k; positive = omega arith }

-- 1 / a, with 0 for a = 0: of the two differences of natural numbers at least one is 0
abbrev pub inverse_f : Fraction → Fraction
inverse_f a = reciprocal (a.up - a.down) (a.down - a.up) a.den

-- The operations of fractions that a step uses.
abbrev pub fractions : Scalars Fraction
fractions = record { plus = plus_f; over = λ a. λ b. times_f a (inverse_f b); two = whole 2; three = whole 3; six = whole 6 }

transitive : {a b c : Fraction} → Equal a b → Equal b c → Equal a c
transitive {a} {b} {c} p q =
    let p' : (a.up * b.den + b.down * a.den) * c.den ≡ (b.up * a.den + a.down * b.den) * c.den = ap (λ (x : ℕ). x * c.den) p.cross in
    let q' : (b.up * c.den + c.down * b.den) * a.den ≡ (c.up * b.den + b.down * c.den) * a.den = ap (λ (x : ℕ). x * a.den) q.cross in
    record { cross = eq_of_mul-eq-mul_right b.den b.positive (a.up * c.den + c.down * a.den) (c.up * a.den + a.down * c.den) (omega arith) }

-- one more addend, or factor, of two equal fractions (u − n) / d and (u' − n') / d'
plus_cross :
    (u n d u' n' d' v m e : ℕ) → u * d' + n' * d ≡ u' * d + n * d' →
    (u * e + v * d) * (d' * e) + (n' * e + m * d') * (d * e) ≡ (u' * e + v * d') * (d * e) + (n * e + m * d) * (d' * e)
plus_cross u n d u' n' d' v m e p =
    let p' : (u * d' + n' * d) * (e * e) ≡ (u' * d + n * d') * (e * e) = rw p in
    omega arith

times_cross :
    (u n d u' n' d' v m e : ℕ) → u * d' + n' * d ≡ u' * d + n * d' →
    (u * v + n * m) * (d' * e) + (u' * m + n' * v) * (d * e) ≡ (u' * v + n' * m) * (d * e) + (u * m + n * v) * (d' * e)
times_cross u n d u' n' d' v m e p =
    let p₁ : (u * d' + n' * d) * (v * e) ≡ (u' * d + n * d') * (v * e) = rw p in
    let p₂ : (u * d' + n' * d) * (m * e) ≡ (u' * d + n * d') * (m * e) = rw p in
    omega arith

plus_comm : (a b : Fraction) → Equal (plus_f a b) (plus_f b a)
plus_comm a b = omega arith

times_comm : (a b : Fraction) → Equal (times_f a b) (times_f b a)
times_comm a b = omega arith

plus_one : {a b : Fraction} (c : Fraction) → Equal a b → Equal (plus_f a c) (plus_f b c)
plus_one {a} {b} c p = record { cross = plus_cross a.up a.down a.den b.up b.down b.den c.up c.down c.den p.cross }

times_one : {a b : Fraction} (c : Fraction) → Equal a b → Equal (times_f a c) (times_f b c)
times_one {a} {b} c p = record { cross = times_cross a.up a.down a.den b.up b.down b.den c.up c.down c.den p.cross }

plus_same : {a b c d : Fraction} → Equal a b → Equal c d → Equal (plus_f a c) (plus_f b d)
plus_same {a} {b} {c} {d} p q =
    transitive {b = plus_f b c} (plus_one c p) (transitive {b = plus_f c b} (plus_comm b c) (transitive {b = plus_f d b} (plus_one b q) (plus_comm d b)))

times_same : {a b c d : Fraction} → Equal a b → Equal c d → Equal (times_f a c) (times_f b d)
times_same {a} {b} {c} {d} p q =
    transitive {b = times_f b c} (times_one c p) (transitive {b = times_f c b} (times_comm b c) (transitive {b = times_f d b} (times_one b q) (times_comm d b)))

-- a fraction expanded by k
expanded : (a b : Fraction) (k : ℕ) → b.up ≡ a.up * k → b.down ≡ a.down * k → b.den ≡ a.den * k → Equal a b
expanded a b k p q r =
    let same : a.up * (a.den * k) + a.down * k * a.den ≡ a.up * k * a.den + a.down * (a.den * k) = omega arith in
    record { cross = rw (p, q, r) same }

times-plus : (a b c : Fraction) → Equal (times_f (plus_f a b) c) (plus_f (times_f a c) (times_f b c))
times-plus a b c =
    expanded (times_f (plus_f a b) c) (plus_f (times_f a c) (times_f b c)) c.den (omega arith) (omega arith) (omega arith)

-- b · (1 / b) is 1, by the sign of the numerator
inverse_at : (b : Fraction) (m k : ℕ) → b.up - b.down ≡ m → b.down - b.up ≡ k → (b.up ≡ b.down → ⊥)
    → Equal (times_f b (times_f (whole 1) (reciprocal m k b.den))) (whole 1)
unfolding reciprocal
inverse_at b zero zero p q n = absurd (n (omega arith))
inverse_at b (suc m) k p q n = let e : b.up ≡ b.down + suc m = omega arith in omega (arith, ap (λ (x : ℕ). x * b.den) e)
inverse_at b zero (suc k) p q n = let e : b.down ≡ b.up + suc k = omega arith in omega (arith, ap (λ (x : ℕ). x * b.den) e)

over_is : (a r : Fraction) → Equal (times_f a r) (times_f a (times_f (whole 1) r))
over_is a r = omega arith

-- Exact fractions satisfy the laws of exact arithmetic.
pub fractions_exact : Exact fractions
fractions_exact =
    record {
      same = Equal;
      reflexive = λ a. omega arith;
      symmetric = λ p. omega arith;
      transitive = λ p. λ q. transitive p q;
      zero = whole 0;
      one = whole 1;
      negate = negate_f;
      times = times_f;
      plus_same = λ p. λ q. plus_same p q;
      times_same = λ p. λ q. times_same p q;
      plus_assoc = λ a. λ b. λ c. omega arith;
      plus_comm = plus_comm;
      plus_zero = λ a. omega arith;
      plus_negate = λ a. omega arith;
      times_assoc = λ a. λ b. λ c. omega arith;
      times_comm = times_comm;
      times_one = λ a. omega arith;
      times-plus = times-plus;
      over_is = λ a. λ b. over_is a (inverse_f b);
      inverse = λ b. λ n. inverse_at b (b.up - b.down) (b.down - b.up) refl refl (λ e. n (omega arith));
      two_is = omega arith;
      three_is = omega arith;
      six_is = omega arith;
      six_not_zero = λ e. omega arith;
    }

-- Vectors of three fractions, and what a ball on the ground has: position, velocity and spin.
abbrev pub Vector : Type 0
Vector = Fraction × (Fraction × Fraction)

abbrev pub Moving : Type 0
Moving = Vector × (Vector × Vector)

abbrev pub vectors : Space Fraction Vector
vectors = let x = line fractions times_f in pairs x (pairs x x)

abbrev pub motions : Space Fraction Moving
motions = pairs vectors (pairs vectors vectors)

abbrev pub SameVector : Vector → Vector → Type 0
SameVector v w = Equal v.0 w.0 × (Equal v.1.0 w.1.0 × Equal v.1.1 w.1.1)

abbrev pub SameMotion : Moving → Moving → Type 0
SameMotion v w = SameVector v.0 w.0 × (SameVector v.1.0 w.1.0 × SameVector v.1.1 w.1.1)

pub vectors_linear : Linear fractions_exact vectors
unfolding fractions_exact
vectors_linear = let x = line_linear fractions_exact in pairs_linear x (pairs_linear x x)

pub motions_linear : Linear fractions_exact motions
motions_linear = pairs_linear vectors_linear (pairs_linear vectors_linear vectors_linear)

-- Both steppers are the classical method at exact fractions.
pub step_at_fractions :
    (a : Vector → Vector → Fraction → Vector) (x v : Vector) (t h : Fraction) →
    step_in fractions vectors a x v t h ≡ classical fractions (pairs vectors vectors) (λ y. λ u. (y.1, a y.0 y.1 u)) (x, v) t h
step_at_fractions a x v t h = step_is_classical fractions vectors a x v t h

pub step_state_at_fractions :
    (f : Moving → Fraction → Moving) (s : Moving) (t h : Fraction) →
    SameMotion (step_state_in fractions (moved_in motions) f s t h) (classical fractions motions f s t h)
unfolding fractions_exact line_linear pairs_linear vectors_linear motions_linear
step_state_at_fractions f s t h = step_state_is_classical motions_linear f s t h

-- y' = y from 1 over h = 1 gives 1 + 1 + 1/2 + 1/6 + 1/24 = 65/24.
pub growth :
    Equal (classical fractions (line fractions times_f) (λ y. λ t. y) (whole 1) (whole 0) (whole 1))
    (record { up = 65; down = 0; den = 24; positive = omega arith })
unfolding classical reciprocal
growth = record { cross = refl }

pub growth_step_state :
    Equal (step_state_in fractions (moved_in (line fractions times_f)) (λ y. λ t. y) (whole 1) (whole 0) (whole 1))
    (record { up = 65; down = 0; den = 24; positive = omega arith })
unfolding moved_in reciprocal
growth_step_state = record { cross = refl }
