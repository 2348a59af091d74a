-- Statements. Penner's (2002) eq. 5 for the restitution of ball and turf, written once over a record of operations, with its instance at
-- doubles, which `Restitution::coefficient_at` computes, and the one at exact arithmetic, which is the polynomial.
-- Assumes nothing.
use Rattle.std.specs.Prelude.{◌≡◌, ℕ, ◌+◌, ◌*◌, Float}
use Rattle.std.proofs.Common.{ap, add-mul, mul-add, mul_assoc, mul_comm, mul_left_comm, arith}
use Rattle.number.specs.Ops.{◌⊕◌, ◌⊖◌, ◌⊗◌, dec}

-- Sum, difference, product, and the value of the decimal n / d.
pub record Arithmetic (A : Type 0) : Type 0 where
  pub plus : A → A → A
  pub minus : A → A → A
  pub times : A → A → A
  pub decimal : ℕ → ℕ → A

-- ground.rs, Restitution::coefficient_at: 0.510 - 0.0375 * v + 0.000_903 * v * v, from left to right
abbrev pub quadratic : {A : Type 0} → Arithmetic A → A → A
quadratic o v =
    o.plus
    (o.minus (o.decimal 510 1000) (o.times (o.decimal 375 10000) v))
    (o.times (o.times (o.decimal 903 1000000) v) v)

-- The operations of doubles, each rounded.
abbrev pub doubles : Arithmetic Float
doubles = record { plus = ◌⊕◌; minus = ◌⊖◌; times = ◌⊗◌; decimal = dec }

-- Penner's polynomial 0.510 - 0.0375·v + 0.000903·v², the square made first
abbrev pub polynomial : {A : Type 0} → Arithmetic A → A → A
polynomial o v =
    o.plus
    (o.minus (o.decimal 510 1000) (o.times (o.decimal 375 10000) v))
    (o.times (o.decimal 903 1000000) (o.times v v))

-- In exact arithmetic the product is associative, and there the two agree.
abbrev pub Exact : {A : Type 0} → Arithmetic A → Type 0
Exact {A} o = (a b c : A) → o.times (o.times a b) c ≡ o.times a (o.times b c)

pub quadratic_exact : {A : Type 0} (o : Arithmetic A) → Exact o → (v : A) → quadratic o v ≡ polynomial o v
quadratic_exact o e v =
    ap (o.plus (o.minus (o.decimal 510 1000) (o.times (o.decimal 375 10000) v))) (e (o.decimal 903 1000000) v v)

-- Exact fractions, not reduced: (more - less) / den. A difference of whole numbers stands for one that may be negative.
pub record Fraction : Type 0 where
  pub more : ℕ
  pub less : ℕ
  pub den : ℕ

abbrev pub fractions : Arithmetic Fraction
fractions = record {
  plus = λ x y. record { more = x.more * y.den + y.more * x.den; less = x.less * y.den + y.less * x.den; den = x.den * y.den };
  minus = λ x y. record { more = x.more * y.den + y.less * x.den; less = x.less * y.den + y.more * x.den; den = x.den * y.den };
  times = λ x y. record { more = x.more * y.more + x.less * y.less; less = x.more * y.less + x.less * y.more; den = x.den * y.den };
  decimal = λ n d. record { more = n; less = 0; den = d };
}

pub fractions_exact : Exact fractions
fractions_exact x y z = parts
    (simp (add-mul, mul-add, mul_assoc) (omega arith))
    (simp (add-mul, mul-add, mul_assoc) (omega arith))
    (mul_assoc x.den y.den z.den)
  where
    parts : {a b c a' b' c' : ℕ} → a ≡ a' → b ≡ b' → c ≡ c' → ◌≡◌ {A = Fraction} (record { more = a; less = b; den = c }) (record { more = a'; less = b'; den = c' })
    parts p q r = cc

-- At the speed p / q it is (510000·q² - 37500·p·q + 903·p²) / (1000000·q²), in whole numbers.
pub quadratic_value : (p q : ℕ) →
    let e = quadratic fractions (record { more = p; less = 0; den = q }) in
    e.more * (1000000 * (q * q)) + 37500 * (p * q) * e.den ≡ e.less * (1000000 * (q * q)) + (510000 * (q * q) + 903 * (p * p)) * e.den
quadratic_value p q = simp (add-mul, mul_assoc, mul_comm, mul_left_comm) (omega arith)
