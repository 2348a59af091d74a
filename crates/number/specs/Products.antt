-- Lemmas. Products with a sign turned and of what is not below 0, and doubles that are equal by value and above 0. Assumes nothing.
use Rattle.std.specs.Prelude.{◌≡◌, ℕ, ◌*◌, ◌<◌, ◌≤◌, Bool, true, false, cond, not, T, ℤ, ◌==◌, refl, Float}
use Rattle.std.proofs.Common.{sym, ◌∙◌, mul-one, mul-zero, zero-mul, mul-pos, zero-lt-suc, arith}
use Rattle.std.proofs.Math.Path.{ap}
use Rattle.std.specs.Float.{nan, inf, fin}
use Rattle.std.specs.Float.Ieee.{binary64, up, down, unlike, round, mul, neg, lt, le, fits}
use Rattle.std.specs.Float.Ieee.Fits.{down_pos}
use Rattle.number.specs.Ops.{◌⊗◌, dec}
use Rattle.number.specs.Number.{finite_of}
use Rattle.number.specs.Order.{pp, np, Le, le→, read_lt}
use Rattle.number.specs.Rounding.{value_unique, round-le, round-neg, not_negative}

not_not : (s : Bool) → not (not s) ≡ s
not_not true = refl
not_not false = refl

unlike_not : (s t : Bool) → unlike (not s) t ≡ not (unlike s t)
unlike_not true true = refl
unlike_not true false = refl
unlike_not false true = refl
unlike_not false false = refl

pub neg_neg : (x : Float) → neg (neg x) ≡ x
unfolding neg
neg_neg nan = refl
neg_neg (inf s) = ap inf (not_not s)
neg_neg (fin s m e) = ap (λ (t : Bool). fin t m e) (not_not s)

rounded_not : (s : Bool) (a c : ℕ) → round binary64 (not s) a c ≡ neg (round binary64 s a c)
rounded_not false a c = round-neg binary64 a c
rounded_not true a c = sym (neg_neg (round binary64 false a c)) ∙ ap neg (sym (round-neg binary64 a c))

nothing_or : (b : Bool) (s t : Bool) → cond b nan (inf (unlike (not s) t)) ≡ neg (cond b nan (inf (unlike s t)))
unfolding neg
nothing_or true s t = refl
nothing_or false s t = ap inf (unlike_not s t)

pub neg_mul : (x y : Float) → neg x ⊗ y ≡ neg (x ⊗ y)
unfolding mul neg
neg_mul nan y = refl
neg_mul (inf s) nan = refl
neg_mul (inf s) (inf t) = ap inf (unlike_not s t)
neg_mul (inf s) (fin t n d) = nothing_or (n == 0) s t
neg_mul (fin s m e) nan = refl
neg_mul (fin s m e) (inf t) = nothing_or (m == 0) s t
neg_mul (fin s m e) (fin t n d) =
    ap (λ (b : Bool). round binary64 b (m * up e * (n * up d)) (down e * down d)) (unlike_not s t)
    ∙ rounded_not (unlike s t) (m * up e * (n * up d)) (down e * down d)

-- a product of what is not below 0
pub product_from_0 : (x y : Float) → T (finite_of x) → T (finite_of y) → T (le (dec 0 1) x) → T (le (dec 0 1) y) → T (le (dec 0 1) (x ⊗ y))
unfolding mul
product_from_0 nan y i j h k = elim i [ ]
product_from_0 (inf _) y i j h k = elim i [ ]
product_from_0 (fin s m e) nan i j h k = elim j [ ]
product_from_0 (fin s m e) (inf _) i j h k = elim j [ ]
product_from_0 (fin s m e) (fin t n d) i j h k =
    round-le binary64 false 0 1 (unlike s t) (m * up e * (n * up d)) (down e * down d) (zero-lt-suc 0) (mul-pos (down_pos e) (down_pos d))
    (go s t (not_negative s m e h) (not_negative t n d k))
  where
    a : ℕ
    a = m * up e

    b : ℕ
    b = n * up d

    none : (z : ℕ) → a ≡ 0 → a * z ≡ 0
    none z p = ap (λ (w : ℕ). w * z) p ∙ zero-mul z

    go : (s t : Bool) → np s a ≤ pp s a → np t b ≤ pp t b → Le false (0 * (down e * down d)) (unlike s t) (a * b * 1)
    go false false p q = omega (arith, zero-mul (down e * down d))
    go true t p q =
        let z : a * b ≡ 0 = none b (omega (arith, p)) in
        empty (unlike true t) (omega (arith, z))
      where
        empty : (u : Bool) → a * b * 1 ≡ 0 → Le false (0 * (down e * down d)) u (a * b * 1)
        empty false y = omega (arith, zero-mul (down e * down d))
        empty true y = omega (arith, y, zero-mul (down e * down d))
    go false true p q =
        let z : b ≡ 0 = omega (arith, q) in
        let y : a * b ≡ 0 = ap (λ (w : ℕ). a * w) z ∙ mul-zero a in
        omega (arith, y, zero-mul (down e * down d))

-- doubles of one value are one double where it is above 0
pub same_of_le : (x y : Float) → T (fits binary64 x) → T (fits binary64 y) → T (finite_of x) → T (finite_of y) → T (lt (dec 0 1) x) → T (le x y) → T
    (le y x) → x ≡ y
same_of_le nan y f g i j h k l = elim i [ ]
same_of_le (inf _) y f g i j h k l = elim i [ ]
same_of_le (fin s m e) nan f g i j h k l = elim j [ ]
same_of_le (fin s m e) (inf _) f g i j h k l = elim j [ ]
same_of_le (fin true m e) (fin t n d) f g i j h k l = absurd (unfold round in unfold lt in h)
same_of_le (fin false m e) (fin true n d) f g i j h k l =
    absurd (let p = le→ false m e true n d k in let q = some m e h in let r = mul-pos q (down_pos d) in omega arith)
  where
    some : (m : ℕ) (e : ℤ) → T (lt (dec 0 1) (fin false m e)) → 0 < m * up e
    some m e h = let l = read_lt false (0 * 1 * down e) false (m * up e * 1) (unfold round in unfold lt in h) in omega
        (arith, l, mul-one (m * up e), zero-mul (down e))
same_of_le (fin false m e) (fin false n d) f g i j h k l =
    let p = le→ false m e false n d k in
    let q = le→ false n d false m e l in
    value_unique binary64 (fin false m e) (fin false n d) false (m * up e) (down e) (down_pos e) f g (refl, refl) (refl, omega arith)
