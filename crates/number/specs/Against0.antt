-- Lemmas. Sums, differences and quotients against 0: what is taken away makes no double greater, the difference of two unequal doubles is not lost
-- (gradual underflow), and a quotient of what is not below 0 is not below 0. Assumes nothing.
use Rattle.std.specs.Prelude.{◌≡◌, ℕ, ◌+◌, ◌*◌, ◌^◌, ◌<◌, ◌≤◌, Bool, true, false, cond, not, T, ℤ, pos, negsuc, ◌==◌, refl, Float}
use Rattle.std.proofs.Common.{sym, ◌∙◌, add-mul, lt_of_mul-lt-mul_right, mul-le-mul_right, mul-pos, mul_assoc, mul_comm, mul_left_comm, mul_right_comm, one-mul, zero-mul, zero-lt-suc, eqb→eq, pow_pos}
use Rattle.std.proofs.Math.Path.{ap, subst}
use Rattle.std.proofs.Math.Nat.{mul-one}
use native.Mathlib.Omega.{arith}
use Rattle.std.proofs.Math.Dec.{not_T}
use Rattle.std.specs.Float.{nan, inf, fin}
use Rattle.std.specs.Float.Ieee.{binary64, low, up, down, unlike, round, add, sub, div, neg, lt, le, fits, is_nan}
use Rattle.std.specs.Float.Ieee.Fits.{down_pos, up_pos, sub-fits}
use Rattle.std.specs.Float.Ieee.Positive.{first_pos}
use Rattle.number.specs.Ops.{◌⊕◌, ◌⊖◌, ◌⊘◌, dec}
use Rattle.number.specs.Number.{min_of, finite_of}
use Rattle.number.specs.Order.{pp, np, Le, le→, read_lt, scale, apart, nlt-le, lt-le, le_self, lt-nle, lt-le_trans, le_through, neg_finite, neg-le}
use Rattle.number.specs.Rounding.{on_grid, round-le, round_above, round_below, summed, parts, zero_is, not_negative, add_grows}

-- < and then ≤, also to an infinity
pub lt_through : (x y z : Float) → T (finite_of x) → T (finite_of y) → T (lt x y) → T (le y z) → T (lt x z)
lt_through (fin s m e) (fin t n d) nan i j p q = absurd (unfold le in q)
lt_through nan y z i j p q = elim i [ ]
lt_through (inf _) y z i j p q = elim i [ ]
lt_through (fin s m e) nan z i j p q = elim j [ ]
lt_through (fin s m e) (inf _) z i j p q = elim j [ ]
lt_through (fin s m e) (fin t n d) (inf true) i j p q = absurd (unfold le in q)
lt_through (fin s m e) (fin t n d) (inf false) i j p q = unfold lt in tt
lt_through (fin s m e) (fin t n d) (fin u l g) i j p q = lt-le_trans (fin s m e) (fin t n d) (fin u l g) i j tt p q

-- ---- what is not above 0, added, does not make a sum greater
shrink_order : (p n E q m D P N : ℕ) → P + (n * D + m * E) ≡ p * D + q * E + N → q ≤ m → P * E + n * (E * D) ≤ p * (E * D) + N * E
shrink_order p n E q m D P N i h =
    let a = simp (add-mul, mul_assoc, mul_comm) at (ap (λ (z : ℕ). z * E) i) in
    let b = simp (mul_comm, mul_left_comm) at (mul-le-mul_right (E * E) h) in
    simp mul_comm (omega arith)

not_positive : (t : Bool) (n : ℕ) (d : ℤ) → T (le (fin t n d) (dec 0 1)) → pp t (n * up d) ≤ np t (n * up d)
not_positive t n d h =
    let l : Le t (n * up d * 1) false (0 * 1 * down d) = le→ t n d false 0 (pos 0) (subst (λ (z : Float). T (le (fin t n d) z)) zero_is h) in
    omega (arith, zero-mul (down d), (scale t (n * up d) 1).0, (scale t (n * up d) 1).1, mul-one (np t (n * up d)), mul-one (pp t (n * up d)))

pub add_shrinks : (x y : Float) → T (fits binary64 x) → T (finite_of x) → T (finite_of y) → T (le y (dec 0 1)) → T (le (x ⊕ y) x)
unfolding add
add_shrinks nan y f i j h = elim i [ ]
add_shrinks (inf _) y f i j h = elim i [ ]
add_shrinks (fin s m e) nan f i j h = elim j [ ]
add_shrinks (fin s m e) (inf _) f i j h = elim j [ ]
add_shrinks (fin s m e) (fin t n d) f i j h =
    let A = summed binary64 s (m * up e * down d) t (n * up d * down e) (down e * down d) in
    rw A.is
    (round_below binary64 (fin s m e) A.sign A.size (down e * down d) f (mul-pos (down_pos e) (down_pos d))
    (apart A.sign A.size (down e) s (m * up e) (down e * down d)
    (shrink_order (pp s (m * up e)) (np s (m * up e)) (down e) (pp t (n * up d)) (np t (n * up d)) (down d) (pp A.sign A.size) (np A.sign A.size)
    (parts binary64 s (m * up e) (down d) t (n * up d) (down e) (down e * down d) A) (not_positive t n d h))))

pub sub_shrinks : (x y : Float) → T (fits binary64 x) → T (finite_of x) → T (finite_of y) → T (le (dec 0 1) y) → T (le (x ⊖ y) x)
unfolding sub
sub_shrinks x y f i j h =
    add_shrinks x (neg y) f i (neg_finite y j) (le_through (neg y) (neg (dec 0 1)) (dec 0 1) (neg-le (dec 0 1) y h)
    (unfold neg in unfold round in unfold le in tt))

-- ---- gradual underflow: two unequal doubles differ by at least the least double above 0, 2 ^ -1074
abbrev least : Float
least = fin false 1 (negsuc 1073)

one_apart : (p q c a : ℕ) → 0 < a → a + p * c ≡ q * c → c ≤ a
one_apart p q c a A h =
    let l : p < q = lt_of_mul-lt-mul_right c (omega (arith, h, A)) in
    let k = mul-le-mul_right c l in
    omega (arith, h, add-mul p 1 c, one-mul c, k)

-- the sign and the size of a difference that is above 0
above_0 : (r : Bool) (size a b : ℕ) → pp r size + a ≡ b + np r size → a < b → (r ≡ false) × (size + a ≡ b) × (0 < size)
above_0 false size a b h l = (refl, omega (arith, h), omega (arith, h, l))
above_0 true size a b h l = absurd (omega (arith, h, l))

flipped : (s : Bool) (a : ℕ) → (pp (not s) a ≡ np s a) × (np (not s) a ≡ pp s a)
flipped true a = (refl, refl)
flipped false a = (refl, refl)

-- ±x in smallest values: L of them are 1, and x = g / L
in_units_lem : (s : Bool) (x L g c : ℕ) → x * L ≡ g * c → (pp s x * L ≡ pp s g * c) × (np s x * L ≡ np s g * c)
in_units_lem s x L g c h = (sym (scale s x L).0 ∙ ap (pp s) h ∙ (scale s g c).0, sym (scale s x L).1 ∙ ap (np s) h ∙ (scale s g c).1)

units_apart : (t : Bool) (y gy : ℕ) (u : Bool) (x gx L c size : ℕ) → y * L ≡ gy * c → x * L ≡ gx * c → size + (np t y + np u x) ≡ pp t y + pp u x → 0 < size
    → 0 < L → c ≤ size * L
units_apart t y gy u x gx L c size i j h p q =
    let a = in_units_lem t y L gy c i in
    let b = in_units_lem u x L gx c j in
    let k = simp add-mul at (ap (λ (z : ℕ). z * L) h) in
    one_apart (np t gy + np u gx) (pp t gy + pp u gx) c (size * L) (mul-pos p q)
    (rw (add-mul (np t gy) (np u gx) c, add-mul (pp t gy) (pp u gx) c) (omega (arith, k, a.0, a.1, b.0, b.1)))

common : (x D L g E : ℕ) → x * L ≡ g * E → x * D * L ≡ g * (E * D)
common x D L g E h = mul_right_comm x D L ∙ ap (λ (z : ℕ). z * D) h ∙ mul_assoc g E D

-- a fraction of at least the least double above 0
kept : (a c : ℕ) → 0 < c → c ≤ a * 2 ^ low binary64 → T (lt (dec 0 1) (round binary64 false a c))
kept a c p h =
    lt_through (dec 0 1) least (round binary64 false a c) (unfold round in tt) tt (unfold round in unfold lt in tt)
    (round_above binary64 least false a c (unfold fits in tt) p (plain c (a * 2 ^ low binary64) h))
  where
    plain : (c n : ℕ) → c ≤ n → 1 * c + 0 ≤ n + 0
    plain c n h = omega arith

pub sub_positive : (x y : Float) → T (fits binary64 x) → T (fits binary64 y) → T (finite_of x) → T (finite_of y) → T (lt x y) → T (lt (dec 0 1) (y ⊖ x))
unfolding sub neg add
sub_positive nan y f g i j h = elim i [ ]
sub_positive (inf _) y f g i j h = elim i [ ]
sub_positive (fin s m e) nan f g i j h = elim j [ ]
sub_positive (fin s m e) (inf _) f g i j h = elim j [ ]
sub_positive (fin s m e) (fin t n d) f g i j h =
    let L = 2 ^ low binary64 in
    let Y = n * up d * down e in
    let X = m * up e * down d in
    let c = down d * down e in
    let G = on_grid binary64 s m e f in
    let H = on_grid binary64 t n d g in
    let A = summed binary64 t Y (not s) X c in
    let l = read_lt s X t Y (unfold lt in h) in
    let w = flipped s X in
    let B = above_0 A.sign A.size (np t Y + np (not s) X) (pp t Y + pp (not s) X) A.exact (omega (arith, l, w.0, w.1)) in
    let k = units_apart t Y (H.q * 2 ^ H.j) (not s) X (G.q * 2 ^ G.j) L c A.size (common (n * up d) (down e) L (H.q * 2 ^ H.j) (down d) H.same)
    (common (m * up e) (down d) L (G.q * 2 ^ G.j) (down e) G.same ∙ ap (λ (z : ℕ). G.q * 2 ^ G.j * z) (mul_comm (down e) (down d))) B.1 B.2
    (pow_pos (low binary64)) in
    subst (λ (z : Float). T (lt (dec 0 1) z)) (sym A.is) (subst (λ (r : Bool). T (lt (dec 0 1) (round binary64 r A.size c))) (sym B.0)
    (kept A.size c (mul-pos (down_pos d) (down_pos e)) k))

-- what is at least x, less x, is from 0 on
from_0_size : (r : Bool) (size a b c : ℕ) → pp r size + a ≡ b + np r size → a ≤ b → 0 < c → T (le (dec 0 1) (round binary64 r size c))
from_0_size false size a b c h l p = round-le binary64 false 0 1 false size c (zero-lt-suc 0) p (omega (arith, zero-mul c))
from_0_size true size a b c h l p = round-le binary64 false 0 1 true size c (zero-lt-suc 0) p (omega (arith, zero-mul c, h, l))

pub sub_from_0 : (x y : Float) → T (finite_of x) → T (finite_of y) → T (le x y) → T (le (dec 0 1) (y ⊖ x))
unfolding sub neg add
sub_from_0 nan y i j h = elim i [ ]
sub_from_0 (inf _) y i j h = elim i [ ]
sub_from_0 (fin s m e) nan i j h = elim j [ ]
sub_from_0 (fin s m e) (inf _) i j h = elim j [ ]
sub_from_0 (fin s m e) (fin t n d) i j h =
    let Y = n * up d * down e in
    let X = m * up e * down d in
    let c = down d * down e in
    let A = summed binary64 t Y (not s) X c in
    let l = le→ s m e t n d h in
    let w = flipped s X in
    subst (λ (z : Float). T (le (dec 0 1) z)) (sym A.is)
    (from_0_size A.sign A.size (np t Y + np (not s) X) (pp t Y + pp (not s) X) c A.exact (omega (arith, l, w.0, w.1))
    (mul-pos (down_pos d) (down_pos e)))

-- ---- not below 0; a NaN is not below 0 either
abbrev pub NotBelow : Float → Type 0
NotBelow x = T (not (lt x (dec 0 1)))

pub not_below : (x : Float) → T (le (dec 0 1) x) → NotBelow x
not_below nan h = unfold lt in tt
not_below (inf true) h = absurd (unfold round in unfold le in h)
not_below (inf false) h = unfold round in unfold lt in tt
not_below (fin s m e) h = not_T (lt (fin s m e) (dec 0 1)) (λ l. lt-nle (fin s m e) (dec 0 1) tt (unfold round in tt) l h)

pub from_0 : (x : Float) → T (finite_of x) → NotBelow x → T (le (dec 0 1) x)
from_0 x i h = nlt-le x (dec 0 1) i (unfold round in tt) h

-- time goes on: a double with what is not below 0 added is no less, where the sum is finite
pub add_onward : (x y : Float) → T (fits binary64 x) → T (finite_of x) → NotBelow y → T (finite_of (x ⊕ y)) → T (le x (x ⊕ y))
add_onward (fin s m e) nan f i h k = absurd (unfold add in k)
add_onward nan y f i h k = elim i [ ]
add_onward (inf _) y f i h k = elim i [ ]
add_onward (fin s m e) (inf t) f i h k = absurd (unfold add in k)
add_onward (fin s m e) (fin t n d) f i h k = add_grows (fin s m e) (fin t n d) f tt tt (from_0 (fin t n d) tt h)

zero_not_below : (s : Bool) → NotBelow (fin s 0 (pos 0))
unfolding round lt
zero_not_below true = tt
zero_not_below false = tt

divided : (s : Bool) (m : ℕ) (e : ℤ) (a D c : ℕ) → T (le (dec 0 1) (fin s m e)) → a ≡ m * up e * D → 0 < c
    → T (le (dec 0 1) (round binary64 (unlike s false) a c))
divided false m e a D c h i p = round-le binary64 false 0 1 false a c (zero-lt-suc 0) p (omega (arith, zero-mul c))
divided true m e a D c h i p =
    let z : m * up e ≡ 0 = let l = not_negative true m e h in omega (arith, l) in
    let y : a ≡ 0 = i ∙ ap (λ (x : ℕ). x * D) z ∙ zero-mul D in
    round-le binary64 false 0 1 true a c (zero-lt-suc 0) p (omega (arith, zero-mul c, y))

above_0_size : (n : ℕ) (d : ℤ) → T (lt (dec 0 1) (fin false n d)) → 0 < n
above_0_size n d h =
    first_pos n (up d) (let l = read_lt false (0 * 1 * down d) false (n * up d * 1) (unfold round in unfold lt in h) in omega (arith, l, mul-one (n * up d)))

-- a quotient of what is not below 0 by what is above 0
pub quotient_not_below : (x y : Float) → NotBelow x → T (lt (dec 0 1) y) → NotBelow (x ⊘ y)
unfolding div
quotient_not_below nan y h k = unfold lt in tt
quotient_not_below (inf s) nan h k = unfold lt in tt
quotient_not_below (inf s) (inf t) h k = unfold lt in tt
quotient_not_below (inf true) (fin t n d) h k = absurd (unfold round in unfold lt in h)
quotient_not_below (inf false) (fin true n d) h k = absurd (unfold round in unfold lt in k)
quotient_not_below (inf false) (fin false n d) h k = unfold round in unfold lt in tt
quotient_not_below (fin s m e) nan h k = unfold lt in tt
quotient_not_below (fin s m e) (inf t) h k = zero_not_below (unlike s t)
quotient_not_below (fin s m e) (fin true n d) h k = absurd (unfold round in unfold lt in k)
quotient_not_below (fin s m e) (fin false n d) h k = go (n == 0) (eqb→eq n 0)
  where
    go : (b : Bool) → (T b → n ≡ 0)
        → NotBelow (cond b (cond (m == 0) nan (inf (unlike s false))) (round binary64 (unlike s false) (m * up e * down d) (n * up d * down e)))
    go true f = absurd (let z = f tt in let p = above_0_size n d k in omega (arith, z, p))
    go false f =
        not_below (round binary64 (unlike s false) (m * up e * down d) (n * up d * down e))
        (divided s m e (m * up e * down d) (down d) (n * up d * down e) (from_0 (fin s m e) tt h) refl
        (mul-pos (mul-pos (above_0_size n d k) (up_pos d)) (down_pos e)))

-- time u is time t with what is not below 0 added
pub record Onward (t u : Float) : Type 0 where
  pub by : Float
  pub forth : NotBelow by
  pub is : u ≡ t ⊕ by

pub onward_le : (t u : Float) → T (fits binary64 t) → T (finite_of t) → T (finite_of u) → Onward t u → T (le t u)
onward_le t u f i j h = rw h.is (add_onward t h.by f i h.forth (rw h.is at j))

-- what is not below 0 and below a finite number is from 0 on
pub below_from_0 : (x y : Float) → T (finite_of y) → NotBelow x → T (lt x y) → T (le (dec 0 1) x)
below_from_0 nan (fin t n d) j h k = absurd (unfold lt in k)
below_from_0 nan nan j h k = elim j [ ]
below_from_0 nan (inf _) j h k = elim j [ ]
below_from_0 (inf false) nan j h k = elim j [ ]
below_from_0 (inf false) (inf _) j h k = elim j [ ]
below_from_0 (inf true) nan j h k = elim j [ ]
below_from_0 (inf true) (inf _) j h k = elim j [ ]
below_from_0 (fin s m e) nan j h k = elim j [ ]
below_from_0 (fin s m e) (inf _) j h k = elim j [ ]
below_from_0 (inf true) (fin t n d) j h k = absurd (unfold round in unfold lt in h)
below_from_0 (inf false) (fin t n d) j h k = absurd (unfold lt in k)
below_from_0 (fin s m e) (fin t n d) j h k = from_0 (fin s m e) tt h

-- ---- the lesser of a finite number and another is the other only where that is less
pub min_either : (P : Float → Type 0) (a b : Float) → T (finite_of a) → P a → (T (lt b a) → P b) → P (min_of a b)
unfolding min_of is_nan
min_either P nan b i p q = elim i [ ]
min_either P (inf _) b i p q = elim i [ ]
min_either P (fin s m e) b i p q = go (lt b (fin s m e)) q
  where
    go : (c : Bool) → (T c → P b) → P (cond c b (fin s m e))
    go true f = f tt
    go false f = p

-- ---- the lesser of a double dt above 0 and the time left, from t to a later end: a double above 0, at most dt
pub record StepLength (dt h : Float) : Type 0 where
  pub double : T (fits binary64 h)
  pub above_0 : T (lt (dec 0 1) h)
  pub at_most : T (le h dt)

pub step_length : (dt t end : Float) → T (fits binary64 dt) → T (finite_of dt) → T (lt (dec 0 1) dt) → T (fits binary64 t) → T (finite_of t)
    → T (fits binary64 end) → T (finite_of end) → T (lt t end) → StepLength dt (min_of dt (end ⊖ t))
step_length dt t end f i p g j h k l =
    min_either (StepLength dt) dt (end ⊖ t) i (record { double = f; above_0 = p; at_most = le_self dt i })
    (λ m. record { double = sub-fits binary64 end t; above_0 = sub_positive t end g h j k l; at_most = lt-le (end ⊖ t) dt m })
