-- Lemmas. The order of finite doubles by value: a total order in which the two zeros are equal. Assumes nothing.
use Rattle.std.specs.Prelude.{◌≡◌, ℕ, ◌+◌, ◌*◌, ◌<◌, ◌≤◌, Bool, true, false, not, ◌&&◌, ◌||◌, T, ◌⊎◌, ℤ, ◌==◌, refl, Float}
use Rattle.std.proofs.Common.{sym, subst, inl, inr, le_refl, le_of_suc-le-suc, lt_of_not-le, le_antisymm, not-le_of_lt, eq-or-lt_of_le, add-mul, zero-mul, mul_right_comm, mul-le-mul_right, le_of_mul-le-mul_right, arith, T_not, eqb→eq, ltb→lt, lt→ltb}
use Rattle.std.proofs.Math.Bool.{beq}
use Rattle.std.proofs.Math.Dec.{eqb_refl}
use Rattle.std.specs.Float.{nan, inf, fin}
use Rattle.std.specs.Float.Ieee.{up, down, neg, lt, eq, le, below, level}
use Rattle.std.specs.Float.Ieee.Fits.{down_pos, and_i, and_l, and_r}
use Rattle.number.specs.Number.{finite_of, within_of}

-- ---- tests
or_l : (a b : Bool) → T a → T (a || b)
or_l true b t = tt
or_l false b t = absurd t

or_r : (a b : Bool) → T b → T (a || b)
or_r true b t = tt
or_r false b t = t

or_split : (a b : Bool) → T (a || b) → T a ⊎ T b
or_split true b t = inl tt
or_split false b t = inr t

same : (a b : ℕ) → a ≡ b → T (a == b)
same a b p = subst (λ (x : ℕ). T (a == x)) p (eqb_refl a)

-- a test that does not fail passes
holds : (b : Bool) → (T (not b) → ⊥) → T b
holds true n = tt
holds false n = n tt

-- ---- a signed magnitude ±a, here a sign (true for minus) and a size, is its positive part pp less its negative part np
abbrev pub pp : Bool → ℕ → ℕ
pp false a = a
pp true a = 0

abbrev pub np : Bool → ℕ → ℕ
np false a = 0
np true a = a

-- ±a ≤ ±b, ±a < ±b and ±a = ±b
abbrev pub Le : Bool → ℕ → Bool → ℕ → Type 0
Le s a t b = pp s a + np t b ≤ pp t b + np s a

abbrev pub Lt : Bool → ℕ → Bool → ℕ → Type 0
Lt s a t b = pp s a + np t b < pp t b + np s a

abbrev pub Eq : Bool → ℕ → Bool → ℕ → Type 0
Eq s a t b = pp s a + np t b ≡ pp t b + np s a

pub read_lt : (s : Bool) (a : ℕ) (t : Bool) (b : ℕ) → T (below s a t b) → Lt s a t b
read_lt false a false b h = let l = ltb→lt a b h in omega arith
read_lt false a true b h = absurd h
read_lt true a false b h = let l = ltb→lt 0 (a + b) h in omega arith
read_lt true a true b h = let l = ltb→lt b a h in omega arith

write_lt : (s : Bool) (a : ℕ) (t : Bool) (b : ℕ) → Lt s a t b → T (below s a t b)
write_lt false a false b h = lt→ltb a b (omega arith)
write_lt false a true b h = absurd (none h)
  where
    none : a + b < 0 + 0 → ⊥
    none l = omega arith
write_lt true a false b h = lt→ltb 0 (a + b) (omega arith)
write_lt true a true b h = lt→ltb b a (omega arith)

read_eq : (s : Bool) (a : ℕ) (t : Bool) (b : ℕ) → T (level s a t b) → Eq s a t b
read_eq false a false b h = let l = eqb→eq a b (and_l (a == b) true h) in omega arith
read_eq false a true b h = let l = eqb→eq a b (and_l (a == b) (a == 0) h) in let z = eqb→eq a 0 (and_r (a == b) (a == 0) h) in omega arith
read_eq true a false b h = let l = eqb→eq a b (and_l (a == b) (a == 0) h) in let z = eqb→eq a 0 (and_r (a == b) (a == 0) h) in omega arith
read_eq true a true b h = let l = eqb→eq a b (and_l (a == b) true h) in omega arith

write_eq : (s : Bool) (a : ℕ) (t : Bool) (b : ℕ) → Eq s a t b → T (level s a t b)
write_eq false a false b h = and_i (a == b) true (same a b (omega arith)) tt
write_eq false a true b h = and_i (a == b) (a == 0) (same a b (omega arith)) (same a 0 (omega arith))
write_eq true a false b h = and_i (a == b) (a == 0) (same a b (omega arith)) (same a 0 (omega arith))
write_eq true a true b h = and_i (a == b) true (same a b (omega arith)) tt

-- ---- finite floats, by their magnitudes over the common denominator
pub le→ : (s : Bool) (m : ℕ) (e : ℤ) (t : Bool) (n : ℕ) (d : ℤ) → T (le (fin s m e) (fin t n d)) → Le s (m * up e * down d) t (n * up d * down e)
unfolding le
le→ s m e t n d h = elim (or_split (lt (fin s m e) (fin t n d)) (eq (fin s m e) (fin t n d)) h) [
  | inl p ↦ let l = read_lt s (m * up e * down d) t (n * up d * down e) p in omega arith
  | inr q ↦ let l = read_eq s (m * up e * down d) t (n * up d * down e) q in omega arith
]

pub →le : (s : Bool) (m : ℕ) (e : ℤ) (t : Bool) (n : ℕ) (d : ℤ) → Le s (m * up e * down d) t (n * up d * down e) → T (le (fin s m e) (fin t n d))
unfolding le
→le s m e t n d h = elim (eq-or-lt_of_le h) [
  | inl p ↦ or_r (lt (fin s m e) (fin t n d)) (eq (fin s m e) (fin t n d)) (write_eq s (m * up e * down d) t (n * up d * down e) p)
  | inr q ↦ or_l (lt (fin s m e) (fin t n d)) (eq (fin s m e) (fin t n d)) (write_lt s (m * up e * down d) t (n * up d * down e) q)
]

-- ---- three fractions ±x / E, ±y / D, ±z / G: what holds of the first two and of the last two holds of the outer two
pub scale : (s : Bool) (a k : ℕ) → (pp s (a * k) ≡ pp s a * k) × (np s (a * k) ≡ np s a * k)
scale false a k = (refl, sym (zero-mul k))
scale true a k = (sym (zero-mul k), refl)

sums : (p q r t k : ℕ) → p + q ≤ r + t → p * k + q * k ≤ r * k + t * k
sums p q r t k h = subst (λ (z : ℕ). p * k + q * k ≤ z) (add-mul r t k) (subst (λ (z : ℕ). z ≤ (r + t) * k) (add-mul p q k) (mul-le-mul_right k h))

unsums : (p q r t k : ℕ) → 0 < k → p * k + q * k ≤ r * k + t * k → p + q ≤ r + t
unsums p q r t k K h = le_of_mul-le-mul_right (subst (λ (z : ℕ). (p + q) * k ≤ z) (sym (add-mul r t k)) (subst (λ (z : ℕ). z ≤ r * k + t * k) (sym (add-mul p q k)) h)) K

cross : (P N E Q M D R L G : ℕ) → 0 < D → P * D + M * E ≤ Q * E + N * D → Q * G + L * D ≤ R * D + M * G → P * G + L * E ≤ R * E + N * G
cross P N E Q M D R L G d h k =
    unsums (P * G) (L * E) (R * E) (N * G) D d
    (omega (arith, sums (P * D) (M * E) (Q * E) (N * D) G h, sums (Q * G) (L * D) (R * D) (M * G) E k, mul_right_comm P D G, mul_right_comm M E G, mul_right_comm Q E G, mul_right_comm N D G, mul_right_comm L D E, mul_right_comm R D E))

-- a factor taken out of both sides, and put back
pub together : (s : Bool) (x D : ℕ) (t : Bool) (y E : ℕ) → Le s (x * D) t (y * E) → pp s x * D + np t y * E ≤ pp t y * E + np s x * D
together s x D t y E h = omega (arith, (scale s x D).0, (scale s x D).1, (scale t y E).0, (scale t y E).1)

pub apart : (s : Bool) (x D : ℕ) (t : Bool) (y E : ℕ) → pp s x * D + np t y * E ≤ pp t y * E + np s x * D → Le s (x * D) t (y * E)
apart s x D t y E h = omega (arith, (scale s x D).0, (scale s x D).1, (scale t y E).0, (scale t y E).1)

pub chain : (s : Bool) (x E : ℕ) (t : Bool) (y D : ℕ) (u : Bool) (z G : ℕ) → 0 < D → Le s (x * D) t (y * E) → Le t (y * G) u (z * D) → Le s (x * G) u (z * E)
chain s x E t y D u z G d h k =
    apart s x G u z E
    (cross (pp s x) (np s x) E (pp t y) (np t y) D (pp u z) (np u z) G d (together s x D t y E h) (together t y G u z D k))

-- ---- ≤ is transitive
pub le_chain : (x y z : Float) → T (finite_of x) → T (finite_of y) → T (finite_of z) → T (le x y) → T (le y z) → T (le x z)
le_chain nan y z i j k p q = elim i [ ]
le_chain (inf _) y z i j k p q = elim i [ ]
le_chain (fin s m e) nan z i j k p q = elim j [ ]
le_chain (fin s m e) (inf _) z i j k p q = elim j [ ]
le_chain (fin s m e) (fin t n d) nan i j k p q = elim k [ ]
le_chain (fin s m e) (fin t n d) (inf _) i j k p q = elim k [ ]
le_chain (fin s m e) (fin t n d) (fin u l g) i j k p q =
    →le s m e u l g (chain s (m * up e) (down e) t (n * up d) (down d) u (l * up g) (down g) (down_pos d) (le→ s m e t n d p) (le→ t n d u l g q))

-- the same with infinities: where x ≤ y holds neither is a NaN
pub le_through : (x y z : Float) → T (le x y) → T (le y z) → T (le x z)
unfolding le lt eq
le_through nan y z p q = absurd p
le_through (inf s) nan z p q = absurd p
le_through (inf s) (inf t) nan p q = absurd q
le_through (inf true) (inf t) (inf true) p q = tt
le_through (inf true) (inf t) (inf false) p q = tt
le_through (inf false) (inf true) (inf u) p q = absurd p
le_through (inf false) (inf false) (inf u) p q = q
le_through (inf true) (inf t) (fin u l g) p q = tt
le_through (inf false) (inf true) (fin u l g) p q = absurd p
le_through (inf false) (inf false) (fin u l g) p q = absurd q
le_through (inf s) (fin t n d) nan p q = absurd q
le_through (inf true) (fin t n d) (inf true) p q = tt
le_through (inf true) (fin t n d) (inf false) p q = tt
le_through (inf false) (fin t n d) (inf u) p q = absurd p
le_through (inf true) (fin t n d) (fin u l g) p q = tt
le_through (inf false) (fin t n d) (fin u l g) p q = absurd p
le_through (fin s m e) nan z p q = absurd p
le_through (fin s m e) (inf t) nan p q = absurd q
le_through (fin s m e) (inf true) (inf u) p q = absurd p
le_through (fin s m e) (inf false) (inf true) p q = absurd q
le_through (fin s m e) (inf false) (inf false) p q = tt
le_through (fin s m e) (inf true) (fin u l g) p q = absurd p
le_through (fin s m e) (inf false) (fin u l g) p q = absurd q
le_through (fin s m e) (fin t n d) nan p q = absurd q
le_through (fin s m e) (fin t n d) (inf true) p q = absurd q
le_through (fin s m e) (fin t n d) (inf false) p q = tt
le_through (fin s m e) (fin t n d) (fin u l g) p q = le_chain (fin s m e) (fin t n d) (fin u l g) tt tt tt p q

-- ---- ≤, < and equality of two floats. Equality is by value: the two zeros are equal
pub lt-le : (x y : Float) → T (lt x y) → T (le x y)
unfolding le
lt-le x y t = or_l (lt x y) (eq x y) t

pub eq-le : (x y : Float) → T (eq x y) → T (le x y)
unfolding le
eq-le x y t = or_r (lt x y) (eq x y) t

pub le_split : (x y : Float) → T (le x y) → T (lt x y) ⊎ T (eq x y)
unfolding le
le_split x y t = or_split (lt x y) (eq x y) t

pub nlt-le : (x y : Float) → T (finite_of x) → T (finite_of y) → T (not (lt x y)) → T (le y x)
unfolding lt
nlt-le nan y i j h = elim i [ ]
nlt-le (inf _) y i j h = elim i [ ]
nlt-le (fin s m e) nan i j h = elim j [ ]
nlt-le (fin s m e) (inf _) i j h = elim j [ ]
nlt-le (fin s m e) (fin t n d) i j h =
    →le t n d s m e
    (le_of_suc-le-suc (lt_of_not-le (λ (l : Lt s (m * up e * down d) t (n * up d * down e)).
    T_not (below s (m * up e * down d) t (n * up d * down e)) h (write_lt s (m * up e * down d) t (n * up d * down e) l))))

-- x < y and y ≤ x exclude each other
pub lt-nle : (x y : Float) → T (finite_of x) → T (finite_of y) → T (lt x y) → T (le y x) → ⊥
unfolding lt
lt-nle nan y i j p q = elim i [ ]
lt-nle (inf _) y i j p q = elim i [ ]
lt-nle (fin s m e) nan i j p q = elim j [ ]
lt-nle (fin s m e) (inf _) i j p q = elim j [ ]
lt-nle (fin s m e) (fin t n d) i j p q =
    not-le_of_lt (read_lt s (m * up e * down d) t (n * up d * down e) p) (le→ t n d s m e q)

pub nle-lt : (x y : Float) → T (finite_of x) → T (finite_of y) → T (not (le x y)) → T (lt y x)
nle-lt x y i j h = holds (lt y x) (λ (n : T (not (lt y x))). T_not (le x y) h (nlt-le y x j i n))

pub le_total : (x y : Float) → T (finite_of x) → T (finite_of y) → T (le x y) ⊎ T (le y x)
le_total x y i j = go (le x y) (λ (n : T (not (le x y))). lt-le y x (nle-lt x y i j n))
  where
    go : (b : Bool) → (T (not b) → T (le y x)) → T b ⊎ T (le y x)
    go true f = inl tt
    go false f = inr (f tt)

pub le_self : (x : Float) → T (finite_of x) → T (le x x)
le_self nan i = elim i [ ]
le_self (inf _) i = elim i [ ]
le_self (fin s m e) i = →le s m e s m e (le_refl (pp s (m * up e * down e) + np s (m * up e * down e)))

pub lt_irreflexive : (x : Float) → T (finite_of x) → T (lt x x) → ⊥
lt_irreflexive x i t = lt-nle x x i i t (le_self x i)

pub le_antisym : (x y : Float) → T (finite_of x) → T (finite_of y) → T (le x y) → T (le y x) → T (eq x y)
unfolding eq
le_antisym nan y i j p q = elim i [ ]
le_antisym (inf _) y i j p q = elim i [ ]
le_antisym (fin s m e) nan i j p q = elim j [ ]
le_antisym (fin s m e) (inf _) i j p q = elim j [ ]
le_antisym (fin s m e) (fin t n d) i j p q =
    write_eq s (m * up e * down d) t (n * up d * down e) (le_antisymm (le→ s m e t n d p) (le→ t n d s m e q))

-- ---- < with ≤
pub lt-le_trans : (x y z : Float) → T (finite_of x) → T (finite_of y) → T (finite_of z) → T (lt x y) → T (le y z) → T (lt x z)
lt-le_trans x y z i j k p q = holds (lt x z) (λ (n : T (not (lt x z))). lt-nle x y i j p (le_chain y z x j k i q (nlt-le x z i k n)))

pub le_lt_trans : (x y z : Float) → T (finite_of x) → T (finite_of y) → T (finite_of z) → T (le x y) → T (lt y z) → T (lt x z)
le_lt_trans x y z i j k p q = holds (lt x z) (λ (n : T (not (lt x z))). lt-nle y z j k q (le_chain z x y k i j (nlt-le x z i k n) p))

pub lt_trans : (x y z : Float) → T (finite_of x) → T (finite_of y) → T (finite_of z) → T (lt x y) → T (lt y z) → T (lt x z)
lt_trans x y z i j k p q = lt-le_trans x y z i j k p (lt-le y z q)

-- ---- equality by value is an equivalence
pub eq_self : (x : Float) → T (finite_of x) → T (eq x x)
eq_self x i = le_antisym x x i i (le_self x i) (le_self x i)

pub eq_sym : (x y : Float) → T (finite_of x) → T (finite_of y) → T (eq x y) → T (eq y x)
unfolding eq
eq_sym nan y i j h = elim i [ ]
eq_sym (inf _) y i j h = elim i [ ]
eq_sym (fin s m e) nan i j h = elim j [ ]
eq_sym (fin s m e) (inf _) i j h = elim j [ ]
eq_sym (fin s m e) (fin t n d) i j h = write_eq t (n * up d * down e) s (m * up e * down d) (sym (read_eq s (m * up e * down d) t (n * up d * down e) h))

pub eq_trans : (x y z : Float) → T (finite_of x) → T (finite_of y) → T (finite_of z) → T (eq x y) → T (eq y z) → T (eq x z)
eq_trans x y z i j k p q =
    le_antisym x z i k (le_chain x y z i j k (eq-le x y p) (eq-le y z q))
    (le_chain z y x k j i (eq-le z y (eq_sym y z j k q)) (eq-le y x (eq_sym x y i j p)))

pub both_zero : (s : Bool) (a : ℕ) (t : Bool) (b : ℕ) → a ≡ 0 → b ≡ 0 → Eq s a t b
both_zero false a false b p q = omega arith
both_zero false a true b p q = omega arith
both_zero true a false b p q = omega arith
both_zero true a true b p q = omega arith

pub zeros_eq : (s : Bool) (e : ℤ) (t : Bool) (d : ℤ) → T (eq (fin s 0 e) (fin t 0 d))
unfolding eq
zeros_eq s e t d = write_eq s (0 * up e * down d) t (0 * up d * down e) (both_zero s (0 * up e * down d) t (0 * up d * down e) (nought (up e) (down d)) (nought (up d) (down e)))
  where
    nought : (a b : ℕ) → 0 * a * b ≡ 0
    nought a b = rw (zero-mul a) (zero-mul b)

-- ---- a change of sign turns the order round
turn : (s : Bool) (a : ℕ) (t : Bool) (b : ℕ) → Le s a t b → Le (not t) b (not s) a
turn false a false b h = omega arith
turn false a true b h = omega arith
turn true a false b h = omega arith
turn true a true b h = omega arith

pub neg-le : (x y : Float) → T (le x y) → T (le (neg y) (neg x))
unfolding neg
neg-le nan y h = absurd (unfold le in h)
neg-le (inf s) nan h = absurd (unfold le in h)
neg-le (inf true) (inf t) h = unfold le in inf_le t
  where
    inf_le : (t : Bool) → T ((not t && true) || beq (not t) false)
    inf_le true = tt
    inf_le false = tt
neg-le (inf false) (inf true) h = absurd (unfold le in h)
neg-le (inf false) (inf false) h = unfold le in tt
neg-le (inf true) (fin t n d) h = unfold le in tt
neg-le (inf false) (fin t n d) h = absurd (unfold le in h)
neg-le (fin s m e) nan h = absurd (unfold le in h)
neg-le (fin s m e) (inf true) h = absurd (unfold le in h)
neg-le (fin s m e) (inf false) h = unfold le in tt
neg-le (fin s m e) (fin t n d) h = →le (not t) n d (not s) m e (turn s (m * up e * down d) t (n * up d * down e) (le→ s m e t n d h))

pub neg_finite : (x : Float) → T (finite_of x) → T (finite_of (neg x))
unfolding neg
neg_finite nan i = elim i [ ]
neg_finite (inf _) i = elim i [ ]
neg_finite (fin s m e) i = tt

-- ---- a range
pub within_lo : (lo hi x : Float) → T (within_of lo hi x) → T (le lo x)
unfolding within_of
within_lo lo hi x h = and_l (le lo x) (le x hi) h

pub within_hi : (lo hi x : Float) → T (within_of lo hi x) → T (le x hi)
unfolding within_of
within_hi lo hi x h = and_r (le lo x) (le x hi) h

pub within_of_lem : (lo hi x : Float) → T (le lo x) → T (le x hi) → T (within_of lo hi x)
unfolding within_of
within_of_lem lo hi x p q = and_i (le lo x) (le x hi) p q

pub between_finite : (lo hi x : Float) → T (finite_of lo) → T (finite_of hi) → T (le lo x) → T (le x hi) → T (finite_of x)
unfolding le
between_finite (fin s m e) (fin t n d) nan i j p q = p
between_finite nan hi _ i j p q = elim i [ ]
between_finite (inf _) hi _ i j p q = elim i [ ]
between_finite (fin s m e) nan _ i j p q = elim j [ ]
between_finite (fin s m e) (inf _) _ i j p q = elim j [ ]
between_finite (fin s m e) (fin t n d) (inf true) i j p q = p
between_finite (fin s m e) (fin t n d) (inf false) i j p q = q
between_finite (fin s m e) (fin t n d) (fin u l g) i j p q = tt

pub within_finite : (lo hi x : Float) → T (finite_of lo) → T (finite_of hi) → T (within_of lo hi x) → T (finite_of x)
within_finite lo hi x i j h = between_finite lo hi x i j (within_lo lo hi x h) (within_hi lo hi x h)
