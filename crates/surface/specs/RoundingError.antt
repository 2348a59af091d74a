-- Lemmas. How far a rounded fraction, product or sum of doubles can be from the exact one, in whole numbers.
-- Assumes nothing.
use Rattle.std.specs.Prelude.{◌≡◌, refl, Bool, true, false, not, cond, T, eqb, ltb, Float}
use Rattle.std.proofs.Common.{sym, ap, ◌∙◌, subst, true≢false, le_refl, le_trans, le_of_eq, le_of_lt, le_of_mul-le-mul_right, lt_of_lt_of_le, lt_of_mul-lt-mul_right, mod-lt, div-add-mod', div-lt_iff_lt-mul, add-mul, mul_assoc, mul_comm, mul_right_comm, mul-le-mul_right, mul-le-mul_left, mul-lt-mul_of_pos_right, mul-pos, pow-suc, arith, leb→le, eqb→eq, ltb→lt, nltb→le, pow-add, pow_mono, pow_pos}
use Prim.Native.Nat.{ℕ, suc, ◌+◌, ◌-◌, ◌*◌, ◌/◌, ◌%◌, ◌^◌, ◌≤◌, ◌<◌, compare, Ordering}
use Rattle.std.proofs.Math.Nat.{mul-sub, mul-mul-mul_comm}
use Rattle.std.proofs.Math.Dec.{is_le, compare_is_eq, nleb→lt, eqb_refl}
use Rattle.std.proofs.Math.Arith.{lt_of_le-ne}
use Rattle.std.specs.Float.{nan, inf, fin, Format, binary32, binary64}
use Rattle.std.specs.Float.Ieee.{prec, low, emax, up, down, size, nearest, round, neg, sum, add, sub, mul}
use Rattle.std.specs.Float.Ieee.Digits.{size-le}
use Rattle.std.specs.Float.Ieee.Exact.{HasValue, units_val}
use Rattle.std.specs.Float.Ieee.Fits.{round_is, down_pos}
use Rattle.std.specs.Float.Ieee.Nearest.{closest}
use Rattle.std.specs.Float.Ieee.Order.{drop, kept}
use Rattle.std.specs.Float.Ieee.Scale.{grid, overflow, round_same}
use Rattle.number.specs.Order.{pp, np}

-- ---- the nearest whole number to a / b is within a half of it
abbrev Cmp : Ordering → ℕ → ℕ → Type 0
Cmp Ordering.lt a b = a < b
Cmp Ordering.eq a b = a ≡ b
Cmp Ordering.gt a b = b < a

cmp : (a b : ℕ) → Cmp (compare a b) a b
cmp a b = go (compare a b) (leb→le a b) (nleb→lt a b) (eqb→eq a b) (λ (e : a ≡ b). subst (λ (x : ℕ). T (eqb a x)) e (eqb_refl a))
  where
    go : (o : Ordering) → (T (is_le o) → a ≤ b) → (T (not (is_le o)) → b < a) → (T (compare_is_eq o) → a ≡ b) → (a ≡ b → T (compare_is_eq o)) → Cmp o a b
    go Ordering.lt h k e n = lt_of_le-ne (h tt) n
    go Ordering.eq h k e n = e tt
    go Ordering.gt h k e n = k tt

abbrev Half : ℕ → ℕ → ℕ → Type 0
Half x a b = (x * b * 2 ≤ a * 2 + b) × (a * 2 ≤ x * b * 2 + b)

half : (w r a b : ℕ) (o : Ordering) → w * b + r ≡ a → r < b → Cmp o (r * 2) b → Half (nearest w o) a b
half w r a b Ordering.lt e l c = (omega arith, omega arith)
half w r a b Ordering.eq e l c =
    let x : (w + w % 2) * b ≡ w * b + w % 2 * b = add-mul w (w % 2) b in
    let y : w % 2 * b ≤ 1 * b = mul-le-mul_right b (omega arith) in
    (omega arith, omega arith)
half w r a b Ordering.gt e l c =
    let x : suc w * b ≡ w * b + b = omega arith in
    (omega arith, omega arith)

closest_half : (a b : ℕ) → 0 < b → Half (closest a b) a b
closest_half a b B = half (a / b) (a % b) a b (compare (a % b * 2) b) (div-add-mod' a b) (mod-lt a B) (cmp (a % b * 2) b)

-- ---- R / W is within d / W of a / c
abbrev pub Off : ℕ → ℕ → ℕ → ℕ → ℕ → Type 0
Off W d R a c = (R * c ≤ a * W + d * c) × (a * W ≤ R * c + d * c)

-- from the half of a unit of 2 ^ k, where that is d at most
off_half : (W d x u a c : ℕ) → Half x (a * W) (c * u) → u ≤ d * 2 → Off W d (x * u) a c
off_half W d x u a c h l =
    let m : c * u ≤ d * c * 2 = le_trans (le_of_eq (mul_comm c u)) (le_trans (mul-le-mul_right c l) (le_of_eq (mul_right_comm d 2 c))) in
    let e : x * (c * u) ≡ x * u * c = simp (mul_assoc, mul_comm) in
    (omega (arith, h.0, h.1), omega (arith, h.0, h.1))

-- a / c below 4 drops as many digits as leave a unit of 2 ^ emax at most
room : (f : Format) → low f + 2 - prec f ≡ suc (emax f - 1)
room binary32 = refl
room binary64 = refl

fewer : (z l p e : ℕ) → z ≤ l + 2 → l + 2 - p ≡ e → z - p ≤ e
fewer z l p e h k = omega arith

unit : (f : Format) (a c : ℕ) → 0 < c → a < 4 * c → 2 ^ drop (prec f) (a * 2 ^ low f) c ≤ 2 ^ (emax f - 1) * 2
unit f a c C h =
    let p : 2 ^ (low f + 2) ≡ 2 ^ low f * 4 = pow-add 2 (low f) 2 in
    let q : 4 * c * 2 ^ low f ≡ 2 ^ low f * 4 * c = simp (mul_assoc, mul_comm) in
    let z : size (a * 2 ^ low f / c) ≤ low f + 2 =
    size-le (a * 2 ^ low f / c) (low f + 2)
    ((div-lt_iff_lt-mul C).1 (lt_of_lt_of_le (mul-lt-mul_of_pos_right h (pow_pos (low f))) (le_of_eq (q ∙ ap (λ (x : ℕ). x * c) (sym p))))) in
    le_trans (pow_mono (fewer (size (a * 2 ^ low f / c)) (low f) (prec f) (suc (emax f - 1)) z (room f))) (le_of_eq (pow-suc 2 (emax f - 1)))

-- the rounded fraction, in units of the format's smallest value
pub grid_off : (f : Format) (a c : ℕ) → 0 < c → a < 4 * c → Off (2 ^ low f) (2 ^ (emax f - 1)) (grid f a c) a c
grid_off f a c C h =
    let k = drop (prec f) (a * 2 ^ low f) c in
    off_half (2 ^ low f) (2 ^ (emax f - 1)) (kept (prec f) (a * 2 ^ low f) c) (2 ^ k) a c
    (closest_half (a * 2 ^ low f) (c * 2 ^ k) (mul-pos C (pow_pos k))) (unit f a c C h)

-- A double z is ±R / W, with R within d of what a / c is in the units 1 / W.
pub record Rounded (W d : ℕ) (z : Float) (s : Bool) (a c : ℕ) : Type 0 where
  pub R : ℕ
  pub value : HasValue z s R W
  pub off : Off W d R a c

below : (R W d a c v : ℕ) → 0 < c → R * c ≤ a * W + d * c → a * W < 4 * W * c → d ≤ W → 5 * W ≤ v → R < v
below R W d a c v C o h l g5 =
    let m : d * c ≤ W * c = mul-le-mul_right c l in
    let n : 4 * W * c ≡ 4 * (W * c) = mul_assoc 4 W c in
    let g : R * c < 5 * W * c = lt_of_lt_of_le {m = 5 * (W * c)} (omega arith) (le_of_eq (sym (mul_assoc 5 W c))) in
    lt_of_lt_of_le (lt_of_mul-lt-mul_right c g) g5

reach : (W e : ℕ) → 5 * W ≤ W * 2 ^ (3 + e)
reach W e = le_trans (le_of_eq (mul_comm 5 W)) (mul-le-mul_left W (le_trans {m = 2 ^ 3} (omega arith) (pow_mono {i = 3} {j = 3 + e} (omega arith))))

in_range : (f : Format) → 5 * 2 ^ low f ≤ overflow f
in_range f = le_trans (reach (2 ^ low f) (suc (emax f) - 3)) (le_of_eq (sym (pow-add 2 (low f) (3 + (suc (emax f) - 3))) ∙ ap (λ (x : ℕ). 2 ^ (low f + x)) (size3 f)))
  where
    size3 : (f : Format) → 3 + (suc (emax f) - 3) ≡ suc (emax f)
    size3 binary32 = refl
    size3 binary64 = refl

finer : (f : Format) → 2 ^ (emax f - 1) ≤ 2 ^ low f
finer binary32 = pow_mono {i = 126} {j = 149} (omega arith)
finer binary64 = pow_mono {i = 1022} {j = 1074} (omega arith)

pub rounded : (f : Format) (s : Bool) (a c : ℕ) → 0 < c → a < 4 * c → Rounded (2 ^ low f) (2 ^ (emax f - 1)) (round f s a c) s a c
rounded f s a c C h =
    let o = grid_off f a c C h in
    let W = 2 ^ low f in
    let e : 4 * c * W ≡ 4 * W * c = mul_right_comm 4 c W in
    record {
      R = grid f a c;
      value =
          subst (λ (z : Float). HasValue z s (grid f a c) W) (sym (round_is f s a c))
          (units_val f s (kept (prec f) (a * W) c) (drop (prec f) (a * W) c)
          (below (grid f a c) W (2 ^ (emax f - 1)) a c (overflow f) C o.0 (lt_of_lt_of_le (mul-lt-mul_of_pos_right h (pow_pos (low f))) (le_of_eq e)) (finer f) (in_range f)));
      off = o;
    }

-- ---- the product and the sum of doubles, by the fractions that they equal
pub mul_of : (f : Format) (x y : Float) (a c b d : ℕ) → 0 < c → 0 < d → HasValue x false a c → HasValue y false b d → mul f x y ≡ round f false (a * b) (c * d)
unfolding mul
mul_of f nan y a c b d C D h k = absurd h
mul_of f (inf s) y a c b d C D h k = absurd h
mul_of f (fin true m e) y a c b d C D h k = absurd (true≢false h.0)
mul_of f (fin false m e) nan a c b d C D h k = absurd k
mul_of f (fin false m e) (inf t) a c b d C D h k = absurd k
mul_of f (fin false m e) (fin true n g) a c b d C D h k = absurd (true≢false k.0)
mul_of f (fin false m e) (fin false n g) a c b d C D h k =
    round_same f false (m * up e * (n * up g)) (down e * down g) (a * b) (c * d) (mul-pos (down_pos e) (down_pos g)) (mul-pos C D)
    (mul-mul-mul_comm (m * up e) (n * up g) c d
    ∙ ap (λ (z : ℕ). z * (n * up g * d)) h.1
    ∙ ap (λ (z : ℕ). a * down e * z) k.1
    ∙ mul-mul-mul_comm a (down e) b (down g))

-- z is ±D / W, rounded, where ±D is ±A + ±B
pub record Added (f : Format) (z : Float) (W : ℕ) (s : Bool) (A : ℕ) (t : Bool) (B : ℕ) : Type 0 where
  pub sign : Bool
  pub D : ℕ
  pub is : z ≡ round f sign D W
  pub exact : pp sign D + (np s A + np t B) ≡ np sign D + (pp s A + pp t B)
  pub small : D ≤ A + B

module _ (f : Format) (a b c A B W : ℕ) (C : 0 < c) (X : 0 < W) (h : a * W ≡ A * c) (k : b * W ≡ B * c) where
  order : a ≤ b → A ≤ B
  order l = le_of_mul-le-mul_right (le_trans (le_of_eq (sym h)) (le_trans (mul-le-mul_right W l) (le_of_eq k))) C

  whole : (s : Bool) → round f s (a + b) c ≡ round f s (A + B) W
  whole s = round_same f s (a + b) c (A + B) W C X (add-mul a b W ∙ ap (λ (z : ℕ). z + b * W) h ∙ ap (λ (z : ℕ). A * c + z) k ∙ sym (add-mul A B c))

  rest : (s : Bool) → round f s (a - b) c ≡ round f s (A - B) W
  rest s =
      round_same f s (a - b) c (A - B) W C X
      (mul_comm (a - b) W ∙ mul-sub W a b ∙ ap (λ (z : ℕ). z - W * b) (mul_comm W a ∙ h ∙ mul_comm A c)
      ∙ ap (λ (z : ℕ). c * A - z) (mul_comm W b ∙ k ∙ mul_comm B c) ∙ sym (mul-sub c A B) ∙ mul_comm c (A - B))

sum_of : (f : Format) (s t : Bool) (a b c A B W : ℕ) → 0 < c → 0 < W → a * W ≡ A * c → b * W ≡ B * c → Added f (sum f s a t b c) W s A t B
unfolding sum
sum_of f false false a b c A B W C X h k = record { sign = false; D = A + B; is = whole f a b c A B W C X h k false; exact = omega arith; small = le_refl (A + B) }
sum_of f true true a b c A B W C X h k = record { sign = true; D = A + B; is = whole f a b c A B W C X h k true; exact = omega arith; small = le_refl (A + B) }
sum_of f false true a b c A B W C X h k = go (ltb a b) (ltb→lt a b) (nltb→le a b)
  where
    go : (u : Bool) → (T u → a < b) → (T (not u) → b ≤ a) → Added f (cond u (round f true (b - a) c) (round f false (a - b) c)) W false A true B
    go true l n =
        let o = order f a b c A B W C X h k (le_of_lt (l tt)) in
        record { sign = true; D = B - A; is = rest f b a c B A W C X k h true; exact = omega arith; small = omega arith }
    go false l n =
        let o = order f b a c B A W C X k h (n tt) in
        record { sign = false; D = A - B; is = rest f a b c A B W C X h k false; exact = omega arith; small = omega arith }
sum_of f true false a b c A B W C X h k = go (ltb a b) (ltb→lt a b) (nltb→le a b) (ltb b a) (nltb→le b a)
  where
    go : (u : Bool) → (T u → a < b) → (T (not u) → b ≤ a) → (w : Bool) → (T (not w) → a ≤ b) → Added f (cond u (round f false (b - a) c) (round f w (a - b) c)) W true A false B
    go true l n w r =
        let o = order f a b c A B W C X h k (le_of_lt (l tt)) in
        record { sign = false; D = B - A; is = rest f b a c B A W C X k h false; exact = omega arith; small = omega arith }
    go false l n true r =
        let o = order f b a c B A W C X k h (n tt) in
        record { sign = true; D = A - B; is = rest f a b c A B W C X h k true; exact = omega arith; small = omega arith }
    go false l n false r =
        let o = order f b a c B A W C X k h (n tt) in
        let p = order f a b c A B W C X h k (r tt) in
        record { sign = false; D = A - B; is = rest f a b c A B W C X h k false; exact = omega arith; small = omega arith }

pub add_of : (f : Format) (x y : Float) (s t : Bool) (A B W : ℕ) → 0 < W → HasValue x s A W → HasValue y t B W → Added f (add f x y) W s A t B
unfolding add
add_of f nan y s t A B W X h k = absurd h
add_of f (inf u) y s t A B W X h k = absurd h
add_of f (fin u m e) nan s t A B W X h k = absurd k
add_of f (fin u m e) (inf w) s t A B W X h k = absurd k
add_of f (fin u m e) (fin w n g) s t A B W X h k =
    subst (λ (z : Bool). Added f (sum f u (m * up e * down g) w (n * up g * down e) (down e * down g)) W z A t B) h.0
    (subst (λ (z : Bool). Added f (sum f u (m * up e * down g) w (n * up g * down e) (down e * down g)) W u A z B) k.0
    (sum_of f u w (m * up e * down g) (n * up g * down e) (down e * down g) A B W (mul-pos (down_pos e) (down_pos g)) X
    (mul_right_comm (m * up e) (down g) W ∙ ap (λ (z : ℕ). z * down g) h.1 ∙ mul_assoc A (down e) (down g))
    (mul_right_comm (n * up g) (down e) W ∙ ap (λ (z : ℕ). z * down e) k.1 ∙ mul_assoc B (down g) (down e) ∙ ap (λ (z : ℕ). B * z) (mul_comm (down g) (down e)))))

neg_value : (y : Float) (t : Bool) (B W : ℕ) → HasValue y t B W → HasValue (neg y) (not t) B W
unfolding neg
neg_value nan t B W k = k
neg_value (inf w) t B W k = k
neg_value (fin w n g) t B W k = (ap not k.0, k.1)

pub sub_of : (f : Format) (x y : Float) (s t : Bool) (A B W : ℕ) → 0 < W → HasValue x s A W → HasValue y t B W → Added f (sub f x y) W s A (not t) B
unfolding sub
sub_of f x y s t A B W X h k = add_of f x (neg y) s (not t) A B W X h (neg_value y t B W k)
