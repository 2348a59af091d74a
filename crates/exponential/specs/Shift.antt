-- Lemmas. The steps to `specs/Whole.antt`: for x from −700 to 700 the sum x×1.4426950408889634 + 6755399441055744 is a double between 2 ^ 52 and 2 ^
-- 53, where doubles are whole numbers, within 1010 of 6755399441055744; and the difference is exact. Assumes nothing.
use Rattle.std.specs.Prelude.{◌≡◌, refl, ◌⊎◌, ℕ, suc, ◌+◌, ◌-◌, ◌*◌, ◌≤◌, ◌<◌, Bool, true, false, not, cond, ◌&&◌, T, ltb, leb, pos, negsuc, Float}
use Rattle.std.proofs.Common.{sym, ap, ◌∙◌, subst, inl, inr, ⊎_elim, mul-lt-mul_of_pos_right, mul-one, mul-pos, arith, true≢false, lt→ltb, ltb→lt, nltb→le, leb→le, le→leb}
use Rattle.std.proofs.Math.Dec.{nleb→lt, not_T}
use Rattle.std.specs.Float.{nan, inf, fin, binary64}
use Rattle.std.specs.Float.Ieee.{up, down, minus, add, sub, mul, sum, neg, lt, ne, round, of_int, to_signed, in_float}
use Rattle.std.specs.Float.Ieee.Fits.{down_pos}
use Rattle.std.specs.Float.Ieee.Bits.{is_true, cond_no}
use Rattle.std.specs.Float.Ieee.Nearest.{closest}
use Rattle.std.specs.Float.Ieee.Exact.{HasValue}
use Rattle.std.specs.Float.Ieee.Scale.{round_same}
use Rattle.std.specs.Float.Ieee.Back.{positive_back, negative_back}
use Rattle.exponential.specs.Exp.{limit, log2e, shift_by, shifted}
use Rattle.exponential.specs.Rounding.{closest_le, closest_ge, AtMost, round_at_most, round_whole_at}

-- ---- the constants as m * 2 ^ e
limit_is : limit ≡ fin false 175 (pos 2)
unfolding round
limit_is = refl

log2e_is : log2e ≡ fin false 3248660424278399 (negsuc 50)
unfolding round
log2e_is = refl

shift_by_is : shift_by ≡ fin false 3 (pos 51)
unfolding round
shift_by_is = refl

-- ---- x is at most 700 in size
of_test : (a b : ℕ) → ltb a b ≡ false → b ≤ a
of_test a b e = nltb→le a b (subst (λ (t : Bool). T (not t)) (sym e) tt)

sized : (x : Float) → ne x x ≡ false → lt (fin false 175 (pos 2)) x ≡ false → lt x (fin true 175 (pos 2)) ≡ false → ((AtMost x false 700) ⊎ (AtMost x true 700))
unfolding lt ne
sized nan a b c = absurd (true≢false a)
sized (inf true) a b c = absurd (true≢false c)
sized (inf false) a b c = absurd (true≢false b)
sized (fin false m e) a b c = inl (refl, subst (λ (y : ℕ). y ≤ 700 * down e) (mul-one (m * up e)) (of_test (700 * down e) (m * up e * 1) b))
sized (fin true m e) a b c = inr (refl, subst (λ (y : ℕ). y ≤ 700 * down e) (mul-one (m * up e)) (of_test (700 * down e) (m * up e * 1) c))

-- ---- so x * log2e is at most 1010 in size: 3248660424278399 / 2 ^ 51 is log2e
product : (a c : ℕ) → a ≤ 700 * c → a * 3248660424278399 ≤ 1010 * (c * 2251799813685248)
product a c h = omega arith

scaled : (x : Float) (s : Bool) → AtMost x s 700 → AtMost (mul binary64 x (fin false 3248660424278399 (negsuc 50))) s 1010
unfolding mul
scaled nan s h = absurd h
scaled (inf t) s h = absurd h
scaled (fin true m e) true h = round_at_most true (m * up e * 3248660424278399) (down e * 2251799813685248) 1010 (mul-pos (down_pos e) (omega arith)) (omega arith) (product (m * up e) (down e) h.1)
scaled (fin false m e) false h = round_at_most false (m * up e * 3248660424278399) (down e * 2251799813685248) 1010 (mul-pos (down_pos e) (omega arith)) (omega arith) (product (m * up e) (down e) h.1)
scaled (fin true m e) false h = absurd (true≢false h.0)
scaled (fin false m e) true h = absurd (true≢false (sym h.0))

-- ---- the sum is a whole number q, within 1010 of 6755399441055744
pub record Sum (u : Float) : Type 0 where
  pub q : ℕ
  pub least : 6755399441054734 ≤ q
  pub most : q ≤ 6755399441056754
  pub is : HasValue u false q 1

rounded : (num den : ℕ) → 0 < den → 6755399441054734 * den ≤ num → num ≤ 6755399441056754 * den → Sum (round binary64 false num den)
rounded num den d h k =
    record {
      q = closest num den;
      least = closest_ge num den 6755399441054734 d h;
      most = closest_le num den 6755399441056754 d k;
      is = round_whole_at num den 6755399441054734 6755399441056754 d (omega arith) (omega arith) h k;
    }

added : (t : Float) (s : Bool) → AtMost t s 1010 → Sum (add binary64 t (fin false 3 (pos 51)))
unfolding add sum
added nan s h = absurd h
added (inf t) s h = absurd h
added (fin false m e) s h =
    let c = h.1 in
    rounded (m * up e * 1 + 6755399441055744 * down e) (down e * 1) (mul-pos (down_pos e) (omega arith)) (omega arith) (omega arith)
added (fin true m e) s h =
    let c = h.1 in
    let d = down_pos e in
    let a = m * up e * 1 in
    let b = 6755399441055744 * down e in
    let less : a < b = omega arith in
    subst (λ (z : Bool). Sum (cond z (round binary64 false (b - a) (down e * 1)) (round binary64 (true && ltb b a) (a - b) (down e * 1)))) (sym (is_true (ltb a b) (lt→ltb a b less)))
    (rounded (b - a) (down e * 1) (mul-pos d (omega arith)) (omega arith) (omega arith))

pub bounded : (x : Float) → ne x x ≡ false → lt limit x ≡ false → lt x (neg limit) ≡ false → ((AtMost x false 700) ⊎ (AtMost x true 700))
unfolding neg
bounded x a b c = sized x a (subst (λ (l : Float). lt l x ≡ false) limit_is b) (subst (λ (l : Float). lt x (neg l) ≡ false) limit_is c)

pub sum_of : (x : Float) → ne x x ≡ false → lt limit x ≡ false → lt x (neg limit) ≡ false → Sum (shifted x)
sum_of x a b c =
    let t = mul binary64 x (fin false 3248660424278399 (negsuc 50)) in
    subst (λ (l : Float). Sum (add binary64 (mul binary64 x l) shift_by)) (sym log2e_is)
    (subst (λ (l : Float). Sum (add binary64 t l)) (sym shift_by_is)
    (⊎_elim (λ g. added t false (scaled x false g)) (λ g. added t true (scaled x true g)) (bounded x a b c)))

-- ---- and with 6755399441055744 taken off
taken_below : (q d r : ℕ) → q + r ≡ 6755399441055744 → q * d + r * d ≡ 6755399441055744 * d
taken_below q d r e = omega (arith, ap (λ (x : ℕ). x * d) e)

taken_above : (q d r : ℕ) → q ≡ r + 6755399441055744 → q * d ≡ r * d + 6755399441055744 * d
taken_above q d r e = omega (arith, ap (λ (x : ℕ). x * d) e)

less_one : (q d : ℕ) → 0 < d → q < 6755399441055744 → q * d < 6755399441055744 * d
less_one q d p h = mul-lt-mul_of_pos_right h p

in_below : (j : ℕ) → j < 1010 → T (in_float binary64 (negsuc j))
unfolding in_float
in_below j h = lt→ltb j 9007199254740992 (omega arith)

in_above : (j : ℕ) → j ≤ 1010 → T (in_float binary64 (pos j))
unfolding in_float
in_above j h = le→leb j 9007199254740992 (omega arith)

below_int : (j : ℕ) → round binary64 true (suc j) 1 ≡ of_int binary64 (negsuc j)
unfolding of_int
below_int j = refl

above_int : (j : ℕ) → round binary64 false j 1 ≡ of_int binary64 (pos j)
unfolding of_int
above_int j = refl

turned : (u : Float) → (s : Sum u) → sub binary64 u (fin false 3 (pos 51)) ≡ of_int binary64 (minus s.q 6755399441055744)
unfolding sub add sum neg
turned nan s = absurd s.is
turned (inf t) s = absurd s.is
turned (fin true m e) s = absurd (true≢false s.is.0)
turned (fin false m e) s = go (leb 6755399441055744 q) (leb→le 6755399441055744 q) (nleb→lt 6755399441055744 q)
  where
    q : ℕ
    q = s.q

    d : ℕ
    d = down e

    a : ℕ
    a = m * up e * 1

    b : ℕ
    b = 6755399441055744 * d

    is : a ≡ q * d
    is = s.is.1

    go : (t : Bool) → (T t → 6755399441055744 ≤ q) → (T (not t) → q < 6755399441055744)
        → cond (ltb a b) (round binary64 true (b - a) (d * 1)) (round binary64 (false && ltb b a) (a - b) (d * 1)) ≡ of_int binary64 (cond t (pos (q - 6755399441055744)) (negsuc (6755399441055744 - suc q)))
    go true h k =
        let g = h tt in
        let r = q - 6755399441055744 in
        let x = taken_above q d r (omega arith) in
        let i = is in
        let n : T (not (ltb a b)) = not_T (ltb a b) (λ z. let y = ltb→lt a b z in omega arith) in
        cond_no (ltb a b) _ _ n ∙ round_same binary64 false (a - b) (d * 1) r 1 (mul-pos (down_pos e) (omega arith)) (omega arith) (omega arith) ∙ above_int r
    go false h k =
        let g = k tt in
        let j = 6755399441055744 - suc q in
        let x = taken_below q d (suc j) (omega arith) in
        let i = is in
        let y : a < b = omega (arith, less_one q d (down_pos e) g) in
        ap (λ (z : Bool). cond z (round binary64 true (b - a) (d * 1)) (round binary64 (false && ltb b a) (a - b) (d * 1))) (is_true (ltb a b) (lt→ltb a b y))
        ∙ round_same binary64 true (b - a) (d * 1) (suc j) 1 (mul-pos (down_pos e) (omega arith)) (omega arith) (omega arith)
        ∙ below_int j

-- so n read as an integer is q - 6755399441055744
signed_back : (q : ℕ) → 6755399441054734 ≤ q → q ≤ 6755399441056754 → to_signed 63 (of_int binary64 (minus q 6755399441055744)) ≡ minus q 6755399441055744
signed_back q l m = go (leb 6755399441055744 q) (leb→le 6755399441055744 q) (nleb→lt 6755399441055744 q)
  where
    go : (t : Bool) → (T t → 6755399441055744 ≤ q) → (T (not t) → q < 6755399441055744) → to_signed 63 (of_int binary64 (cond t (pos (q - 6755399441055744)) (negsuc (6755399441055744 - suc q)))) ≡ cond t (pos (q - 6755399441055744)) (negsuc (6755399441055744 - suc q))
    go true h k = let g = h tt in (positive_back binary64 63 (q - 6755399441055744) (in_above (q - 6755399441055744) (omega arith)) (omega arith)).1
    go false h k = let g = k tt in (negative_back binary64 63 (6755399441055744 - suc q) (in_below (6755399441055744 - suc q) (omega arith)) (omega arith)).1

pub minus_shift : (a b c : ℕ) → minus (a + c) (b + c) ≡ minus a b
minus_shift a b c = go (leb (b + c) (a + c)) (leb b a) (leb→le (b + c) (a + c)) (nleb→lt (b + c) (a + c)) (leb→le b a) (nleb→lt b a)
  where
    go : (p q : Bool) → (T p → b + c ≤ a + c) → (T (not p) → a + c < b + c) → (T q → b ≤ a) → (T (not q) → a < b)
        → cond p (pos (a + c - (b + c))) (negsuc (b + c - suc (a + c))) ≡ cond q (pos (a - b)) (negsuc (b - suc a))
    go true true h k l m = ap pos (omega arith)
    go true false h k l m = absurd (let x = h tt in let y = m tt in omega arith)
    go false true h k l m = absurd (let x = k tt in let y = l tt in omega arith)
    go false false h k l m = ap negsuc (omega arith)

offset : (u : Float) → (s : Sum u) → minus s.q 6755399441055744 ≡ minus (s.q - 6755399441054734) 1010
offset u s =
    let l = s.least in
    let i = s.q - 6755399441054734 in
    let j : s.q ≡ i + 6755399441054734 = omega arith in
    ap (λ (x : ℕ). minus x 6755399441055744) j ∙ minus_shift i 1010 6755399441054734

-- the difference is the double of an integer from −1010 to 1010, and reads back as that integer
pub difference : (u : Float) → (s : Sum u) → sub binary64 u shift_by ≡ of_int binary64 (minus (s.q - 6755399441054734) 1010)
difference u s = ap (sub binary64 u) shift_by_is ∙ turned u s ∙ ap (of_int binary64) (offset u s)

pub integer : (u : Float) → (s : Sum u) → to_signed 63 (sub binary64 u shift_by) ≡ minus (s.q - 6755399441054734) 1010
integer u s = ap (to_signed 63) (ap (sub binary64 u) shift_by_is ∙ turned u s) ∙ signed_back s.q s.least s.most ∙ offset u s
