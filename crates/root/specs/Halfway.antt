-- Lemmas. The steps to `specs/Nearest.antt`, in whole numbers of units of 2 ^ -1074. Assumes nothing.
use Rattle.std.specs.Prelude.{◌≡◌, refl, ◌⊎◌, ℕ, zero, suc, ◌+◌, ◌-◌, ◌*◌, ◌/◌, ◌%◌, ◌^◌, ◌≤◌, ◌<◌, Bool, true, false, cond, not, ◌&&◌, T, leb, ltb, eqb, ℤ, pos, negsuc, Float}
use Rattle.std.proofs.Common.{sym, ap, ◌∙◌, subst, inl, inr, le_of_suc-le-suc, mul_assoc, mul-one, zero-mul, one-mul, mul_right_comm, mul-le-mul, mul-le-mul_left, mul-le-mul_right, lt_of_not-le, le_trans, lt_irrefl, lt_trans, mul_left_comm, lt_of_lt_of_le, lt_of_le_of_lt, le_of_eq, eq-or-lt_of_le, mul-div_cancel, not-le_of_lt, mul-lt-mul_of_pos_right, mul-pos, le_of_mul-le-mul_right, lt_of_mul-lt-mul_right, div-one, div-lt_iff_lt-mul, arith, leb→le, ltb→lt, pow-add, pow_pos, pow_mono}
use Rattle.std.proofs.Math.Nat.{pow-succ'}
use Rattle.std.proofs.Math.Decide.{dec_le}
use Rattle.std.proofs.Math.Dec.{nleb→lt}
use Rattle.std.proofs.Math.Pow.{pow-lt}
use Rattle.std.specs.Float.{fin, binary64}
use Rattle.std.specs.Float.Ieee.{up, down, size, odd, fits}
use Rattle.std.specs.Float.Ieee.Digits.{size-lt, size-le, size_reaches}
use Rattle.std.specs.Float.Ieee.Fits.{and_l, and_r, down_pos, odd-fits}
use Rattle.std.specs.Float.Ieee.Exact.{HasValue, odd_sign}
use Rattle.root.specs.Root.{floor_root, near_root, root_units, dropped, in_units}

-- ---- the root rounded down
floor_step : (n r : ℕ) (b : Bool) → r * r ≤ n / 4 → n / 4 < (r + 1) * (r + 1) → (T b → (2 * r + 1) * (2 * r + 1) ≤ n) → (T (not b) → n < (2 * r + 1) * (2 * r + 1))
    → (cond b (2 * r + 1) (2 * r) * cond b (2 * r + 1) (2 * r) ≤ n) × (n < (cond b (2 * r + 1) (2 * r) + 1) * (cond b (2 * r + 1) (2 * r) + 1))
floor_step n r true h k a c = (a tt, omega arith)
floor_step n r false h k a c = (omega arith, c tt)

pub floor_root_lem : (k n : ℕ) → n < 4 ^ k → (floor_root k n * floor_root k n ≤ n) × (n < (floor_root k n + 1) * (floor_root k n + 1))
unfolding floor_root
floor_root_lem zero n h = omega arith
floor_root_lem (suc k) n h =
    let i = floor_root_lem k (n / 4) (quarter n (4 ^ k) (subst (λ (x : ℕ). n < x) (pow-succ' 4 k) h)) in
    let r = floor_root k (n / 4) in
    floor_step n r (leb ((2 * r + 1) * (2 * r + 1)) n) i.0 i.1 (leb→le _ n) (nleb→lt _ n)
  where
    quarter : (m p : ℕ) → m < 4 * p → m / 4 < p
    quarter m p g = omega arith

-- ---- what `near_root` is
pub record IsNear (n r : ℕ) : Type 0 where
  pub above : r * r < n + r
  pub under : n ≤ r * r + r

near_of : (n f : ℕ) (b : Bool) → f * f ≤ n → n < (f + 1) * (f + 1) → (T b → n ≤ f * f + f) → (T (not b) → f * f + f < n) → 0 < n → IsNear n (cond b f (f + 1))
near_of n zero true lo hi x y p = let z = x tt in absurd (omega arith)
near_of n (suc f) true lo hi x y p = let z = x tt in record { above = omega arith; under = omega arith }
near_of n f false lo hi x y p = let z = y tt in record { above = omega arith; under = omega arith }

near_is : (n : ℕ) → n < 4 ^ 53 → 0 < n → IsNear n (near_root n)
unfolding near_root
near_is n h p =
    let f = floor_root 53 n in
    let i = floor_root_lem 53 n h in
    near_of n f (leb n (f * f + f)) i.0 i.1 (leb→le n _) (nleb→lt n _) p

-- ---- a finite double is q * 2 ^ i units, with a q of at most 53 digits
pub record Form (a : ℕ) : Type 0 where
  pub q : ℕ
  pub i : ℕ
  pub small : q < 9007199254740992
  pub is : a ≡ q * 2 ^ i
  pub under : a < 2 ^ 2098

held : (s : Bool) (m : ℕ) (e : ℤ) → T (fits binary64 (fin s (suc m) e)) → (suc m < 9007199254740992) × (down e ≤ 2 ^ 1074) × (suc m * up e < 2 ^ 1024 * down e)
unfolding fits
held s m e f =
    let a = eqb (suc m % 2) 1 in
    let b = ltb (suc m) 9007199254740992 in
    let c = leb (down e) (2 ^ 1074) in
    let d = ltb (suc m * up e) (2 ^ 1024 * down e) in
    let g : T (a && b && c) = and_l (a && b && c) d f in
    (ltb→lt (suc m) 9007199254740992 (and_r a b (and_l (a && b) c g)), leb→le (down e) (2 ^ 1074) (and_r (a && b) c g), ltb→lt (suc m * up e) (2 ^ 1024 * down e) (and_r (a && b && c) d f))

zero_units : (d : ℤ) → 0 * up d * 2 ^ 1074 / down d ≡ 0
zero_units d = ap (λ (x : ℕ). x / down d) (ap (λ (x : ℕ). x * 2 ^ 1074) (zero-mul (up d)) ∙ zero-mul (2 ^ 1074) ∙ sym (zero-mul (down d))) ∙ mul-div_cancel 0 (down_pos d)

few : (n : ℕ) → 2 ^ suc n ≤ 2 ^ 1074 → suc n ≤ 1074
few n h = leq (suc n) (λ (g : 1075 ≤ suc n). not-le_of_lt (pow-lt {i = 1074} {j = 1075} (omega arith)) (le_trans (pow_mono g) h))
  where
    leq : (z : ℕ) → (1075 ≤ z → ⊥) → z ≤ 1074
    leq z g = le_of_suc-le-suc (lt_of_not-le g)

back : (a b : ℕ) → b ≤ a → a - b + b ≡ a
back a b g = omega arith

whole_units : (m k : ℕ) → 2 ^ suc k ≤ 2 ^ 1074 → suc m * 1 * 2 ^ 1074 ≡ suc m * 2 ^ (1074 - suc k) * 2 ^ suc k
whole_units m k h =
    let l = 1074 - suc k in
    ap (λ (x : ℕ). x * 2 ^ 1074) (mul-one (suc m)) ∙ ap (λ (x : ℕ). suc m * 2 ^ x) (sym (back 1074 (suc k) (few k h))) ∙ ap (λ (x : ℕ). suc m * x) (pow-add 2 l (suc k)) ∙ sym (mul_assoc (suc m) (2 ^ l) (2 ^ suc k))

-- a double is a whole number of units
pub units_exact : (s : Bool) (m : ℕ) (e : ℤ) → T (fits binary64 (fin s m e)) → in_units (fin s m e) * down e ≡ m * up e * 2 ^ 1074
units_exact s zero e f = ap (λ (x : ℕ). x * down e) (zero_units e) ∙ zero-mul (down e) ∙ sym (ap (λ (x : ℕ). x * 2 ^ 1074) (zero-mul (up e)) ∙ zero-mul (2 ^ 1074))
units_exact s (suc m) (pos k) f = ap (λ (x : ℕ). x * 1) (div-one (suc m * 2 ^ k * 2 ^ 1074)) ∙ mul-one (suc m * 2 ^ k * 2 ^ 1074)
units_exact s (suc m) (negsuc k) f =
    let e = whole_units m k (held s m (negsuc k) f).1 in
    ap (λ (x : ℕ). x / 2 ^ suc k * 2 ^ suc k) e ∙ ap (λ (x : ℕ). x * 2 ^ suc k) (mul-div_cancel (suc m * 2 ^ (1074 - suc k)) (pow_pos (suc k))) ∙ sym e

bounded : (m : ℕ) (e : ℤ) → m * up e < 2 ^ 1024 * down e → m * up e * 2 ^ 1074 / down e < 2 ^ 2098
bounded m e h =
    (div-lt_iff_lt-mul (down_pos e)).1
    (lt_of_lt_of_le (mul-lt-mul_of_pos_right h (pow_pos 1074)) (le_of_eq (mul_right_comm (2 ^ 1024) (down e) (2 ^ 1074) ∙ ap (λ (x : ℕ). x * down e) (sym (pow-add 2 1024 1074)))))

unfoldable form : (s : Bool) (m : ℕ) (e : ℤ) → T (fits binary64 (fin s m e)) → Form (in_units (fin s m e))
form s zero e f = record { q = 0; i = 0; small = omega arith; is = zero_units e; under = subst (λ (x : ℕ). x < 2 ^ 2098) (sym (zero_units e)) (pow_pos 2098) }
form s (suc m) (pos k) f =
    record { q = suc m; i = k + 1074; small = (held s m (pos k) f).0; under = bounded (suc m) (pos k) (held s m (pos k) f).2; is = div-one (suc m * 2 ^ k * 2 ^ 1074) ∙ mul_assoc (suc m) (2 ^ k) (2 ^ 1074) ∙ ap (λ (x : ℕ). suc m * x) (sym (pow-add 2 k 1074)) }
form s (suc m) (negsuc k) f =
    let h = held s m (negsuc k) f in
    let l = 1074 - suc k in
    record {
      q = suc m;
      i = l;
      small = h.0;
      under = bounded (suc m) (negsuc k) h.2;
      is = ap (λ (x : ℕ). x / 2 ^ suc k) (whole_units m k h.1) ∙ mul-div_cancel (suc m * 2 ^ l) (pow_pos (suc k));
    }

form_pos : (s : Bool) (m : ℕ) (e : ℤ) → (f : T (fits binary64 (fin s (suc m) e))) → 0 < (form s (suc m) e f).q
unfolding form
form_pos s m (pos k) f = omega arith
form_pos s m (negsuc k) f = omega arith

pub form_of : (s : Bool) (m : ℕ) (e : ℤ) → T (fits binary64 (fin s m e)) → Form (in_units (fin s m e))
form_of = form

pub form_above : (m : ℕ) (e : ℤ) → T (fits binary64 (fin false (suc m) e)) → (x : Form (in_units (fin false (suc m) e))) × (0 < x.q)
form_above m e f = (form false (suc m) e f, form_pos false m e f)

-- ---- halfway
midway_below : (r n u y : ℕ) → 0 < u → 0 < r → r * r < n + r → y + u ≤ r * u → (y + r * u) * (y + r * u) < 4 * (n * (u * u))
midway_below r n u y p z h k =
    let t = 2 * r - 1 in
    let e : t + 1 ≡ 2 * r = omega arith in
    let g : t * u + u ≡ 2 * (r * u) = omega (arith, ap (λ (x : ℕ). x * u) e) in
    let s : y + r * u ≤ t * u = omega arith in
    let sq : t * t + 4 * r ≡ 4 * (r * r) + 1 = odd_square r t e in
    let l : t * t < 4 * n = omega arith in
    lt_of_le_of_lt (mul-le-mul s s) (lt_of_le_of_lt (le_of_eq (four t u)) (lt_of_lt_of_le (mul-lt-mul_of_pos_right l (mul-pos p p)) (le_of_eq (mul_assoc 4 n (u * u)))))
  where
    odd_square : (a b : ℕ) → b + 1 ≡ 2 * a → b * b + 4 * a ≡ 4 * (a * a) + 1
    odd_square a b e = let f : (b + 1) * (b + 1) ≡ 2 * a * (2 * a) = ap (λ (x : ℕ). x * x) e in omega arith

    four : (a b : ℕ) → a * b * (a * b) ≡ a * a * (b * b)
    four a b = omega arith

midway_above : (r n u y : ℕ) → 0 < u → n ≤ r * r + r → r * u + u ≤ y → 4 * (n * (u * u)) < (y + r * u) * (y + r * u)
midway_above r n u y p h k =
    let t = 2 * r + 1 in
    let s : t * u ≤ y + r * u = omega arith in
    let l : 4 * n < t * t = omega arith in
    lt_of_lt_of_le (lt_of_le_of_lt (le_of_eq (sym (mul_assoc 4 n (u * u)))) (mul-lt-mul_of_pos_right l (mul-pos p p))) (le_trans (le_of_eq (sym (four t u))) (mul-le-mul s s))
  where
    four : (a b : ℕ) → a * b * (a * b) ≡ a * a * (b * b)
    four a b = omega arith

-- at a power of two the doubles below are closer, but the root is no smaller than r
midway_power : (r n u y : ℕ) → 0 < u → r * r ≤ n → y < r * u → (y + r * u) * (y + r * u) < 4 * (n * (u * u))
midway_power r n u y p h k =
    let c = r * u in
    let a : (y + c) * (y + c) ≤ (y + c) * (c + c) = mul-le-mul_left (y + c) (omega arith) in
    let b : (y + c) * (c + c) < (c + c) * (c + c) = mul-lt-mul_of_pos_right (omega arith) (omega arith) in
    let d : (c + c) * (c + c) ≡ 4 * (r * r * (u * u)) = omega arith in
    let e : r * r * (u * u) ≤ n * (u * u) = mul-le-mul_right (u * u) h in
    omega arith

-- ---- the doubles next to r * 2 ^ k
-- q * 2 ^ i is a multiple of 2 ^ k, or below 2 ^ 52 * 2 ^ k
grid : (q i k : ℕ) → q < 9007199254740992 → ((g : ℕ) × (q * 2 ^ i ≡ g * 2 ^ k)) ⊎ (q * 2 ^ i ≤ 4503599627370496 * 2 ^ k)
grid q i k h = either (dec_le k i)
  where
    either : Dec (k ≤ i) → ((g : ℕ) × (q * 2 ^ i ≡ g * 2 ^ k)) ⊎ (q * 2 ^ i ≤ 4503599627370496 * 2 ^ k)
    either (yes l) = inl (q * 2 ^ (i - k), ap (λ (x : ℕ). q * 2 ^ x) (sym (back i k l)) ∙ ap (λ (x : ℕ). q * x) (pow-add 2 (i - k) k) ∙ sym (mul_assoc q (2 ^ (i - k)) (2 ^ k)))
      where
        back : (a b : ℕ) → b ≤ a → a - b + b ≡ a
        back a b g = omega arith
    either (no l) =
        inr (le_trans (mul-le-mul_right (2 ^ i) (twice h)) (le_trans (le_of_eq (mul_assoc 4503599627370496 2 (2 ^ i))) (mul-le-mul_left 4503599627370496 (le_trans (le_of_eq (sym (pow-succ' 2 i))) (pow_mono (lt_of_not-le l))))))
      where
        twice : q < 9007199254740992 → q ≤ 4503599627370496 * 2
        twice g = omega arith

next_below : (r k y : ℕ) → 4503599627370496 < r → y < r * 2 ^ k → ((g : ℕ) × (y ≡ g * 2 ^ k)) ⊎ (y ≤ 4503599627370496 * 2 ^ k) → y + 2 ^ k ≤ r * 2 ^ k
next_below r k y b h (inl (g, e)) =
    let l : suc g ≤ r = lt_of_mul-lt-mul_right (2 ^ k) (lt_of_le_of_lt (le_of_eq (sym e)) h) in
    let m : suc g * 2 ^ k ≤ r * 2 ^ k = mul-le-mul_right (2 ^ k) l in
    omega arith
next_below r k y b h (inr l) =
    let m : suc 4503599627370496 * 2 ^ k ≤ r * 2 ^ k = mul-le-mul_right (2 ^ k) b in
    omega arith

next_above : (r k y : ℕ) → 4503599627370496 ≤ r → r * 2 ^ k < y → ((g : ℕ) × (y ≡ g * 2 ^ k)) ⊎ (y ≤ 4503599627370496 * 2 ^ k) → r * 2 ^ k + 2 ^ k ≤ y
next_above r k y b h (inl (g, e)) =
    let l : suc r ≤ g = lt_of_mul-lt-mul_right (2 ^ k) (lt_of_lt_of_le h (le_of_eq e)) in
    let m : suc r * 2 ^ k ≤ g * 2 ^ k = mul-le-mul_right (2 ^ k) l in
    omega arith
next_above r k y b h (inr l) =
    let m : 4503599627370496 * 2 ^ k ≤ r * 2 ^ k = mul-le-mul_right (2 ^ k) b in
    absurd (omega arith)

-- ---- x's units, squared, are a whole number of 105 or 106 digits times a power of 4
record Reduced (x k : ℕ) : Type 0 where
  pub n : ℕ
  pub is : x ≡ n * (2 ^ k * 2 ^ k)
  pub least : 2 ^ 104 ≤ n
  pub most : n < 2 ^ 106
  pub spare : n + 9007199254740992 ≤ 2 ^ 106

-- a number below 2 ^ 106 of 53 digits, then zeros
room : (q l : ℕ) → ((g : ℕ) × (q * 2 ^ l ≡ g * 2 ^ 53)) ⊎ (q * 2 ^ l ≤ 4503599627370496 * 2 ^ 53) → q * 2 ^ l < 2 ^ 106 → q * 2 ^ l + 9007199254740992 ≤ 2 ^ 106
room q l (inl (g, e)) h = omega arith
room q l (inr k) h = omega arith

at_least : (x j : ℕ) → 2 ^ j ≤ x → j < size x
at_least x j h = lt_of_not-le (λ (g : size x ≤ j). not-le_of_lt (lt_of_lt_of_le (size-lt x) (pow_mono g)) h)

reduced : (q i : ℕ) → 0 < q → q < 9007199254740992 → Reduced (q * 2 ^ i * 2 ^ 1074) (dropped (q * 2 ^ i * 2 ^ 1074))
reduced q i p h =
    let x = q * 2 ^ i * 2 ^ 1074 in
    let z = size x in
    let k = dropped x in
    let e : x ≡ q * 2 ^ (i + 1074) = mul_assoc q (2 ^ i) (2 ^ 1074) ∙ ap (λ (y : ℕ). q * y) (sym (pow-add 2 i 1074)) in
    let lo : 1074 < z = at_least x 1074 (le_trans (le_of_eq (sym (one-mul (2 ^ 1074)))) (mul-le-mul_right (2 ^ 1074) (mul-pos p (pow_pos i)))) in
    let hi : z ≤ 53 + (i + 1074) = size-le x (53 + (i + 1074)) (subst (λ (y : ℕ). y < 2 ^ (53 + (i + 1074))) (sym e) (subst (λ (y : ℕ). q * 2 ^ (i + 1074) < y) (sym (pow-add 2 53 (i + 1074))) (mul-lt-mul_of_pos_right h (pow_pos (i + 1074))))) in
    let l = i + 1074 - (k + k) in
    let b : i + 1074 ≡ l + (k + k) = spare z i lo hi in
    let n = q * 2 ^ l in
    let kk : 2 ^ k * 2 ^ k ≡ 2 ^ (k + k) = sym (pow-add 2 k k) in
    let is : x ≡ n * 2 ^ (k + k) = e ∙ ap (λ (y : ℕ). q * 2 ^ y) b ∙ ap (λ (y : ℕ). q * y) (pow-add 2 l (k + k)) ∙ sym (mul_assoc q (2 ^ l) (2 ^ (k + k))) in
    let most : n < 2 ^ 106 = lt_of_mul-lt-mul_right (2 ^ (k + k)) (lt_of_le_of_lt (le_of_eq (sym is)) (lt_of_lt_of_le (size-lt x) (le_trans (pow_mono (top z lo)) (le_of_eq (pow-add 2 106 (k + k)))))) in
    record {
      n = n;
      is = is ∙ ap (λ (y : ℕ). n * y) (sym kk);
      least = le_of_mul-le-mul_right (le_trans (le_of_eq (sym (pow-add 2 104 (k + k)))) (le_trans (size_reaches x (104 + (k + k)) (within z lo)) (le_of_eq is))) (pow_pos (k + k));
      most = most;
      spare = room q l (grid q l 53 h) most;
    }
  where
    spare : (z j : ℕ) → 1074 < z → z ≤ 53 + (j + 1074) → j + 1074 ≡ j + 1074 - ((z - 105) / 2 + (z - 105) / 2) + ((z - 105) / 2 + (z - 105) / 2)
    spare z j a c = let d = z - 105 in let f : d + 105 ≡ z = omega arith in omega arith

    within : (z : ℕ) → 1074 < z → 104 + ((z - 105) / 2 + (z - 105) / 2) < z
    within z a = let d = z - 105 in let f : d + 105 ≡ z = omega arith in omega arith

    top : (z : ℕ) → 1074 < z → z ≤ 106 + ((z - 105) / 2 + (z - 105) / 2)
    top z a = let d = z - 105 in let f : d + 105 ≡ z = omega arith in omega arith

-- ---- the root of x is r * 2 ^ k units
pub record Rooted (x : ℕ) : Type 0 where
  pub r : ℕ
  pub k : ℕ
  pub n : ℕ
  pub square : x ≡ n * (2 ^ k * 2 ^ k)
  pub near : IsNear n r
  pub least : 2 ^ 104 ≤ n
  pub spare : n + 9007199254740992 ≤ 2 ^ 106
  pub dropping : k ≡ dropped x
  pub value : HasValue (root_units x) false (r * 2 ^ k) (2 ^ 1074)
  pub is : root_units x ≡ odd 53 false r k 1074

pub rooted : (q i : ℕ) → 0 < q → q < 9007199254740992 → Rooted (q * 2 ^ i * 2 ^ 1074)
unfolding root_units
rooted q i p h =
    let x = q * 2 ^ i * 2 ^ 1074 in
    let d = reduced q i p h in
    let k = dropped x in
    let e : x / (2 ^ k * 2 ^ k) ≡ d.n = ap (λ (y : ℕ). y / (2 ^ k * 2 ^ k)) d.is ∙ mul-div_cancel d.n (mul-pos (pow_pos k) (pow_pos k)) in
    record {
      r = near_root d.n;
      k = k;
      n = d.n;
      square = d.is;
      near = near_is d.n d.most (lt_of_lt_of_le (pow_pos 104) d.least);
      least = d.least;
      spare = d.spare;
      dropping = refl;
      value = subst (λ (y : ℕ). HasValue (odd 53 false (near_root y) k 1074) false (near_root d.n * 2 ^ k) (2 ^ 1074)) (sym e) (odd_sign 53 false (near_root d.n) k 1074);
      is = ap (λ (y : ℕ). odd 53 false (near_root y) k 1074) e;
    }

pub big : (n r : ℕ) → 2 ^ 104 ≤ n → IsNear n r → 4503599627370496 ≤ r
big n r h i = lt_of_not-le (λ (g : r ≤ 4503599627370495).
    let k : r * r ≤ 4503599627370495 * r = mul-le-mul_right r g in
    let u = i.under in
    omega arith)

-- the root has 53 digits, and is a double
short : (n r : ℕ) → n + 9007199254740992 ≤ 2 ^ 106 → IsNear n r → r < 9007199254740992
short n r h i = lt_of_not-le (λ (g : 9007199254740992 ≤ r).
    let k : 9007199254740992 * r ≤ r * r = mul-le-mul_right r g in
    let u = i.above in
    over r g (sum n r (r * r) k u h))
  where
    sum : (n r s : ℕ) → 9007199254740992 * r ≤ s → s < n + r → n + 9007199254740992 ≤ 2 ^ 106 → 9007199254740992 * r + 9007199254740992 < 2 ^ 106 + r
    sum n r s k u h = omega arith

    over : (r : ℕ) → 9007199254740992 ≤ r → 9007199254740992 * r + 9007199254740992 < 2 ^ 106 + r → ⊥
    over r g l = omega arith

halves : (z : ℕ) → z ≤ 3172 → 53 + (z - 105) / 2 ≤ 2098
halves z h = omega arith

pub units_fit : (a : ℕ) → a < 2 ^ 2098 → (d : Rooted (a * 2 ^ 1074)) → d.r * 2 ^ d.k < 2 ^ 2098
units_fit a u d =
    let x = a * 2 ^ 1074 in
    let z : size x ≤ 3172 = size-le x 3172 (lt_of_lt_of_le (mul-lt-mul_of_pos_right u (pow_pos 1074)) (le_of_eq (sym (pow-add 2 2098 1074)))) in
    let s : d.r < 2 ^ 53 = short d.n d.r d.spare d.near in
    let l : 53 + d.k ≤ 2098 = subst (λ (y : ℕ). 53 + y ≤ 2098) (sym d.dropping) (halves (size x) z) in
    lt_of_lt_of_le (mul-lt-mul_of_pos_right s (pow_pos d.k)) (le_trans (le_of_eq (sym (pow-add 2 53 d.k))) (pow_mono l))

pub root_double : (a : ℕ) → a < 2 ^ 2098 → (d : Rooted (a * 2 ^ 1074)) → T (fits binary64 (root_units (a * 2 ^ 1074)))
root_double a u d =
    let s : d.r < 2 ^ 53 = short d.n d.r d.spare d.near in
    subst (λ (y : Float). T (fits binary64 y)) (sym d.is) (odd-fits binary64 53 false d.r d.k s (omega (arith, s)) (units_fit a u d))

-- ---- the numbers halfway
pub record Nearest (x r y : ℕ) : Type 0 where
  pub below : y < r → (y + r) * (y + r) < 4 * x
  pub above : r < y → 4 * x < (y + r) * (y + r)

pub nearest_units : (x a : ℕ) → (d : Rooted x) → Form a → Nearest x (d.r * 2 ^ d.k) a
nearest_units x a d f =
    let r = d.r in
    let k = d.k in
    let u = 2 ^ k in
    let b = big d.n r d.least d.near in
    let at : ((g : ℕ) × (a ≡ g * u)) ⊎ (a ≤ 4503599627370496 * u) = subst (λ (z : ℕ). ((g : ℕ) × (z ≡ g * u)) ⊎ (z ≤ 4503599627370496 * u)) (sym f.is) (grid f.q f.i k f.small) in
    record {
      below = λ (h : a < r * u). subst (λ (z : ℕ). (a + r * u) * (a + r * u) < 4 * z) (sym d.square) (low b at h (eq-or-lt_of_le b));
      above = λ (h : r * u < a). subst (λ (z : ℕ). 4 * z < (a + r * u) * (a + r * u)) (sym d.square) (midway_above r d.n u a (pow_pos k) d.near.under (next_above r k a b h at));
    }
  where
    low : 4503599627370496 ≤ d.r → ((g : ℕ) × (a ≡ g * 2 ^ d.k)) ⊎ (a ≤ 4503599627370496 * 2 ^ d.k) → a < d.r * 2 ^ d.k → (4503599627370496 ≡ d.r) ⊎ (4503599627370496 < d.r)
        → (a + d.r * 2 ^ d.k) * (a + d.r * 2 ^ d.k) < 4 * (d.n * (2 ^ d.k * 2 ^ d.k))
    low b at h (inl e) = midway_power d.r d.n (2 ^ d.k) a (pow_pos d.k) (subst (λ (z : ℕ). z * z ≤ d.n) e d.least) h
    low b at h (inr g) = midway_below d.r d.n (2 ^ d.k) a (pow_pos d.k) (lt_of_lt_of_le (omega arith) b) d.near.above (next_below d.r d.k a g h at)

pub root_above : (x : ℕ) → (d : Rooted x) → 0 < d.r * 2 ^ d.k
root_above x d = mul-pos (lt_of_lt_of_le (omega arith) (big d.n d.r d.least d.near)) (pow_pos d.k)

zero_form : Form 0
zero_form = record { q = 0; i = 0; small = omega arith; is = refl; under = pow_pos 2098 }

-- ---- against a double with the positive part p and the negative part q, one of which is 0
pub record Apart (s a p q : ℕ) : Type 0 where
  pub from_above : a + q < p + 0 → 4 * s < (a + p - (0 + q)) * (a + p - (0 + q))
  pub from_below : p + 0 < a + q → (a + p - (0 + q)) * (a + p - (0 + q)) < 4 * s

pub against_above : (s a p : ℕ) → Nearest s a p → Apart s a p 0
against_above s a p n =
    let e : a + p - (0 + 0) ≡ p + a = omega arith in
    record {
      from_above = λ (h : a + 0 < p + 0). subst (λ (z : ℕ). 4 * s < z * z) (sym e) (n.above (omega (arith, h)));
      from_below = λ (h : p + 0 < a + 0). subst (λ (z : ℕ). z * z < 4 * s) (sym e) (n.below (omega (arith, h)));
    }

pub against_below : (x q : ℕ) → (d : Rooted x) → Apart x (d.r * 2 ^ d.k) 0 q
against_below x q d = below x (d.r * 2 ^ d.k) q (root_above x d) (nearest_units x 0 d zero_form)
  where
    below : (s a b : ℕ) → 0 < a → Nearest s a 0 → Apart s a 0 b
    below s a b h n =
        let l : a + 0 - (0 + b) ≤ 0 + a = omega arith in
        record {
          from_above = λ (g : a + b < 0 + 0). absurd (omega (arith, g));
          from_below = λ (g : 0 + 0 < a + b). lt_of_le_of_lt (mul-le-mul l l) (n.below h);
        }

pub against_infinity : (u a : ℕ) → u < 2 ^ 2098 → a < 2 ^ 2098 → Apart (u * 2 ^ 1074) a (2 ^ 2098) 0
against_infinity u a h k =
    record {
      from_above = λ g. lt_of_lt_of_le four (mul-le-mul (over (2 ^ 2098)) (over (2 ^ 2098)));
      from_below = λ g. absurd (lt_irrefl a (lt_trans k (less (2 ^ 2098) g)));
    }
  where
    over : (z : ℕ) → z ≤ a + z - (0 + 0)
    over z = omega arith

    less : (z : ℕ) → z + 0 < a + 0 → z < a
    less z g = omega (arith, g)

    four : 4 * (u * 2 ^ 1074) < 2 ^ 2098 * 2 ^ 2098
    four =
        lt_of_le_of_lt (le_of_eq (mul_left_comm 4 u (2 ^ 1074)))
        (lt_of_lt_of_le (mul-lt-mul_of_pos_right h (mul-pos (pow_pos 2) (pow_pos 1074))) (mul-le-mul_left (2 ^ 2098) (le_trans (le_of_eq (sym (pow-add 2 2 1074))) (pow_mono {i = 1076} {j = 2098} (omega arith)))))
