-- Statements. 01: the root is the double nearest the true root. `root-nearest` says so for every finite double above 0, against every other double,
-- with whole-number squares; no tie occurs, so `ties to even` never decides.
-- `only-root` says that no other double has the property, and `root-fits` that the root is a double. Assumes nothing.
use Rattle.std.specs.Prelude.{◌≡◌, refl, ℕ, zero, suc, ◌+◌, ◌-◌, ◌*◌, ◌/◌, ◌^◌, ◌≤◌, ◌<◌, Bool, true, false, not, cond, T, ℤ, Float}
use Rattle.std.proofs.Common.{sym, ap, ◌∙◌, subst, mul-div_cancel, lt_irrefl, lt_trans, le_trans, le_antisymm, le_of_suc-le-suc, lt_of_not-le, lt_of_lt_of_le, le_of_eq, le-add_right, add-zero, zero-lt-suc, arith, true≢false, lt→ltb}
use Rattle.std.specs.Float.{nan, inf, fin, binary64}
use Rattle.std.specs.Float.Ieee.{down, size, fits, is_nan, to_bits, of_bits}
use Rattle.std.specs.Float.Ieee.Fits.{down_pos, nan-fits}
use Rattle.std.specs.Float.Ieee.Bits.{of_bits-to_bits}
use Rattle.std.specs.Float.Ieee.Exact.{HasValue}
use Rattle.std.specs.Float.Ieee.Positive.{positive}
use Rattle.root.specs.Root.{in_units, root_of}
use Rattle.root.specs.Halfway.{Rooted, Apart, form_of, form_above, rooted, nearest_units, units_fit, root_double, root_above, against_above, against_below, against_infinity}

-- A double as a number of units of 2 ^ -1074, its positive part less its negative part. An infinity counts as ±2 ^ 1024, the number after the greatest double.
abbrev pub positive_part : Float → ℕ
positive_part nan = 0
positive_part (inf false) = 2 ^ 2098
positive_part (inf true) = 0
positive_part (fin false m e) = in_units (fin false m e)
positive_part (fin true m e) = 0

abbrev pub negative_part : Float → ℕ
negative_part nan = 0
negative_part (inf false) = 0
negative_part (inf true) = 2 ^ 2098
negative_part (fin false m e) = 0
negative_part (fin true m e) = in_units (fin true m e)

-- r < y
abbrev pub Less : Float → Float → Type 0
Less r y = positive_part r + negative_part y < positive_part y + negative_part r

-- r + y, twice the number halfway between r and y; 0 if it is negative
abbrev pub twice_halfway : Float → Float → ℕ
twice_halfway r y = positive_part r + positive_part y - (negative_part r + negative_part y)

-- the square of the true root of x, in units of 2 ^ -2148
abbrev pub squared : Float → ℕ
squared x = in_units x * 2 ^ 1074

-- The true root of x is nearer to r than to y: it lies on r's side of the number halfway between them. Doubled and squared, that is a comparison of whole numbers. (4 * squared x is above 0, so the true root is above a halfway that is negative.)
pub record Nearer (x r y : Float) : Type 0 where
  pub from_above : Less r y → 4 * squared x < twice_halfway r y * twice_halfway r y
  pub from_below : Less y r → twice_halfway r y * twice_halfway r y < 4 * squared x

-- r is a double, and the true root of x is nearer to it than to any other double
pub record IsNearest (x r : Float) : Type 0 where
  pub double : T (fits binary64 r)
  pub number : T (not (is_nan r))
  pub nearer : (y : Float) → T (fits binary64 y) → T (not (is_nan y)) → Nearer x r y

-- ---- the proof
part_of : (r : Float) (a : ℕ) → HasValue r false a (2 ^ 1074) → (positive_part r ≡ a) × (negative_part r ≡ 0) × T (not (is_nan r))
unfolding is_nan
part_of nan a v = absurd v
part_of (inf s) a v = absurd v
part_of (fin true m e) a v = absurd (true≢false v.0)
part_of (fin false m e) a v = (ap (λ (x : ℕ). x / down e) v.1 ∙ mul-div_cancel a (down_pos e), refl, tt)

nearer_of : (x r y : Float) (a : ℕ) → positive_part r ≡ a → negative_part r ≡ 0 → Apart (squared x) a (positive_part y) (negative_part y) → Nearer x r y
nearer_of x r y a e d n =
    record {
      from_above = λ (h : Less r y). back (λ (b c : ℕ). 4 * squared x < (b + positive_part y - (c + negative_part y)) * (b + positive_part y - (c + negative_part y))) (n.from_above (there (λ (b c : ℕ). b + negative_part y < positive_part y + c) h));
      from_below = λ (h : Less y r). back (λ (b c : ℕ). (b + positive_part y - (c + negative_part y)) * (b + positive_part y - (c + negative_part y)) < 4 * squared x) (n.from_below (there (λ (b c : ℕ). positive_part y + c < b + negative_part y) h));
    }
  where
    back : (P : ℕ → ℕ → Type 0) → P a 0 → P (positive_part r) (negative_part r)
    back P p = subst (λ (b : ℕ). P b (negative_part r)) (sym e) (subst (λ (c : ℕ). P a c) (sym d) p)

    there : (P : ℕ → ℕ → Type 0) → P (positive_part r) (negative_part r) → P a 0
    there P p = subst (λ (b : ℕ). P b 0) e (subst (λ (c : ℕ). P (positive_part r) c) d p)

apart : (u : ℕ) → u < 2 ^ 2098 → (d : Rooted (u * 2 ^ 1074)) → (y : Float) → T (fits binary64 y) → T (not (is_nan y)) → Apart (u * 2 ^ 1074) (d.r * 2 ^ d.k) (positive_part y) (negative_part y)
unfolding is_nan
apart u h d nan f g = absurd g
apart u h d (inf false) f g = against_infinity u (d.r * 2 ^ d.k) h (units_fit u h d)
apart u h d (inf true) f g = against_below (u * 2 ^ 1074) (2 ^ 2098) d
apart u h d (fin false n e) f g = against_above (u * 2 ^ 1074) (d.r * 2 ^ d.k) (in_units (fin false n e)) (nearest_units (u * 2 ^ 1074) (in_units (fin false n e)) d (form_of false n e f))
apart u h d (fin true n e) f g = against_below (u * 2 ^ 1074) (in_units (fin true n e)) d

-- what is known of the root of a finite double above 0
record Known (x : Float) : Type 0 where
  pub a : ℕ
  pub some : 0 < a
  pub most : a < 2 ^ 2098
  pub value : HasValue (root_of x) false a (2 ^ 1074)
  pub double : T (fits binary64 (root_of x))
  pub apart : (y : Float) → T (fits binary64 y) → T (not (is_nan y)) → Apart (squared x) a (positive_part y) (negative_part y)

known : (x : Float) → T (fits binary64 x) → T (positive x) → Known x
unfolding root_of
known nan f p = absurd p
known (inf s) f p = absurd p
known (fin true m e) f p = absurd p
known (fin false zero e) f p = absurd p
known (fin false (suc m) e) f p =
    let u = in_units (fin false (suc m) e) in
    let x = form_above m e f in
    let d : Rooted (u * 2 ^ 1074) = subst (λ (z : ℕ). Rooted (z * 2 ^ 1074)) (sym x.0.is) (rooted x.0.q x.0.i x.1 x.0.small) in
    record {
      a = d.r * 2 ^ d.k;
      some = root_above (u * 2 ^ 1074) d;
      most = units_fit u x.0.under d;
      value = d.value;
      double = root_double u x.0.under d;
      apart = apart u x.0.under d;
    }

-- a double is determined by its sign and units
same_units : (s : Bool) (m : ℕ) (e : ℤ) (n : ℕ) (d : ℤ) → T (fits binary64 (fin s m e)) → T (fits binary64 (fin s n d)) → in_units (fin s m e) ≡ in_units (fin s n d) → fin s m e ≡ fin s n d
unfolding to_bits
same_units s m e n d f g h =
    sym (of_bits-to_bits binary64 (fin s m e) f)
    ∙ ap (λ (z : ℕ). of_bits binary64 (cond s 9223372036854775808 0 + (size z - 53) * 4503599627370496 + z / 2 ^ (size z - 53))) h
    ∙ of_bits-to_bits binary64 (fin s n d) g

same_number : (r y : Float) (a : ℕ) → T (fits binary64 r) → T (fits binary64 y) → T (not (is_nan r)) → 0 < a → a < 2 ^ 2098 → HasValue y false a (2 ^ 1074) → positive_part r ≡ a + negative_part r → r ≡ y
unfolding is_nan
same_number nan y a f g n p h v e = absurd n
same_number (inf false) y a f g n p h v e = absurd (lt_irrefl a (lt_of_lt_of_le h (le_of_eq (e ∙ add-zero a))))
same_number (inf true) y a f g n p h v e = absurd (lt_irrefl 0 (lt_of_lt_of_le p (le_trans (le-add_right a (2 ^ 2098)) (le_of_eq (sym e)))))
same_number (fin true m k) y a f g n p h v e = absurd (lt_irrefl 0 (lt_of_lt_of_le p (le_trans (le-add_right a (in_units (fin true m k))) (le_of_eq (sym e)))))
same_number (fin false m k) nan a f g n p h v e = absurd v
same_number (fin false m k) (inf s) a f g n p h v e = absurd v
same_number (fin false m k) (fin true b d) a f g n p h v e = absurd (true≢false v.0)
same_number (fin false m k) (fin false b d) a f g n p h v e = same_units false m k b d f g (e ∙ add-zero a ∙ sym (part_of (fin false b d) a v).0)

-- ---- the theorems
pub root_nearest : (x : Float) → T (fits binary64 x) → T (positive x) → IsNearest x (root_of x)
root_nearest x f p =
    let k = known x f p in
    let v = part_of (root_of x) k.a k.value in
    record { double = k.double; number = v.2; nearer = λ (y : Float) (g : T (fits binary64 y)) (n : T (not (is_nan y))). nearer_of x (root_of x) y k.a v.0 v.1 (k.apart y g n) }

pub only_root : (x r : Float) → T (fits binary64 x) → T (positive x) → IsNearest x r → r ≡ root_of x
only_root x r f p n =
    let k = known x f p in
    let y = root_of x in
    let v = part_of y k.a k.value in
    let a = n.nearer y k.double v.2 in
    let b = (root_nearest x f p).nearer r n.double n.number in
    let c : twice_halfway y r ≡ twice_halfway r y = swapped (positive_part y) (positive_part r) (negative_part y) (negative_part r) in
    let e : positive_part r + negative_part y ≡ positive_part y + negative_part r =
    le_antisymm (not_less (λ (h : Less y r). lt_irrefl (4 * squared x) (lt_trans (subst (λ (z : ℕ). 4 * squared x < z * z) c (b.from_above h)) (a.from_below h))))
    (not_less (λ (h : Less r y). lt_irrefl (4 * squared x) (lt_trans (a.from_above h) (subst (λ (z : ℕ). z * z < 4 * squared x) c (b.from_below h))))) in
    same_number r y k.a n.double k.double n.number k.some k.most k.value
    (sym (add-zero (positive_part r)) ∙ ap (λ (z : ℕ). positive_part r + z) (sym v.1) ∙ e ∙ ap (λ (z : ℕ). z + negative_part r) v.0)
  where
    swapped : (a b c d : ℕ) → a + b - (c + d) ≡ b + a - (d + c)
    swapped a b c d = omega arith

    not_less : {a b : ℕ} → (b < a → ⊥) → a ≤ b
    not_less h = le_of_suc-le-suc (lt_of_not-le h)

pub root_fits : (x : Float) → T (fits binary64 x) → T (fits binary64 (root_of x))
unfolding root_of
root_fits nan f = f
root_fits (inf false) f = f
root_fits (inf true) f = nan-fits binary64
root_fits (fin s zero e) f = f
root_fits (fin true (suc m) e) f = nan-fits binary64
root_fits (fin false (suc m) e) f = (known (fin false (suc m) e) f (lt→ltb 0 (suc m) (zero-lt-suc m))).double
