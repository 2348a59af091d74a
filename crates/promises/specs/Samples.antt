-- Statements. Every sample of an accepted sheet has a finite height and normal and a surface number below 16, a finite double. Assumes nothing.
use Rattle.std.specs.Prelude.{ℕ, ◌+◌, ◌*◌, ◌≤◌, ◌<◌, Bool, true, false, cond, ◌&&◌, List, T, ltb, pos, Float}
use Rattle.std.proofs.Common.{le_trans, le_of_eq, mul-le-mul, mul-pos, arith, sym, subst, ltb→lt}
use Rattle.std.proofs.Math.Nat.{mul-mul-mul_comm}
use Rattle.std.specs.Float.{nan, inf, fin, binary64}
use Rattle.std.specs.Float.Ieee.{up, down, unlike, of_int, fits, round, neg, add, sub, mul, le}
use Rattle.std.specs.Float.Ieee.Fits.{down_pos}
use Rattle.std.specs.Float.Ieee.Exact.{HasValue}
use Rattle.std.specs.Float.Ieee.Back.{round_whole}
use Rattle.number.specs.Ops.{◌⊕◌, ◌⊖◌, ◌⊗◌, dec}
use Rattle.number.specs.Rounding.{round_between, about_size, about_finite, add_mono, sub_mono}
use Rattle.look.specs.Rect.{is_double, spot_ok}
use Rattle.look.proofs.Within.{and_parts}
use Rattle.state.specs.State.{coord_ok}
use Rattle.number.specs.Number.{within_of, about_of, finite_of}
use Rattle.number.specs.Order.{le_through, within_of_lem, within_lo, within_hi, within_finite, neg_finite}
use Rattle.surface.specs.declared.GroundSample.{GroundSample}
use Rattle.sheet.specs.Sheet.{surfaces, patches, field, real, edges_ok, patch_ok, first, covers, patch_sample, plain_sample}
use Rattle.sheet.specs.Scan.{first_from}
use Rattle.sheet.specs.Accepted.{accepted, patch_passed, number_below}
use Rattle.course.specs.Sheet.{course_of, Accepted}

pub record Sampled (g : GroundSample) : Type 0 where
  pub normal : T (finite_of g.normal.x) × T (finite_of g.normal.y) × T (finite_of g.normal.z)
  pub number : g.number < 16

-- the height and slopes of a patch that passed test 3
slopes : (s : List ℕ) (i : ℕ) → T (patch_ok s i)
    → T (about_of (dec 1000 1) (real s i 4)) × T (about_of (dec 4 1) (real s i 5)) × T (about_of (dec 4 1) (real s i 6))
unfolding patch_ok
slopes s i h =
    go (edges_ok (real s i 0) (real s i 1)) (edges_ok (real s i 2) (real s i 3)) (about_of (dec 1000 1) (real s i 4))
    (about_of (dec 4 1) (real s i 5)) (about_of (dec 4 1) (real s i 6)) (ltb (field s i 7) (surfaces s)) h
  where
    go : (a b c d e f : Bool) → T (a && b && c && d && e && f) → T c × T d × T e
    go true true true true true f h = (tt, tt, tt)
    go true true true true false f h = absurd h
    go true true true false e f h = absurd h
    go true true false d e f h = absurd h
    go true false c d e f h = absurd h
    go false b c d e f h = absurd h

four_finite : (x : Float) → T (about_of (dec 4 1) x) → T (finite_of (neg x))
unfolding round neg
four_finite x h = neg_finite x (within_finite (fin true 1 (pos 2)) (fin false 1 (pos 2)) x tt tt h)

plain_sampled : (s : List ℕ) → Sampled (plain_sample s)
unfolding plain_sample round
plain_sampled s = record { normal = (tt, tt, tt); number = omega arith }

patch_sampled : (s : List ℕ) (x z : Float) (i : ℕ) → Accepted s → surfaces s ≤ i → i < surfaces s + patches s → Sampled (patch_sample s x z i)
unfolding patch_sample round
patch_sampled s x z i h l k =
    let p = patch_passed s i h l k in
    let w = slopes s i (subst T (sym p) tt) in
    let n = number_below s i p in
    let f = (accepted s h).few in
    record { normal = (four_finite (real s i 5) w.1, tt, four_finite (real s i 6) w.2); number = omega arith }

pub sampled : (s : List ℕ) (x z : Float) → Accepted s → Sampled (course_of s x z)
unfolding course_of
sampled s x z h =
    let i = first (covers s x z) (patches s) (surfaces s) in
    go i (first_from (covers s x z) (patches s) (surfaces s)) (ltb i (surfaces s + patches s)) (ltb→lt i (surfaces s + patches s))
  where
    go : (i : ℕ) → surfaces s ≤ i → (b : Bool) → (T b → i < surfaces s + patches s) → Sampled (cond b (patch_sample s x z i) (plain_sample s))
    go i l true f = patch_sampled s x z i h l (f tt)
    go i l false f = plain_sampled s

-- a surface number as a double
pub number_finite : (n : ℕ) → n < 16 → T (finite_of (of_int binary64 (pos n)))
unfolding of_int
number_finite n h = go (round binary64 false n 1) (round_whole binary64 false n (omega arith))
  where
    go : (x : Float) → HasValue x false n 1 → T (finite_of x)
    go nan v = v
    go (inf s) v = v
    go (fin s m e) v = tt

-- ---- the height

-- 1,000,000, and its square
abbrev million : Float
million = dec 1000000 1

abbrev most : Float
most = dec 1000000000000 1

square : (X E Y D : ℕ) → X ≤ 1000000 * E → Y ≤ 1000000 * D → X * Y ≤ 1000000000000 * (E * D)
square X E Y D a b = le_trans (mul-le-mul a b) (le_of_eq (mul-mul-mul_comm 1000000 E 1000000 D))

-- a fraction of at most that square, either sign, rounded
rounded : (u : Bool) (a c : ℕ) → 0 < c → a ≤ 1000000000000 * c → T (about_of most (round binary64 u a c))
unfolding round neg fits
rounded true a c p i = round_between binary64 (neg most) most true a c tt tt p (omega (arith, i)) (omega arith)
rounded false a c p i = round_between binary64 (neg most) most false a c tt tt p (omega arith) (omega (arith, i))

-- a product of two doubles of at most 1,000,000
product : (x y : Float) → T (about_of million x) → T (about_of million y) → T (about_of most (x ⊗ y))
unfolding mul
product nan y h k = absurd (about_finite nan h)
product (inf s) y h k = absurd (about_finite (inf s) h)
product (fin s m e) nan h k = absurd (about_finite nan k)
product (fin s m e) (inf t) h k = absurd (about_finite (inf t) k)
product (fin s m e) (fin t n d) h k =
    rounded (unlike s t) (m * up e * (n * up d)) (down e * down d) (mul-pos (down_pos e) (down_pos d))
    (square (m * up e) (down e) (n * up d) (down d) (about_size s m e h) (about_size t n d k))

-- a sum of two values within finite ends
sum_within : (a b c d x y : Float) → T (finite_of a) → T (finite_of b) → T (finite_of c) → T (finite_of d) → T (within_of a b x) → T (within_of c d y)
    → T (within_of (a ⊕ c) (b ⊕ d) (x ⊕ y))
sum_within a b c d x y fa fb fc fd h k =
    let fx = within_finite a b x fa fb h in
    let fy = within_finite c d y fc fd k in
    within_of_lem (a ⊕ c) (b ⊕ d) (x ⊕ y) (add_mono a x c y fa fx fc fy (within_lo a b x h) (within_lo c d y k))
    (add_mono x b y d fx fb fy fd (within_hi a b x h) (within_hi c d y k))

-- no height is beyond these
abbrev lowest : Float
lowest = (neg (dec 1000 1) ⊕ neg most) ⊕ neg most

abbrev highest : Float
highest = (dec 1000 1 ⊕ most) ⊕ most

total_within : (h p q : Float) → T (about_of (dec 1000 1) h) → T (about_of most p) → T (about_of most q) → T (within_of lowest highest ((h ⊕ p) ⊕ q))
unfolding round neg add
total_within h p q a b c =
    let k = dec 1000 1 in
    let s = sum_within (neg k) k (neg most) most h p tt tt tt tt a b in
    sum_within (neg k ⊕ neg most) (k ⊕ most) (neg most) most (h ⊕ p) q tt tt tt tt s c

four_million : (x : Float) → T (about_of (dec 4 1) x) → T (about_of million x)
unfolding round neg le
four_million x h =
    within_of_lem (neg million) million x (le_through (neg million) (neg (dec 4 1)) x tt (within_lo _ _ x h))
    (le_through x (dec 4 1) million (within_hi _ _ x h) tt)

zero_within : T (within_of lowest highest (dec 0 1))
unfolding round neg add le
zero_within = within_of_lem lowest highest (dec 0 1) tt tt

spot_about : (x z : Float) → T (spot_ok x z) → T (about_of million x) × T (about_of million z)
unfolding spot_ok coord_ok
spot_about x z t = and_parts (coord_ok x) (coord_ok z) (and_parts (is_double x && is_double z) (coord_ok x && coord_ok z) t).1

height_within : (s : List ℕ) (x z : Float) → Accepted s → T (spot_ok x z) → T (within_of lowest highest (course_of s x z).height)
unfolding course_of patch_sample plain_sample
height_within s x z h t =
    let i = first (covers s x z) (patches s) (surfaces s) in
    go i (first_from (covers s x z) (patches s) (surfaces s)) (ltb i (surfaces s + patches s)) (ltb→lt i (surfaces s + patches s))
  where
    go : (i : ℕ) → surfaces s ≤ i → (b : Bool) → (T b → i < surfaces s + patches s)
        → T (within_of lowest highest (cond b (patch_sample s x z i) (plain_sample s)).height)
    go i l true f =
        let p = patch_passed s i h l (f tt) in
        let w = slopes s i (subst T (sym p) tt) in
        let v = spot_about x z t in
        total_within (real s i 4) (real s i 5 ⊗ x) (real s i 6 ⊗ z) w.0
        (product (real s i 5) x (four_million (real s i 5) w.1) v.0) (product (real s i 6) z (four_million (real s i 6) w.2) v.1)
    go i l false f = zero_within

-- the height of an accepted sheet's course is finite, wherever a look may be
pub height_finite : (s : List ℕ) (x z : Float) → Accepted s → T (spot_ok x z) → T (finite_of (course_of s x z).height)
unfolding round neg add
height_finite s x z h t = within_finite lowest highest _ tt tt (height_within s x z h t)

-- and so is a y of a state that passed test 22 less that height
pub clearance_finite : (s : List ℕ) (x y z : Float) → Accepted s → T (spot_ok x z) → T (coord_ok y) → T (finite_of (y ⊖ (course_of s x z).height))
unfolding round neg add sub coord_ok
clearance_finite s x y z h t k =
    let g = (course_of s x z).height in
    let w = height_within s x z h t in
    let yf = within_finite (neg million) million y tt tt k in
    let gf = within_finite lowest highest g tt tt w in
    within_finite (neg million ⊖ highest) (million ⊖ lowest) (y ⊖ g) tt tt
    (within_of_lem (neg million ⊖ highest) (million ⊖ lowest) (y ⊖ g)
    (sub_mono (neg million) y highest g tt yf tt gf (within_lo _ _ y k) (within_hi _ _ g w))
    (sub_mono y million g lowest yf tt gf tt (within_hi _ _ y k) (within_lo _ _ g w)))
