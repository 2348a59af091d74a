-- Lemmas. What is known of a sheet that passes the tests 1 to 3.
use Rattle.std.specs.Prelude.{ℕ, zero, suc, ◌+◌, ◌-◌, ◌*◌, ◌≤◌, ◌<◌, ◌≡◌, refl, List, Bool, true, false, not, cond, ◌&&◌, length, T, leb, ltb, eqb, Float}
use Rattle.std.proofs.Common.{add-zero, not-suc-le-zero, le_of_suc-le-suc, add-one, arith, sym, ◌∙◌, subst, true≢false, eqb-true, leb-true, ltb-true}
use Rattle.std.specs.Float.{nan, inf, fin, binary64}
use Rattle.std.specs.Float.Ieee.{of_bits, nan_bits, is_nan, le, lt, eq, neg}
use Rattle.std.specs.Float.Ieee.Bits.{nan_bits_is}
use Rattle.sheet.specs.Scan.{and-false}
use Rattle.sheet.specs.Sheet.{edges_ok, surfaces, patches, field, real, header_ok, surface_ok, patch_ok, all, answer_of, Accepted}
use Rattle.number.specs.Ops.{dec}
use Rattle.number.specs.Number.{within_of, about_of}

pub and_l : (a b : Bool) → (a && b) ≡ true → a ≡ true
and_l true b e = refl
and_l false b e = e

pub and_r : (a b : Bool) → (a && b) ≡ true → b ≡ true
and_r true b e = e
and_r false b e = absurd (true≢false (sym e))

-- t is true where X is, if X is false where t is
pub must : (t X : Bool) → (t ≡ false → X ≡ false) → X ≡ true → t ≡ true
must true X f e = refl
must false X f e = absurd (true≢false (sym e ∙ f refl))

pub all_at : (p : ℕ → Bool) (n i k : ℕ) → all p n i ≡ true → k < n → p (i + k) ≡ true
unfolding all
all_at p zero i k e l = absurd (not-suc-le-zero l)
all_at p (suc n) i zero e l = rw add-zero (and_l (p i) _ e)
all_at p (suc n) i (suc k) e l =
    let h : p (i + 1 + k) ≡ true = all_at p n (i + 1) k (and_r (p i) _ e) (le_of_suc-le-suc l) in
    subst (λ (m : ℕ). p m ≡ true) (omega (arith, add-one k)) h

-- ---- the header
pub record Header (s : List ℕ) : Type 0 where
  pub some : 1 ≤ surfaces s
  pub few : surfaces s ≤ 16
  pub bounded : patches s ≤ 512
  pub long : length s ≡ 16 + 64 * (surfaces s + patches s)

pub header : (s : List ℕ) → header_ok s ≡ true → Header s
unfolding header_ok
header s e = record {
  some = leb-true _ _ (must (leb 1 (surfaces s)) (header_ok s) (λ h. simp h) e);
  few = leb-true _ _ (must (leb (surfaces s) 16) (header_ok s) (λ h. simp (h, and-false)) e);
  bounded = leb-true _ _ (must (leb (patches s) 512) (header_ok s) (λ h. simp (h, and-false)) e);
  long = eqb-true _ _ (must (eqb (length s) (16 + 64 * (surfaces s + patches s))) (header_ok s) (λ h. simp (h, and-false)) e);
}

-- ---- the answer 0
by_cases : (a b c : Bool) → ◌≡◌ {A = ℕ} (cond a (cond b (cond c 0 3) 2) 1) 0 → (a ≡ true) × (c ≡ true)
by_cases true true true e = (refl, refl)
by_cases true true false e = absurd (omega arith)
by_cases true false c e = absurd (omega arith)
by_cases false b c e = absurd (omega arith)

pub accepted : (s : List ℕ) → answer_of s ≡ 0 → Header s
unfolding answer_of
accepted s e = header s (by_cases (header_ok s) (all (surface_ok s) (surfaces s) 0) (all (patch_ok s) (patches s) (surfaces s)) e).0

-- what is held of an accepted sheet beside its bytes: the counts of its surfaces and patches
pub record Held (s : List ℕ) (count n : ℕ) : Type 0 where
  pub ok : Accepted s
  pub surface_count : count ≡ surfaces s
  pub patch_count : n ≡ patches s
  pub header : Header s

pub patch_passed : (s : List ℕ) (i : ℕ) → answer_of s ≡ 0 → surfaces s ≤ i → i < surfaces s + patches s → patch_ok s i ≡ true
unfolding answer_of
patch_passed s i e l h =
    let k : ℕ = i - surfaces s in
    let q : patch_ok s (surfaces s + k) ≡ true = all_at (patch_ok s) (patches s) (surfaces s) k (by_cases (header_ok s) (all (surface_ok s) (surfaces s) 0) (all (patch_ok s) (patches s) (surfaces s)) e).1 (omega arith) in
    subst (λ (m : ℕ). patch_ok s m ≡ true) (omega arith) q

-- a patch's surface number is below the count
pub number_below : (s : List ℕ) (i : ℕ) → patch_ok s i ≡ true → field s i 7 < surfaces s
unfolding patch_ok
number_below s i r = ltb-true _ _ (must (ltb (field s i 7) (surfaces s)) (patch_ok s i) (λ h. simp (h, and-false)) r)

-- what is within a range is no NaN
real_number : (lo hi v : Float) → within_of lo hi v ≡ true → T (not (is_nan v))
unfolding within_of is_nan le lt eq
real_number lo hi nan e = absurd (true≢false (sym e ∙ and-false (le lo nan)))
real_number lo hi (inf s) e = tt
real_number lo hi (fin s m d) e = tt

pub no_nan : (lo hi : Float) (n : ℕ) → within_of lo hi (of_bits binary64 n) ≡ true → T (not (nan_bits binary64 n))
no_nan lo hi n e = rw nan_bits_is (real_number lo hi (of_bits binary64 n) e)

edges_of : (lo hi : ℕ) → edges_ok (of_bits binary64 lo) (of_bits binary64 hi) ≡ true → T (not (nan_bits binary64 lo)) × T (not (nan_bits binary64 hi))
unfolding edges_ok
edges_of lo hi e =
    let h = and_l (about_of (dec 100000 1) (of_bits binary64 lo) && about_of (dec 100000 1) (of_bits binary64 hi)) (le (of_bits binary64 lo) (of_bits binary64 hi)) e in
    (no_nan (neg (dec 100000 1)) (dec 100000 1) lo (and_l (about_of (dec 100000 1) (of_bits binary64 lo)) (about_of (dec 100000 1) (of_bits binary64 hi)) h), no_nan (neg (dec 100000 1)) (dec 100000 1) hi (and_r (about_of (dec 100000 1) (of_bits binary64 lo)) (about_of (dec 100000 1) (of_bits binary64 hi)) h))

-- the edges of record i are no NaN patterns
pub record EdgesReal (s : List ℕ) (i : ℕ) : Type 0 where
  pub e0 : T (not (nan_bits binary64 (field s i 0)))
  pub e1 : T (not (nan_bits binary64 (field s i 1)))
  pub e2 : T (not (nan_bits binary64 (field s i 2)))
  pub e3 : T (not (nan_bits binary64 (field s i 3)))

pub edges_real : (s : List ℕ) (i : ℕ) → patch_ok s i ≡ true → EdgesReal s i
unfolding patch_ok
edges_real s i r =
    let a = edges_of (field s i 0) (field s i 1) (must (edges_ok (real s i 0) (real s i 1)) (patch_ok s i) (λ h. simp h) r) in
    let b = edges_of (field s i 2) (field s i 3) (must (edges_ok (real s i 2) (real s i 3)) (patch_ok s i) (λ h. simp (h, and-false)) r) in
    record { e0 = a.0; e1 = a.1; e2 = b.0; e3 = b.1 }
