-- Lemmas. Keys are finite numbers, so the order of a listing is a strict order that tells distinct shot numbers apart.
use Rattle.std.specs.Prelude.{ℕ, ◌+◌, ◌*◌, ◌≤◌, ◌≡◌, refl, ◌⊎◌, Bool, false, List, [], ◌∷◌, ℤ, pos, Float}
use Rattle.std.proofs.Common.{arith, mul-one, zero-mul, mul-pos, mul-le-mul, ◌∙◌, sym, inl, inr}
use Rattle.std.proofs.Math.Path.{subst}
use Rattle.std.proofs.Math.Bool.{true}
use Rattle.std.proofs.Math.Dec.{T, not_T, eqb→eq}
use Rattle.std.specs.Float.{nan, inf, fin, binary64}
use Rattle.std.specs.Float.Ieee.{up, down, fits, round, neg, add, sub, sum, mul, lt, le, eq}
use Rattle.std.specs.Float.Ieee.Fits.{down_pos}
use Rattle.std.specs.Float.Ieee.Bits.{is_true, is_false}
use Rattle.number.specs.Ops.{◌⊕◌, ◌⊖◌, ◌⊗◌, dec}
use Rattle.number.specs.Number.{about_of, within_of, finite_of}
use Rattle.number.specs.Order.{Le, le→, lt-le, eq-le, lt-nle, le_total, le_split, lt-le_trans, le_lt_trans, eq_sym, eq_trans}
use Rattle.number.specs.Order.{le_through, within_lo, within_hi, within_of_lem, between_finite}
use Rattle.number.specs.Rounding.{about_finite, sub_mono, add_mono, round_between}
use Rattle.state.specs.declared.Termination.{Termination}
use Rattle.state.specs.declared.Termination.TheVariants.{Rest, MaxTime, MaxImpacts}
use Rattle.std.specs.Prelude.{Option, Some, None}
use Rattle.board.specs.declared.Entry.{Entry}
use Rattle.board.specs.Rules.{key_of, Comparison, least_key, lower, moving, cleaner, by_first, is_before}
use Rattle.board.specs.Words.{Sorted, RestFirst, Near}
use Rattle.board.specs.Sorting.{Order, all_map}
use Rattle.board.specs.Comparing.{Lawful, Laws, Level, lower_lawful, first_asym, first_trans, first_total}

pub wider : (x : Float) → T (about_of (dec 100000 1) x) → T (about_of (dec 1000000 1) x)
unfolding round neg
wider x h =
    let n = fin false 15625 (pos 6) in
    let l = fin false 3125 (pos 5) in
    within_of_lem (fin true 15625 (pos 6)) n x
    (le_through (fin true 15625 (pos 6)) (fin true 3125 (pos 5)) x (unfold le in tt) (within_lo (fin true 3125 (pos 5)) l x h))
    (le_through x l n (within_hi (fin true 3125 (pos 5)) l x h) (unfold le in tt))

bound : (e : ℤ) (s : Bool) (m : ℕ) → Le true (2000000 * down e) s (m * up e * 1) → Le s (m * up e * 1) false (2000000 * down e) → m * up e ≤ 2000000 * down e
bound e true m p q = omega (arith, mul-one (m * up e))
bound e false m p q = omega (arith, mul-one (m * up e))

four : (x d : ℕ) → x ≤ 2000000 * d → x * x * 1 + 0 ≤ 4000000000000 * (d * d) + 0
four x d h = let k : x * x ≤ 2000000 * d * (2000000 * d) = mul-le-mul h h in omega (arith, mul-one (x * x))

nought : (c a : ℕ) → 0 * c + 0 ≤ a + 0
nought c a = omega (arith, zero-mul c)

square_of : (m : ℕ) (e : ℤ) → m * up e ≤ 2000000 * down e
    → T (within_of (dec 0 1) (dec 4000000000000 1) (round binary64 false (m * up e * (m * up e)) (down e * down e)))
unfolding round fits
square_of m e h =
    round_between binary64 (fin false 0 (pos 0)) (fin false 244140625 (pos 14)) false (m * up e * (m * up e)) (down e * down e) tt tt
    (mul-pos (down_pos e) (down_pos e)) (nought (down e * down e) (m * up e * (m * up e) * 1)) (four (m * up e) (down e) h)

squared : (d : Float) → T (le (fin true 15625 (pos 7)) d) → T (le d (fin false 15625 (pos 7))) → T (within_of (dec 0 1) (dec 4000000000000 1) (d ⊗ d))
unfolding le mul
squared nan a b = absurd a
squared (inf true) a b = absurd a
squared (inf false) a b = absurd b
squared (fin true m e) a b = square_of m e (bound e true m (le→ true 15625 (pos 7) true m e a) (le→ true m e false 15625 (pos 7) b))
squared (fin false m e) a b = square_of m e (bound e false m (le→ true 15625 (pos 7) false m e a) (le→ false m e false 15625 (pos 7) b))

-- the difference of two numbers of magnitude at most 1,000,000, squared, is a number from 0 to 4 × 10 ^ 12
square_within : (x p : Float) → T (about_of (dec 1000000 1) x) → T (about_of (dec 1000000 1) p) → T (within_of (dec 0 1) (dec 4000000000000 1) ((x ⊖ p) ⊗ (x ⊖ p)))
unfolding round neg sub add sum
square_within x p h k =
    let m = fin false 15625 (pos 6) in
    let n = fin true 15625 (pos 6) in
    let fx = about_finite x h in
    let fp = about_finite p k in
    squared (x ⊖ p) (sub_mono n x m p tt fx tt fp (within_lo n m x h) (within_hi n m p k))
    (sub_mono x m p n fx tt fp tt (within_hi n m x h) (within_lo n m p k))

-- a key is a finite number
pub key_finite : (px pz : Float) (e : Entry) → T (about_of (dec 1000000 1) px) → T (about_of (dec 1000000 1) pz) → Near e → T (finite_of (key_of px pz e))
unfolding key_of round add sum
key_finite px pz e i j h =
    let z = fin false 0 (pos 0) in
    let t = fin false 244140625 (pos 14) in
    let a = square_within e.x px h.0 i in
    let b = square_within e.z pz h.1 j in
    let fa = between_finite z t _ tt tt (within_lo z t _ a) (within_hi z t _ a) in
    let fb = between_finite z t _ tt tt (within_lo z t _ b) (within_hi z t _ b) in
    between_finite (z ⊕ z) (t ⊕ t) _ tt tt (add_mono z _ z _ tt fa tt fb (within_lo z t _ a) (within_lo z t _ b))
    (add_mono _ t _ t fa tt fb tt (within_hi z t _ a) (within_hi z t _ b))

-- ---- the order of a listing
module _ (px pz : Float) where
  abbrev pub Finite : Entry → Type 0
  Finite e = T (finite_of (key_of px pz e))

  abbrev k : Entry → Float
  k e = key_of px pz e

  key_lawful : Lawful Finite (least_key px pz)
  key_lawful =
      record {
        asym = λ e f i j h m. lt-nle (k e) (k f) i j h (lt-le (k f) (k e) m);
        apart = λ e f i j h m. lt-nle (k e) (k f) i j h (eq-le (k f) (k e) m);
        less_less = λ e f g i j l h m. lt-le_trans (k e) (k f) (k g) i j l h (lt-le (k f) (k g) m);
        less_level = λ e f g i j l h m. lt-le_trans (k e) (k f) (k g) i j l h (eq-le (k f) (k g) m);
        level_less = λ e f g i j l h m. le_lt_trans (k e) (k f) (k g) i j l (eq-le (k e) (k f) h) m;
        level_level = λ e f g i j l h m. eq_trans (k e) (k f) (k g) i j l h m;
        total = λ e f i j. which (k e) (k f) i j (le_total (k e) (k f) i j);
      }
    where
      split : (a b : Float) → T (finite_of a) → T (finite_of b) → T (lt a b) ⊎ T (eq a b) → T (lt a b) ⊎ (T (lt b a) ⊎ (T (eq a b) × T (eq b a)))
      split a b i j (inl h) = inl h
      split a b i j (inr h) = inr (inr (h, eq_sym a b i j h))

      which : (a b : Float) → T (finite_of a) → T (finite_of b) → T (le a b) ⊎ T (le b a) → T (lt a b) ⊎ (T (lt b a) ⊎ (T (eq a b) × T (eq b a)))
      which a b i j (inl h) = split a b i j (le_split a b h)
      which a b i j (inr h) = back (le_split b a h)
        where
          back : T (lt b a) ⊎ T (eq b a) → T (lt a b) ⊎ (T (lt b a) ⊎ (T (eq a b) × T (eq b a)))
          back (inl m) = inr (inl m)
          back (inr m) = inr (inr (eq_sym b a j i m, m))

  abbrev comparisons : List Comparison
  comparisons = lower (λ e. moving e.termination) ∷ least_key px pz ∷ cleaner

  laws : Laws Finite comparisons
  unfolding Laws
  laws = (lower_lawful Finite (λ e. moving e.termination), (key_lawful, (lower_lawful Finite (λ e. e.contacts), (lower_lawful Finite (λ e. e.shot), tt))))

  level_shots : (e f : Entry) → Level comparisons e f → e.shot ≡ f.shot
  unfolding Level
  level_shots e f h = eqb→eq e.shot f.shot h.1.1.1.0

  pub key_order : Order Finite (is_before px pz)
  unfolding is_before
  key_order =
      record {
        asym = λ e f i j h. is_false (is_before px pz f e) (not_T (is_before px pz f e) (first_asym Finite comparisons laws e f i j (holds h)));
        trans = λ e f g i j l h m. is_true (is_before px pz e g) (first_trans Finite comparisons laws e f g i j l (holds h) (holds m));
        total = λ e f i j d h. is_true (is_before px pz f e) (other e f d h (first_total Finite comparisons laws e f i j));
      }
    where
      holds : {b : Bool} → b ≡ true → T b
      holds h = subst T (sym h) tt

      other : (e f : Entry) → (e.shot ≡ f.shot → ⊥) → is_before px pz e f ≡ false → T (is_before px pz e f) ⊎ (T (is_before px pz f e) ⊎ Level comparisons e f)
          → T (is_before px pz f e)
      other e f d h (inl a) = absurd (subst T h a)
      other e f d h (inr (inl a)) = a
      other e f d h (inr (inr a)) = absurd (d (level_shots e f a))

-- one at rest comes before one that moves, whatever their keys
pub rest_before : (px pz : Float) (e f : Entry) → e.termination ≡ Some Rest → (f.termination ≡ Some Rest → ⊥) → is_before px pz e f ≡ true
unfolding is_before by_first moving
rest_before px pz e f h k = rw (h, moves f.termination k)
  where
    moves : (t : Option Termination) → (t ≡ Some Rest → ⊥) → moving t ≡ 1
    moves None k = refl
    moves (Some Rest) k = absurd (k refl)
    moves (Some MaxTime) k = refl
    moves (Some MaxImpacts) k = refl

pub sorted_rest_first : (px pz : Float) (l : List Entry) → Sorted (is_before px pz) l → RestFirst l
unfolding Sorted RestFirst
sorted_rest_first px pz [] s = tt
sorted_rest_first px pz
    (e ∷ l) s = (
      λ m. all_map (λ (f : Entry). is_before px pz f e ≡ false) (λ (f : Entry). f.termination ≡ Some Rest → ⊥) l (after m) s.0,
      sorted_rest_first px pz l s.1,
    )
  where
    after : (e.termination ≡ Some Rest → ⊥) → (f : Entry) → is_before px pz f e ≡ false → f.termination ≡ Some Rest → ⊥
    after m f b r = subst T (sym (rest_before px pz f e r m) ∙ b) tt
