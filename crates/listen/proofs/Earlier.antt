-- Lemmas. Of two times that are further apart than a tolerance from 0 on, one is earlier: equal times have the difference 0. Assumes nothing.
use Rattle.std.specs.Prelude.{ℕ, ◌+◌, ◌*◌, ◌≤◌, ◌<◌, ◌≡◌, refl, Bool, false, not, List, T, length, get_or, Float}
use Rattle.std.proofs.Common.{mul-pos, zero-mul, zero-lt-suc, arith, sym, subst}
use Rattle.std.proofs.Math.Bool.{true}
use Rattle.std.specs.Float.{nan, inf, fin, binary64}
use Rattle.std.specs.Float.Ieee.{up, down, round, add, sub, neg, lt, le}
use Rattle.std.specs.Float.Ieee.Fits.{down_pos}
use Rattle.number.specs.Ops.{◌⊖◌, dec}
use Rattle.number.specs.Number.{finite_of, abs_of}
use Rattle.number.specs.Order.{pp, np, le→, nlt-le, le_through, neg-le, within_lo, within_finite}
use Rattle.number.specs.Rounding.{summed, round-le}
use Rattle.number.specs.Against0.{sub_from_0}
use Rattle.listen.specs.Listen.{near, times_ok, tolerance_ok}
use Rattle.listen.proofs.Times.{times_exactly}

flipped : (s : Bool) (a : ℕ) → (pp (not s) a ≡ np s a) × (np (not s) a ≡ pp s a)
flipped true a = (refl, refl)
flipped false a = (refl, refl)

no_size : (r : Bool) (size a b c : ℕ) → pp r size + a ≡ b + np r size → b ≤ a → 0 < c → T (le (round binary64 r size c) (dec 0 1))
no_size false size a b c h l p = round-le binary64 false size c false 0 1 p (zero-lt-suc 0) (omega (arith, zero-mul c))
no_size true size a b c h l p = round-le binary64 true size c false 0 1 p (zero-lt-suc 0) (omega (arith, zero-mul c))

-- what is at most y, less y, is at most 0
pub sub_to_0 : (x y : Float) → T (finite_of x) → T (finite_of y) → T (le x y) → T (le (x ⊖ y) (dec 0 1))
unfolding sub neg add
sub_to_0 nan y i j h = elim i [ ]
sub_to_0 (inf _) y i j h = elim i [ ]
sub_to_0 (fin s m e) nan i j h = elim j [ ]
sub_to_0 (fin s m e) (inf _) i j h = elim j [ ]
sub_to_0 (fin s m e) (fin t n d) i j h =
    let X = m * up e * down d in
    let Y = n * up d * down e in
    let c = down e * down d in
    let A = summed binary64 s X (not t) Y c in
    let l = le→ s m e t n d h in
    let w = flipped t Y in
    subst (λ (z : Float). T (le z (dec 0 1))) (sym A.is)
    (no_size A.sign A.size (np s X + np (not t) Y) (pp s X + pp (not t) Y) c A.exact (omega (arith, l, w.0, w.1))
    (mul-pos (down_pos e) (down_pos d)))

-- a difference that is neither above 0 nor below it has a magnitude of at most 0
abs_none : (x : Float) → T (le (dec 0 1) x) → T (le x (dec 0 1)) → T (le (abs_of x) (dec 0 1))
unfolding abs_of
abs_none nan p q = q
abs_none (inf true) p q = absurd (unfold round le in p)
abs_none (inf false) p q = q
abs_none (fin false m e) p q = q
abs_none (fin true m e) p q = le_through (fin false m e) (neg (dec 0 1)) (dec 0 1) (unfold neg in neg-le (dec 0 1) (fin true m e) p) (unfold round neg le in tt)

module _ (t h c : Float) (i : T (finite_of h)) (j : T (finite_of c)) (p : T (le (dec 0 1) t)) where
  pub equal_near : T (le h c) → T (le c h) → T (near t h c)
  unfolding near
  equal_near k l = le_through (abs_of (h ⊖ c)) (dec 0 1) t (abs_none (h ⊖ c) (sub_from_0 c h j i l) (sub_to_0 h c i j k)) p

  pub earlier : near t h c ≡ false → lt h c ≡ false → T (lt c h)
  earlier a b = go (lt c h) refl
    where
      go : (x : Bool) → lt c h ≡ x → T x
      go true e = tt
      go false e =
          let k = nlt-le h c i j (subst (λ (y : Bool). T (not y)) (sym b) tt) in
          let l = nlt-le c h j i (subst (λ (y : Bool). T (not y)) (sym e) tt) in
          subst T a (equal_near l k)

-- ---- each time of a list that passes its test is a number
pub time_finite : (l : List Float) → times_ok l ≡ true → (i : ℕ) → i < length l → T (finite_of (get_or l i nan))
time_finite l e i h =
    within_finite (dec 0 1) (dec 1000000 1) (get_or l i nan) (unfold round in tt) (unfold round in tt) (((times_exactly l).0 e).in_range i h)

pub tolerance_from_0 : (t : Float) → tolerance_ok t ≡ true → T (le (dec 0 1) t)
unfolding tolerance_ok
tolerance_from_0 t e = within_lo (dec 0 1) (dec 1 10) t (subst T (sym e) tt)
