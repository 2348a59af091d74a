-- Lemmas. A ball with a velocity of 0, put down on the ground, has a velocity of 0 there, and y on it: 0 times anything is 0 or a NaN, and so is a sum of such;
-- a NaN fails test 22. Assumes nothing.
use Rattle.std.specs.Prelude.{ℕ, zero, suc, ◌+◌, ◌*◌, ◌^◌, ◌<◌, ◌≡◌, refl, Bool, true, false, not, cond, ◌&&◌, ◌||◌, eqb, ℤ, pos, Float}
use Rattle.std.proofs.Math.Nat.{zero-mul}
use Rattle.std.proofs.Common.{mul-one, mul-pos, zero-lt-suc, arith, sym, subst, eqb→eq, pow_pos}
use Rattle.std.specs.Bool.{beq}
use Rattle.std.proofs.Math.Dec.{T}
use Rattle.std.specs.Float.{nan, inf, fin}
use Rattle.std.specs.Float.Ieee.{binary64, emax, low, up, down, unlike, round, sum, add, sub, mul, neg, eq, fits}
use Rattle.std.specs.Float.Ieee.Bits.{is_true}
use Rattle.std.specs.Float.Ieee.Fits.{round-fits, up_pos, down_pos, and_i, and_l, and_r}
use Rattle.number.specs.Ops.{◌⊕◌, ◌⊖◌, ◌⊗◌, dec}
use Rattle.number.specs.Number.{finite_of}
use Rattle.number.specs.Order.{pp, np, eq_self, zeros_eq}
use Rattle.number.specs.Rounding.{value_unique, exactly, summed, zero_is, mul_commutes}
use Rattle.vector.specs.declared.DVec3.{DVec3}
use Rattle.vector.specs.Vec.{zero3, vsub, vscale, vdot, vnormalize, same_vec}
use Rattle.state.specs.declared.BallState.{BallState}
use Rattle.state.specs.State.{state_ok}
use Rattle.surface.specs.declared.GroundSample.{GroundSample}
use Rattle.contact.specs.Contact.{tangent, onto_of}
use Rattle.promises.proofs.Finite.{state_finite}

-- 0 of either sign, or a NaN
abbrev Nought : Float → Type 0
Nought nan = Unit
Nought (inf s) = ⊥
Nought (fin s m e) = m ≡ 0

round_0 : (s : Bool) (c : ℕ) → 0 < c → round binary64 s 0 c ≡ fin s 0 (pos 0)
round_0 s c p =
    value_unique binary64 (round binary64 s 0 c) (fin s 0 (pos 0)) s 0 c p (round-fits binary64 s 0 c) (unfold fits in tt)
    (exactly binary64 s 0 c 0 0 p (pow_pos 53) (rw (zero-mul (2 ^ low binary64), zero-mul (2 ^ 0), zero-mul c)) (mul-pos (pow_pos (suc (emax binary64))) p))
    (refl, rw (zero-mul c))

rounded : (s : Bool) (a c : ℕ) → a ≡ 0 → 0 < c → Nought (round binary64 s a c)
rounded s a c e p = rw (e, round_0 s c p) refl

nought_times : (x y : Float) → Nought x → Nought (x ⊗ y)
unfolding mul
nought_times nan y h = tt
nought_times (inf s) y h = absurd h
nought_times (fin s m e) nan h = tt
nought_times (fin s m e) (inf t) h = rw h tt
nought_times (fin s m e) (fin t n d) h =
    rounded (unlike s t) (m * up e * (n * up d)) (down e * down d) (rw (h, zero-mul (up e), zero-mul (n * up d))) (mul-pos (down_pos e) (down_pos d))

times_nought : (x y : Float) → Nought y → Nought (x ⊗ y)
times_nought x y h = rw (mul_commutes binary64 x y) (nought_times y x h)

no_size : (sign : Bool) (size : ℕ) (s : Bool) (a : ℕ) (t : Bool) (b : ℕ) → a ≡ 0 → b ≡ 0
    → pp sign size + (np s a + np t b) ≡ pp s a + pp t b + np sign size → size ≡ 0
no_size false size false a false b i j h = omega (arith, i, j, h)
no_size false size false a true b i j h = omega (arith, i, j, h)
no_size false size true a false b i j h = omega (arith, i, j, h)
no_size false size true a true b i j h = omega (arith, i, j, h)
no_size true size false a false b i j h = omega (arith, i, j, h)
no_size true size false a true b i j h = omega (arith, i, j, h)
no_size true size true a false b i j h = omega (arith, i, j, h)
no_size true size true a true b i j h = omega (arith, i, j, h)

part_0 : (m : ℕ) (e d : ℤ) → m ≡ 0 → m * up e * down d ≡ 0
part_0 m e d h = rw (h, zero-mul (up e), zero-mul (down d))

nought_plus : (x y : Float) → Nought x → Nought y → Nought (x ⊕ y)
unfolding add
nought_plus nan y h k = tt
nought_plus (inf s) y h k = absurd h
nought_plus (fin s m e) nan h k = tt
nought_plus (fin s m e) (inf t) h k = absurd k
nought_plus (fin s m e) (fin t n d) h k =
    let a = m * up e * down d in
    let b = n * up d * down e in
    let A = summed binary64 s a t b (down e * down d) in
    rw A.is
    (rounded A.sign A.size (down e * down d) (no_size A.sign A.size s a t b (part_0 m e d h) (part_0 n d e k) A.exact)
    (mul-pos (down_pos e) (down_pos d)))

nought_neg : (x : Float) → Nought x → Nought (neg x)
unfolding neg
nought_neg nan h = tt
nought_neg (inf s) h = absurd h
nought_neg (fin s m e) h = h

-- +0 less what is nought is +0, or a NaN
plain : (t : Bool) (a b c : ℕ) → a ≡ 0 → b ≡ 0 → 0 < c → sum binary64 false a t b c ≡ fin false 0 (pos 0)
unfolding sum
plain true a b c i j p = rw (i, j) (round_0 false c p)
plain false a b c i j p = rw (i, j) (round_0 false c p)

bare_less : (y : Float) → Nought y → T (finite_of (fin false 0 (pos 0) ⊖ y)) → fin false 0 (pos 0) ⊖ y ≡ fin false 0 (pos 0)
unfolding sub neg add
bare_less nan h f = absurd f
bare_less (inf s) h f = absurd h
bare_less (fin s n d) h f =
    plain (not s) (0 * up (pos 0) * down d) (n * up d * down (pos 0)) (down (pos 0) * down d) (part_0 0 (pos 0) d refl) (part_0 n d (pos 0) h)
    (mul-pos (down_pos (pos 0)) (down_pos d))

zero_less : (y : Float) → Nought y → T (finite_of (dec 0 1 ⊖ y)) → dec 0 1 ⊖ y ≡ dec 0 1
zero_less y h = subst (λ (z : Float). T (finite_of (z ⊖ y)) → z ⊖ y ≡ z) (sym zero_is) (bare_less y h)

-- ---- by value

-- a double that equals 0 is nought; a finite one that is nought equals 0
is_nought : (x : Float) → T (eq x (dec 0 1)) → Nought x
unfolding eq
is_nought x h = go x (rw zero_is at h)
  where
    go : (x : Float) → T (eq x (fin false 0 (pos 0))) → Nought x
    go nan h = tt
    go (inf s) h = h
    go (fin s zero e) h = refl
    go (fin s (suc m) e) h =
        let p = mul-pos (zero-lt-suc m) (up_pos e) in
        let a = suc m * up e * down (pos 0) in
        let k : a ≡ 0 * up (pos 0) * down e = eqb→eq a (0 * up (pos 0) * down e) (and_l (eqb a (0 * up (pos 0) * down e)) (beq s false || eqb a 0) h) in
        absurd (omega (arith, p, mul-one (suc m * up e), part_0 0 (pos 0) e refl, k))

is_0 : (x : Float) → T (finite_of x) → Nought x → T (eq x (dec 0 1))
is_0 nan f h = absurd f
is_0 (inf s) f h = absurd f
is_0 (fin s m e) f h = rw (zero_is, h) (zeros_eq s e false (pos 0))

-- ---- a velocity

three : (v : DVec3) → same_vec v zero3 ≡ true → Nought v.x × Nought v.y × Nought v.z
unfolding same_vec
three v h =
    let a = eq v.x (dec 0 1) in
    let b = eq v.y (dec 0 1) in
    let d = eq v.z (dec 0 1) in
    let t : T ((a && b) && d) = rw h tt in
    let u = and_l (a && b) d t in
    (is_nought v.x (and_l a b u), is_nought v.y (and_r a b u), is_nought v.z (and_r (a && b) d t))

abbrev Finite3 : DVec3 → Type 0
Finite3 v = T (finite_of v.x) × T (finite_of v.y) × T (finite_of v.z)

module _ (v n : DVec3) where
  along : Nought v.x × Nought v.y × Nought v.z → Nought (vdot v n)
  unfolding vdot
  along h =
      nought_plus (v.x ⊗ n.x ⊕ v.y ⊗ n.y) (v.z ⊗ n.z)
      (nought_plus (v.x ⊗ n.x) (v.y ⊗ n.y) (nought_times v.x n.x h.0) (nought_times v.y n.y h.1)) (nought_times v.z n.z h.2)

  less : (x m : Float) → Nought x → Nought (vdot v n) → Nought (x ⊖ m ⊗ vdot v n)
  unfolding sub
  less x m h k = nought_plus x (neg (m ⊗ vdot v n)) h (nought_neg (m ⊗ vdot v n) (times_nought m (vdot v n) k))

  tangent_still : same_vec v zero3 ≡ true → Finite3 (tangent v n) → same_vec (tangent v n) zero3 ≡ true
  unfolding tangent vsub vscale same_vec
  tangent_still h f =
      let k = three v (unfold same_vec in h) in
      let d = along k in
      let x = v.x ⊖ n.x ⊗ vdot v n in
      let y = v.y ⊖ n.y ⊗ vdot v n in
      let z = v.z ⊖ n.z ⊗ vdot v n in
      is_true ((eq x (dec 0 1) && eq y (dec 0 1)) && eq z (dec 0 1))
      (and_i (eq x (dec 0 1) && eq y (dec 0 1)) (eq z (dec 0 1))
      (and_i (eq x (dec 0 1)) (eq y (dec 0 1)) (is_0 x f.0 (less v.x n.x k.0 d)) (is_0 y f.1 (less v.y n.y k.1 d)))
      (is_0 z f.2 (less v.z n.z k.2 d)))

-- +0 in each component stays so
tangent_0 : (n : DVec3) → Finite3 (tangent zero3 n) → tangent zero3 n ≡ zero3
unfolding tangent vsub vscale
tangent_0 n f =
    let d : Nought (vdot zero3 n) = along zero3 n (nought_0, nought_0, nought_0) in
    rw (
      zero_less (n.x ⊗ vdot zero3 n) (times_nought n.x _ d) f.0,
      zero_less (n.y ⊗ vdot zero3 n) (times_nought n.y _ d) f.1,
      zero_less (n.z ⊗ vdot zero3 n) (times_nought n.z _ d) f.2,
    )
  where
    nought_0 : Nought (dec 0 1)
    nought_0 = rw zero_is refl

-- ---- put down

module _ (state : BallState) (at : GroundSample) (prev : DVec3) (rolling : Bool) (radius : Float) where
  abbrev down_at : BallState
  down_at = onto_of state at prev rolling radius

  -- the state lies there already
  abbrev there : Bool
  there = same_vec at.normal prev && eq state.pos.y at.height

  one_of : (P : BallState → Type 0) (b : Bool) (x y : BallState) → (T b → P x) → P y → P (cond b x y)
  one_of P true x y p q = p tt
  one_of P false x y p q = q

  pub onto_still : same_vec state.vel zero3 ≡ true → state_ok down_at ≡ true → same_vec down_at.vel zero3 ≡ true
  unfolding onto_of
  onto_still h ok =
      one_of (λ (s : BallState). Finite3 s.vel → same_vec s.vel zero3 ≡ true) there state _ (λ _ _. h)
      (tangent_still state.vel (vnormalize at.normal) h) (state_finite down_at ok).vel

  pub onto_0 : state.vel ≡ zero3 → state_ok down_at ≡ true → down_at.vel ≡ zero3
  unfolding onto_of
  onto_0 h ok =
      one_of (λ (s : BallState). Finite3 s.vel → s.vel ≡ zero3) there state _ (λ _ _. h)
      (rw h (tangent_0 (vnormalize at.normal))) (state_finite down_at ok).vel

  pub onto_ground : state_ok down_at ≡ true → T (eq down_at.pos.y at.height)
  unfolding onto_of
  onto_ground ok =
      one_of (λ (s : BallState). T (finite_of s.pos.y) → T (eq s.pos.y at.height)) there state _
      (λ t _. and_r (same_vec at.normal prev) (eq state.pos.y at.height) t) (λ f. eq_self at.height f) (state_finite down_at ok).pos.1
