-- Lemmas. The root of a double below 2 ^ -61 is not above 1e-9: were it, the double 2 ^ -31 would be nearer the true root. Assumes nothing.
use mathlib.Core.Path.{◌≡◌, refl, sym, subst}
use mathlib.Core.Bool.{Bool, true, false}
use Prim.Native.Nat.{ℕ, zero, suc, ◌+◌, ◌-◌, ◌*◌, ◌^◌, ◌≤◌, ◌<◌}
use native.Mathlib.Nat.{mul_assoc, mul_comm, one-mul, zero-mul, mul-le-mul, mul-le-mul_right, mul-lt-mul_of_pos_right, mul-mul-mul_comm, zero-lt-suc}
use native.Mathlib.Nat.{div-lt_iff_lt-mul, le-div_iff_mul-le}
use native.Mathlib.Omega.{arith}
use lib.Dec.{T, ltb→lt, lt→ltb}
use lib.IntN.{ℤ, negsuc}
use lib.Ieee.{Float, nan, inf, fin, binary64, up, down, fits, round, lt, is_nan}
use lib.Ieee.Fits.{down_pos}
use lib.Pow.{pow_pos}
use Rattle.number.specs.Order.{lt_trans}
use Rattle.root.specs.Root.{in_units, root_of}
use Rattle.root.specs.Finite.{root-plus}
use Rattle.root.specs.Nearest.{Less, twice_halfway, squared, root_nearest}
use Rattle.vector.specs.declared.DVec3.{DVec3}
use Rattle.vector.specs.Vec.{vlength, vlength_squared}
use Rattle.slide.specs.Slide.{slip_eps}

abbrev least : Float
least = fin false 1 (negsuc 60)

shift : (a b c d f : ℕ) → c ≡ b * d → a * b < f → 0 < d → a * c < d * f
shift a b c d f e h p = rw (e, ← mul_assoc a b d, mul_comm d f) (mul-lt-mul_of_pos_right h p)

-- below 2 ^ -61, in units
under : (m : ℕ) (e : ℤ) → T (lt (fin false m e) least) → in_units (fin false m e) < 2 ^ 1013
unfolding lt
under m e h =
    let l = ltb→lt (m * up e * down (negsuc 60)) (1 * up (negsuc 60) * down e) h in
    (div-lt_iff_lt-mul (down_pos e)).1 (shift (m * up e) (2 ^ 61) (2 ^ 1074) (2 ^ 1013) (down e) refl (rw one-mul at l) (pow_pos 1013))

raise : (a b c d f : ℕ) → c ≡ b * d → f ≤ a * b → d * f ≤ a * c
raise a b c d f e h = rw (e, ← mul_assoc a b d, mul_comm d f) (mul-le-mul_right d h)

-- above 2 ^ -30, in units
above : (m : ℕ) (e : ℤ) → T (lt (fin false 1 (negsuc 29)) (fin false m e)) → 2 ^ 1044 ≤ in_units (fin false m e)
unfolding lt
above m e h =
    let l = ltb→lt (1 * up (negsuc 29) * down e) (m * up e * down (negsuc 29)) h in
    let k : down e < m * up e * 2 ^ 30 = rw one-mul at l in
    (le-div_iff_mul-le (down_pos e)).1 (raise (m * up e) (2 ^ 30) (2 ^ 1074) (2 ^ 1044) (down e) refl (omega (arith, k)))

less : (p q : ℕ) → 0 < q → 2 * q ≤ p → q + 0 < p + 0
less p q h k = omega arith

far : (a t s : ℕ) → 9 * a ≤ t → t < 4 * s → s < 2 * a → ⊥
far a t s f g h = omega arith

clash : (p q s : ℕ) → 2 * q ≤ p → (p + q - (0 + 0)) * (p + q - (0 + 0)) < 4 * s → s < 2 * (q * q) → ⊥
clash p q s g t l =
    let w : 3 * q ≤ p + q - (0 + 0) = omega arith in
    let n : 9 * (q * q) ≤ (p + q - (0 + 0)) * (p + q - (0 + 0)) = rw (mul-mul-mul_comm 3 q 3 q) at (mul-le-mul w w) in
    far (q * q) ((p + q - (0 + 0)) * (p + q - (0 + 0))) s n t l

none : (n : ℕ) (d e : ℤ) → T (lt (fin false n d) (fin false 0 e)) → ⊥
unfolding lt
none n d e h =
    let l = ltb→lt (n * up d * down e) (0 * up e * down d) h in
    let z : n * up d * down e < 0 = rw (zero-mul, zero-mul) at l in
    omega (arith, z)

abbrev Below : Float → ℕ → Type 0
Below r s = Less (fin false 1 (negsuc 30)) r → twice_halfway r (fin false 1 (negsuc 30)) * twice_halfway r (fin false 1 (negsuc 30)) < 4 * s

core : (a : ℕ) (b : ℤ) (s : ℕ) → Below (fin false a b) s → s < 2 * (2 ^ 1043 * 2 ^ 1043) → T (lt slip_eps (fin false a b)) → ⊥
unfolding lt round
core a b s near l h =
    let i : T (lt (fin false 1 (negsuc 29)) (fin false a b)) = lt_trans (fin false 1 (negsuc 29)) slip_eps (fin false a b) tt tt tt tt h in
    let g : 2 * 2 ^ 1043 ≤ in_units (fin false a b) = above a b i in
    clash (in_units (fin false a b)) (2 ^ 1043) s g (near (less (in_units (fin false a b)) (2 ^ 1043) (pow_pos 1043) g)) l

pub slow : (x : Float) → T (fits binary64 x) → T (lt x least) → T (lt slip_eps (root_of x)) → ⊥
unfolding root_of lt round is_nan
slow nan f h k = absurd h
slow (inf false) f h k = absurd h
slow (inf true) f h k = absurd k
slow (fin true (suc m) e) f h k = absurd k
slow (fin true zero e) f h k = absurd k
slow (fin false zero e) f h k = none 4835703278458517 (negsuc 81) e k
slow (fin false (suc m) e) f h k =
    let p = root-plus (suc m) e in
    let l : squared (fin false (suc m) e) < 2 * (2 ^ 1043 * 2 ^ 1043) = mul-lt-mul_of_pos_right (under (suc m) e h) (pow_pos 1074) in
    let n = ((root_nearest (fin false (suc m) e) f (lt→ltb 0 (suc m) (zero-lt-suc m))).nearer (fin false 1 (negsuc 30)) (unfold fits in tt) tt).from_below in
    let b = subst (λ (r : Float). Below r (squared (fin false (suc m) e))) p.is n in
    core p.m p.e (squared (fin false (suc m) e)) b l (subst (λ (r : Float). T (lt slip_eps r)) p.is k)

pub no : (b : Bool) → (T b → ⊥) → b ≡ false
no true h = absurd (h tt)
no false h = refl

-- a slip's test by its square
pub same : (u : DVec3) (s r : Float) → s ≡ vlength_squared u → lt slip_eps r ≡ lt slip_eps (root_of s) → lt slip_eps (vlength u) ≡ lt slip_eps r
unfolding vlength vlength_squared
same u s r e t = rw e at (sym t)

pub length : (u : DVec3) (s r : Float) → s ≡ vlength_squared u → r ≡ root_of s → r ≡ vlength u
unfolding vlength vlength_squared
length u s r e t = rw e at t
