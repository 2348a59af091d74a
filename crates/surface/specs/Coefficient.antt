-- Statements. `Restitution::coefficient_at` against Penner 2002: near his polynomial up to 20 m/s, and 0.120 above. At a NaN nothing is stated.
-- Assumes nothing.
use Rattle.std.specs.Prelude.{◌≡◌, Bool, true, false, cond, ℕ, ◌*◌, ◌≤◌, T, ℤ, pos, Float}
use Rattle.std.proofs.Math.Path.{refl}
use Rattle.std.proofs.Common.{subst, mul-one, arith}
use Rattle.std.specs.Float.{nan, inf, fin}
use Rattle.std.specs.Float.Ieee.{up, down, round, le, lt}
use Rattle.number.specs.Ops.{dec}
use Rattle.number.specs.Number.{abs_of}
use Rattle.number.specs.Order.{le→, lt-nle}
use Rattle.surface.specs.declared.Restitution.{Restitution}
use Rattle.surface.specs.Penner.{quadratic, doubles}
use Rattle.surface.specs.PennerError.{Near, quadratic_close}
use Rattle.surface.specs.Surface.{penner, coefficient_at}

-- y is within 1 / 10 ^ 13 of Penner's polynomial at |x|
abbrev pub NearAt : Float → Float → Type 0
NearAt y nan = ⊥
NearAt y (inf s) = ⊥
NearAt y (fin s m e) = Near y (m * up e) (down e)

twenty : dec 20 1 ≡ fin false 5 (pos 2)
unfolding round
twenty = refl

below_20 : (m : ℕ) (e : ℤ) → T (le (fin false m e) (dec 20 1)) → m * up e ≤ 20 * down e
below_20 m e h = let l = le→ false m e false 5 (pos 2) (rw twenty at h) in omega (arith, mul-one (m * up e))

taken : {A : Type 0} (P : A → Type 0) (b : Bool) (x y : A) → T b → P x → P (cond b x y)
taken P true x y t p = p
taken P false x y t p = elim t [ ]

not_taken : {A : Type 0} (b : Bool) (x y : A) → (T b → ⊥) → cond b x y ≡ y
not_taken true x y n = absurd (n tt)
not_taken false x y n = refl

-- 01: "0.510 − 0.0375v + 0.000903v² for v = |v_n| ≤ 20, else 0.120". Every double of magnitude at most 20:
pub coefficient_close : (x : Float) → T (le (abs_of x) (dec 20 1)) → NearAt (coefficient_at Restitution.Penner2002 x) x
unfolding coefficient_at abs_of penner le
coefficient_close nan h = absurd h
coefficient_close (inf s) h = absurd (unfold round in h)
coefficient_close (fin s m e) h =
    taken (λ y. Near y (m * up e) (down e)) (le (fin false m e) (dec 20 1)) (quadratic doubles (fin false m e)) (dec 120 1000) h
    (quadratic_close m e (below_20 m e h))

-- every double of magnitude above 20, an infinity among them:
pub coefficient_past : (x : Float) → T (lt (dec 20 1) (abs_of x)) → coefficient_at Restitution.Penner2002 x ≡ dec 120 1000
unfolding coefficient_at abs_of penner
coefficient_past nan h = absurd (unfold round in unfold lt in h)
coefficient_past (inf s) h = unfold round in unfold le in refl
coefficient_past (fin s m e) h =
    not_taken (le (fin false m e) (dec 20 1)) (quadratic doubles (fin false m e)) (dec 120 1000) (lt-nle (dec 20 1) (fin false m e) (unfold round in tt) tt h)
