use mathlib.Core.Path.{◌≡◌, refl, ap, ◌∙◌}
use Prim.Native.Nat.{ℕ, zero, suc, ◌≤◌, ◌<◌, ◌-◌}
use native.Mathlib.Omega.{arith}
use native.Mathlib.Nat.{not-suc-le-zero}
use lib.IntN.{pos}
use lib.Ieee.{Float, binary64, add, mul, div, of_int, of_bits, round}
use Rattle.exponential.specs.Exp.{horner, one}
use Rattle.exponential.proofs.series.Goals as goal

turn : (k : ℕ) (r p : Float) → 0 < k → horner (k - 1) r (add binary64 one (mul binary64 (div binary64 r (of_int binary64 (pos k))) p)) ≡ horner k r p
unfolding horner
turn zero r p h = absurd (not-suc-le-zero h)
turn (suc k) r p h =
    let e : suc k - 1 ≡ k = omega arith in
    ap (λ (i : ℕ). horner i r (add binary64 one (mul binary64 (div binary64 r (of_int binary64 (pos (suc k)))) p))) e

none : (k : ℕ) (r p q : Float) → k ≤ 0 → horner k r p ≡ q → p ≡ q
unfolding horner
none zero r p q n e = e
none (suc k) r p q n e = absurd (not-suc-le-zero n)

pub loop-k-init : goal.loop-k-init
unfolding of_bits round
loop-k-init c = (omega arith, refl)

pub loop-k-preserved : goal.loop-k-preserved
unfolding of_bits round
loop-k-preserved c = (omega arith, turn _ _ _ (omega arith) ∙ c.loop-k.invariant.1)

pub returns : goal.returns
returns c = none _ _ _ _ (omega arith) c.loop-k.invariant.1
