use mathlib.Core.Path.{◌≡◌, refl, ap, ◌∙◌}
use Prim.Native.Nat.{ℕ, zero, suc, ◌≤◌, ◌<◌, ◌+◌, ◌-◌, ◌*◌}
use native.Mathlib.Omega.{arith}
use native.Mathlib.Nat.{not-suc-le-zero}
use lib.Ieee.{Float, of_bits, round}
use Rattle.number.specs.Ops.{◌⊖◌, ◌⊗◌, ◌⊘◌}
use Rattle.trigonometry.specs.Trig.{odd_series, whole, one}
use Rattle.trigonometry.proofs.odd_series.Goals as goal

turn : (m : ℕ) (z s : Float) → 0 < m → odd_series (m - 1) z (one ⊘ whole (2 * (m - 1) + 1) ⊖ z ⊗ s) ≡ odd_series m z s
unfolding odd_series
turn zero z s h = absurd (not-suc-le-zero h)
turn (suc m) z s h =
    let e : suc m - 1 ≡ m = omega arith in
    ap (λ (i : ℕ). odd_series i z (one ⊘ whole (2 * i + 1) ⊖ z ⊗ s)) e

none : (m : ℕ) (z s r : Float) → m ≤ 0 → odd_series m z s ≡ r → s ≡ r
unfolding odd_series
none zero z s r n e = e
none (suc m) z s r n e = absurd (not-suc-le-zero n)

pub loop-m-init : goal.loop-m-init
unfolding of_bits round
loop-m-init c = refl

pub loop-m-preserved : goal.loop-m-preserved
unfolding of_bits round
loop-m-preserved c = turn _ _ _ (omega arith) ∙ c.loop-m.invariant

pub returns : goal.returns
returns c = none _ _ _ _ (omega arith) c.loop-m.invariant
