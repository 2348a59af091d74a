use mathlib.Core.Path.{◌≡◌, refl, ap, ◌∙◌}
use Prim.Native.Nat.{ℕ, zero, suc, ◌≤◌, ◌<◌, ◌+◌, ◌-◌, ◌*◌}
use native.Mathlib.Omega.{arith}
use native.Mathlib.Nat.{not-suc-le-zero}
use lib.Ieee.{Float, of_bits, round}
use Rattle.number.specs.Ops.{◌⊖◌, ◌⊗◌, ◌⊘◌}
use Rattle.trigonometry.specs.Trig.{series, divisor, whole, one}
use Rattle.trigonometry.proofs.series_at.Goals as goal

-- the divisor as the code works it out
divides : (o k : ℕ) → o ≤ 1 → 0 < k → (2 * k - 1 + o) * (2 * k + o) ≡ divisor o k
divides zero k g h = omega arith
divides (suc zero) k g h =
    let e : 2 * k - 1 + 1 ≡ 2 * k = omega arith in
    ap (λ (n : ℕ). n * (2 * k + 1)) e
divides (suc (suc o)) k g h = absurd (omega arith)

turn : (o k : ℕ) (s c : Float) → o ≤ 1 → 0 < k → series (divisor o) (k - 1) s (one ⊖ s ⊘ whole ((2 * k - 1 + o) * (2 * k + o)) ⊗ c)
    ≡ series (divisor o) k s c
unfolding series
turn o zero s c g h = absurd (not-suc-le-zero h)
turn o (suc k) s c g h =
    let e : suc k - 1 ≡ k = omega arith in
    ap (λ (i : ℕ). series (divisor o) i s (one ⊖ s ⊘ whole ((2 * suc k - 1 + o) * (2 * suc k + o)) ⊗ c)) e
    ∙ ap (λ (d : ℕ). series (divisor o) k s (one ⊖ s ⊘ whole d ⊗ c)) (divides o (suc k) g h)

none : (d : ℕ → ℕ) (k : ℕ) (s c r : Float) → k ≤ 0 → series d k s c ≡ r → c ≡ r
unfolding series
none d zero s c r n e = e
none d (suc k) s c r n e = absurd (not-suc-le-zero n)

pub loop-k-init : goal.loop-k-init
unfolding of_bits round
loop-k-init g c = (omega arith, refl)

pub loop-k-preserved : goal.loop-k-preserved
unfolding of_bits round
loop-k-preserved g c = (omega arith, turn g.row.O _ _ _ c.requires (omega arith) ∙ c.loop-k.invariant.1)

pub returns : goal.returns
returns g c = none _ _ _ _ _ (omega arith) c.loop-k.invariant.1
