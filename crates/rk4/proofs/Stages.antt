-- The stages of a step of `step_state` whose derivative does not use the time, over plain variables. Assumes nothing.
use mathlib.Core.Path.{◌≡◌}
use lib.Ieee.{Float}
use Rattle.number.specs.Ops.{◌⊘◌, dec}
use Rattle.rk4.specs.declared.Motion.{Motion}
use Rattle.rk4.specs.Rk4.{add_scaled, step_state_of}

pub stages :
    (g : Motion → Motion) (s : Motion) (t h : Float) {k1 s2 k2 s3 k3 s4 k4 a b c r : Motion} →
    k1 ≡ g s →
    s2 ≡ add_scaled s k1 (h ⊘ dec 2 1) →
    k2 ≡ g s2 →
    s3 ≡ add_scaled s k2 (h ⊘ dec 2 1) →
    k3 ≡ g s3 →
    s4 ≡ add_scaled s k3 h →
    k4 ≡ g s4 →
    a ≡ add_scaled s k1 (h ⊘ dec 6 1) →
    b ≡ add_scaled a k2 (h ⊘ dec 3 1) →
    c ≡ add_scaled b k3 (h ⊘ dec 3 1) →
    r ≡ add_scaled c k4 (h ⊘ dec 6 1) →
    r ≡ step_state_of (λ s _. g s) s t h
unfolding step_state_of
stages g s t h p1 q2 p2 q3 p3 q4 p4 a b c r = simp (r, c, b, a, p4, q4, p3, q3, p2, q2, p1)
