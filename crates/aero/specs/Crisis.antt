-- Contracts of inner functions. The drag crisis: what sigma makes of both coefficients, and what it makes nothing of.
-- Assumes nothing.
use Rattle.std.specs.Prelude.{◌≡◌, T, Float}
use Rattle.number.specs.Ops.{◌⊕◌, ◌⊖◌, ◌⊗◌, ◌⊘◌, dec}
use Rattle.number.specs.Number.{within_of}
use Rattle.exponential.specs.Exp.{exp_of}
use Rattle.exponential.specs.Magnitude.{slight}
use Rattle.aero.specs.declared.BallModel.{BallModel}
use Rattle.aero.specs.declared.CdCl.{CdCl}

-- `sigma` of `cd_cl_of`, at the argument of its exponential
unfoldable pub sigma_of : Float → Float
sigma_of x = dec 1 1 ⊘ (dec 1 1 ⊕ exp_of x)

-- `cd_base` and `cl_max` of `cd_cl_of`
unfoldable pub crisis_of : BallModel → Float → CdCl
unfolding sigma_of
crisis_of b x = record { cd = b.cd_sub ⊕ (b.cd_super ⊖ b.cd_sub) ⊗ sigma_of x; cl = b.cl_sub ⊕ (b.cl_super ⊖ b.cl_sub) ⊗ sigma_of x }

-- sub stays what it is with any part of up to 2 ^ -54 of the way to sup added
abbrev pub Kept : Float → Float → Type 0
Kept sub sup = (y : Float) → T (within_of (dec 0 1) slight y) → sub ⊕ (sup ⊖ sub) ⊗ y ≡ sub
