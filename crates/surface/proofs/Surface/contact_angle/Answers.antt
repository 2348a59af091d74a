use mathlib.Core.Path.{◌≡◌, refl}
use lib.Ieee.{binary64, of_bits, round, mul, div}
use Rattle.surface.specs.Surface.{contact_angle, tilted_angle, penner_theta_c, penner_ref_angle}
use Rattle.surface.proofs.Surface.contact_angle.Goals as goal

-- the folded constants
theta_c_bits : of_bits binary64 0x3fd1_33b3_fc3c_50ee ≡ penner_theta_c
unfolding of_bits round mul div penner_theta_c
theta_c_bits = refl

ref_angle_bits : of_bits binary64 0x3fe8_cc32_0139_06f2 ≡ penner_ref_angle
unfolding of_bits round mul div penner_ref_angle
ref_angle_bits = refl

pub returns-then-v_t : goal.returns-then-v_t
unfolding contact_angle of_bits round
returns-then-v_t c = simp c.if-v_t.true

pub returns : goal.returns
unfolding contact_angle tilted_angle of_bits round
returns c =
    simp (
      ← theta_c_bits,
      ← ref_angle_bits,
      c.min.ensures,
      c.min-fade.ensures,
      c.arctangent-incidence.ensures,
      c.hypot-speed.ensures,
      c.if-v_t.false,
    )
