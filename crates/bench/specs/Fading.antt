-- Statements. The first two hop steps of a short shot in air by both settles: the spin of the last state that passed, held by the first and faded by the second
-- (02, paper 13). Computed from the definition; the numbers are those of the model in compare/.
use Rattle.std.specs.Prelude.{ℕ, ◌*◌, ◌≡◌, refl, Bool, true, false, replicate}
use Rattle.std.specs.Float.{binary64}
use Rattle.std.specs.Float.Ieee.{of_bits}
use Rattle.number.specs.Ops.{dec}
use Rattle.vector.specs.Vec.{vec}
use Rattle.vector.specs.declared.DVec3.{DVec3}
use Rattle.aero.specs.Aero.{tour}
use Rattle.tally.specs.Language.{contact_width, point_width}
use Rattle.shot.specs.declared.Shot.{Shot}
use Rattle.ground.specs.Settle.{settle_of}
use Rattle.bench.specs.Definitions.{definitions}
use Rattle.bench.specs.Given.{sheet_of}
use Rattle.bench.specs.Looks.{physics, surface, landing}

-- the shot of Looks, stopped by 23 after `limit` steps
abbrev shot : ℕ → Bool → Shot
shot limit fading = record { physics = physics; step_limit = limit; ball = tour; air_density = dec 1225 1000; landing = landing; fading = fading }

abbrev spin_after : ℕ → Bool → DVec3
spin_after limit fading =
    (settle_of (sheet_of surface) (shot limit fading) (replicate (64 * contact_width) (dec 0 1)) (replicate (640 * point_width) (dec 0 1))).settled.rest.spin

abbrev bits : ℕ → ℕ → ℕ → DVec3
bits x y z = vec (of_bits binary64 x) (of_bits binary64 y) (of_bits binary64 z)

pub held_twice : spin_after 2 false ≡ bits 0x401a_c99d_2239_cb07 0x4005_04c2_6091_9041 0x3fec_83e0_d0b9_9dc0
unfolding definitions
held_twice = refl

pub faded_once : spin_after 1 true ≡ bits 0x401a_c6df_0df1_7d36 0x4005_029b_7f66_3824 0x3fec_80f5_7510_ced8
unfolding definitions
faded_once = refl

pub faded_twice : spin_after 2 true ≡ bits 0x401a_c421_418a_1727 0x4005_0074_d6a0_f6f3 0x3fec_7e0a_65eb_9fec
unfolding definitions
faded_twice = refl
