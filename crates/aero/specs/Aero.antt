-- Definitions. The ball and its acceleration in the air, in the Rust's order of operations (aero.rs).
-- Assumes nothing.
use Rattle.std.specs.Prelude.{Float, cond}
use Rattle.std.specs.Float.Ieee.{neg, lt}
use Rattle.number.specs.Ops.{◌⊕◌, ◌⊖◌, ◌⊗◌, ◌⊘◌, dec, pi}
use Rattle.number.specs.Number.{abs_of}
use Rattle.exponential.specs.Exp.{exp_of}
use Rattle.vector.specs.declared.DVec3.{DVec3}
use Rattle.vector.specs.Vec.{vec, zero3, unit_z, vadd, vscale, vdivs, vcross, vlength}
use Rattle.aero.specs.declared.BallModel.{BallModel}
use Rattle.aero.specs.declared.AeroParams.{AeroParams}
use Rattle.aero.specs.declared.CdCl.{CdCl}

-- BallModel::TOUR
abbrev pub tour : BallModel
tour = record {
  mass_kg = dec 4593 100000;
  diameter_m = dec 4267 100000;
  inertia_factor = dec 4 10;
  cd_sub = dec 295 1000;
  cd_super = dec 186 1000;
  cd_spin = dec 85 100;
  sr_sat = dec 25 100;
  cl_sub = dec 203 1000;
  cl_super = dec 324 1000;
  sr_scale = dec 115 1000;
  re_crit = dec 69600 1;
  re_width = dec 106 1;
}

-- units.rs, G
abbrev pub g_of : Float
g_of = dec 980665 100000

-- ground.rs, GRAVITY
abbrev pub gravity : DVec3
gravity = vec (dec 0 1) (neg g_of) (dec 0 1)

-- the literal 1e-10
abbrev pub tiny : Float
tiny = dec 1 10000000000

-- BallModel::radius_m
unfoldable pub radius_of : BallModel → Float
radius_of b = b.diameter_m ⊘ dec 2 1

-- BallModel::area_m2: PI * self.radius_m() * self.radius_m()
unfoldable pub area_of : BallModel → Float
area_of b = pi ⊗ radius_of b ⊗ radius_of b

-- AIR_DYNAMIC_VISCOSITY, DEFAULT_SPIN_DECAY
abbrev pub air_dynamic_viscosity : Float
air_dynamic_viscosity = dec 181 10000000

abbrev pub default_spin_decay : Float
default_spin_decay = dec 4 100

-- BallModel::cd_cl
unfoldable pub cd_cl_of : BallModel → Float → Float → Float → CdCl
cd_cl_of b spin_rate speed density =
    let re = density ⊗ speed ⊗ b.diameter_m ⊘ air_dynamic_viscosity in
    let sr = abs_of (spin_rate ⊗ radius_of b ⊘ speed) in
    let sigma = dec 1 1 ⊘ (dec 1 1 ⊕ exp_of (neg (re ⊖ b.re_crit) ⊘ b.re_width)) in
    let cd_base = b.cd_sub ⊕ (b.cd_super ⊖ b.cd_sub) ⊗ sigma in
    let cl_max = b.cl_sub ⊕ (b.cl_super ⊖ b.cl_sub) ⊗ sigma in
    cond (lt speed tiny)
    (record { cd = b.cd_sub; cl = dec 0 1 })
    (record {
      cd = cd_base ⊕ b.cd_spin ⊗ sr ⊘ (dec 1 1 ⊕ sr ⊘ b.sr_sat);
      cl = cl_max ⊗ (dec 1 1 ⊖ exp_of (neg sr ⊘ b.sr_scale));
    })

-- AeroParams::from_spin_vector
unfoldable pub from_spin_vector : DVec3 → AeroParams
from_spin_vector omega =
    let rate = vlength omega in
    record {
      spin_axis = cond (lt tiny rate) (vdivs omega rate) unit_z;
      spin_rate = rate;
      spin_decay = default_spin_decay;
    }

-- BallModel::acceleration, the Magnus lift, of the magnitude lift where there is any
unfoldable pub magnus_of : AeroParams → DVec3 → Float → DVec3
magnus_of a vel_hat lift =
    let lift_dir = vcross a.spin_axis vel_hat in
    let lift_mag = vlength lift_dir in
    cond (lt tiny (abs_of a.spin_rate)) (cond (lt tiny lift_mag) (vscale (vdivs lift_dir lift_mag) lift) zero3) zero3

-- BallModel::acceleration
unfoldable pub acceleration_of : BallModel → DVec3 → AeroParams → Float → DVec3
acceleration_of b vel a density =
    let speed = vlength vel in
    let vel_hat = vdivs vel speed in
    let c = cd_cl_of b a.spin_rate speed density in
    let q = dec 5 10 ⊗ density ⊗ speed ⊗ speed in
    let drag = vscale vel_hat (neg c.cd ⊗ q ⊗ area_of b ⊘ b.mass_kg) in
    let lift = magnus_of a vel_hat (c.cl ⊗ q ⊗ area_of b ⊘ b.mass_kg) in
    cond (lt speed tiny) gravity (vadd (vadd gravity drag) lift)
