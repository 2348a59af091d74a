-- Definitions. The acceleration of a ball during a hop, and one step of its flight.
-- Assumes nothing.
use Rattle.std.specs.Prelude.{Float, cond}
use Rattle.std.specs.Float.Ieee.{lt}
use Rattle.number.specs.Ops.{dec}
use Rattle.vector.specs.declared.DVec3.{DVec3}
use Rattle.aero.specs.Aero.{acceleration_of, gravity}
use Rattle.aero.specs.declared.BallModel.{BallModel}
use Rattle.aero.specs.declared.AeroParams.{AeroParams}
use Rattle.rk4.specs.Rk4.{step_of}
use Rattle.rk4.specs.declared.State.{State}

-- ground.rs, GroundPhysics::hop, its closure accel: `if air_density > 0.0`
unfoldable pub accel_of : BallModel → AeroParams → Float → DVec3 → DVec3
accel_of ball aero density vel = cond (lt (dec 0 1) density) (acceleration_of ball vel aero density) gravity

-- ground.rs, GroundPhysics::hop: `rk4::step(s, t, h, |_, v, _| accel(v))`
abbrev pub flight_step : BallModel → AeroParams → Float → State → Float → Float → State
flight_step ball aero density s t h = step_of (λ p. λ v. λ u. accel_of ball aero density v) s t h
