-- Definitions. The tests 4 to 7 of a shot (01, "Numbers for what was handed in"). A range is by value: NaN fails it, −0 counts as 0.
use Rattle.std.specs.Prelude.{ℕ, Bool, ◌&&◌, not, leb, Float}
use Rattle.number.specs.Ops.{dec}
use Rattle.std.specs.Prelude.{if◌then◌else◌}
use Rattle.number.specs.Number.{within_of, about_of}
use Rattle.vector.specs.declared.DVec3.{DVec3}
use Rattle.state.specs.declared.BallState.{BallState}
use Rattle.aero.specs.declared.BallModel.{BallModel}
use Rattle.shot.specs.declared.GroundPhysics.{GroundPhysics}
use Rattle.shot.specs.declared.Shot.{Shot}

-- 4, of what `step` takes: "dt 0.0001..0.01; stop_speed, roll_threshold .. 0..1"
unfoldable pub step_physics_ok : Float → Float → Float → Bool
step_physics_ok dt stop roll = within_of (dec 1 10000) (dec 1 100) dt && within_of (dec 0 1) (dec 1 1) stop && within_of (dec 0 1) (dec 1 1) roll

-- 4: "min_hop_height 0..1; max_time 0..600; .. step_limit 1..2,000,000"; 02, paper 5, of max_impacts: "Make 64 the largest accepted"
unfoldable pub physics_ok : GroundPhysics → ℕ → Bool
physics_ok p limit =
    step_physics_ok p.dt p.stop_speed p.roll_threshold && within_of (dec 0 1) (dec 1 1) p.min_hop_height && within_of (dec 0 1) (dec 600 1) p.max_time
    && leb p.max_impacts 64 && leb 1 limit && leb limit 2000000

-- 5: "mass 0.001..1; diameter 0.005..0.5; inertia 0.1..1; cd and cl fields 0..10; sr_sat, sr_scale 0.001..10; re_crit 0..1e7; re_width 1..1e7"
unfoldable pub ball_ok : BallModel → Bool
ball_ok b =
    within_of (dec 1 1000) (dec 1 1) b.mass_kg && within_of (dec 5 1000) (dec 5 10) b.diameter_m && within_of (dec 1 10) (dec 1 1) b.inertia_factor
    && within_of (dec 0 1) (dec 10 1) b.cd_sub && within_of (dec 0 1) (dec 10 1) b.cd_super && within_of (dec 0 1) (dec 10 1) b.cd_spin
    && within_of (dec 1 1000) (dec 10 1) b.sr_sat
    && within_of (dec 0 1) (dec 10 1) b.cl_sub && within_of (dec 0 1) (dec 10 1) b.cl_super
    && within_of (dec 1 1000) (dec 10 1) b.sr_scale
    && within_of (dec 0 1) (dec 10000000 1) b.re_crit && within_of (dec 1 1) (dec 10000000 1) b.re_width

-- 6: "density 0..10"
unfoldable pub density_ok : Float → Bool
density_ok d = within_of (dec 0 1) (dec 10 1) d

unfoldable pub vec_about : Float → DVec3 → Bool
vec_about r v = about_of r v.x && about_of r v.y && about_of r v.z

-- 7: "time 0..100,000; pos ±100,000; vel ±200; spin ±5000"
unfoldable pub landing_ok : BallState → Bool
landing_ok s = within_of (dec 0 1) (dec 100000 1) s.time && vec_about (dec 100000 1) s.pos && vec_about (dec 200 1) s.vel && vec_about (dec 5000 1) s.spin

-- the first of 4 to 7 that fails, or 0
unfoldable pub input_test : Shot → ℕ
input_test s =
    if not (physics_ok s.physics s.step_limit) then 4 else
    if not (ball_ok s.ball) then 5 else
    if not (density_ok s.air_density) then 6 else
    if not (landing_ok s.landing) then 7 else 0
