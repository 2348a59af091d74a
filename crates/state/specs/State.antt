-- Definitions. Test 22 (01, "Ground", Added), of a number, of a vector and of a state.
use Rattle.std.specs.Prelude.{Bool, ◌&&◌, Float}
use Rattle.number.specs.Ops.{dec}
use Rattle.number.specs.Number.{about_of}
use Rattle.vector.specs.declared.DVec3.{DVec3}
use Rattle.state.specs.declared.BallState.{BallState}

-- finite, magnitude ≤ 1,000,000
unfoldable pub coord_ok : Float → Bool
coord_ok x = about_of (dec 1000000 1) x

-- 01, of each component: "finite, magnitude ≤ 1,000,000"
unfoldable pub vec_ok : DVec3 → Bool
vec_ok v = coord_ok v.x && (coord_ok v.y && coord_ok v.z)

-- 01: "The test is of time and of each component of position, velocity and spin"
unfoldable pub state_ok : BallState → Bool
state_ok s = coord_ok s.time && (vec_ok s.pos && (vec_ok s.vel && vec_ok s.spin))
