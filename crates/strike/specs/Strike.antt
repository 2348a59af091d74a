-- Definitions. One impact of the train of ground.rs, fn settle, with the tests that 01 adds: the strike, the rebound that is flown or not, the drop
-- to the ground.
use Rattle.std.specs.Prelude.{Bool, ◌&&◌, cond, not, Option, Some, None}
use Rattle.std.specs.Float.Ieee.{le, lt}
use Rattle.number.specs.Ops.{◌⊗◌, dec}
use Rattle.vector.specs.Vec.{vsub, vscale, vdot, vlength, vnormalize}
use Rattle.state.specs.declared.BallState.{BallState}
use Rattle.surface.specs.declared.GroundSample.{GroundSample}
use Rattle.aero.specs.Aero.{g_of, radius_of}
use Rattle.impact.specs.Impact.{impact_of}
use Rattle.contact.specs.Contact.{slip_of, locked_of, hops_die_out}
use Rattle.state.specs.declared.Phase.TheVariants.{Hop as InHop}
use Rattle.tally.specs.Language.{M, ◌>>=◌, ◌>>◌, pure, look, test, push_point, push_contact, mark, truncate}
use Rattle.std.specs.Prelude.{if◌then◌else◌}
use Rattle.tally.specs.declared.Conditions.{Conditions}
use Rattle.hop.specs.Hop.{hop}
use Rattle.hop.specs.declared.Way.{Way}
use Rattle.hop.specs.declared.Way.TheVariants.{Arrived, Late}
use Rattle.strike.specs.declared.Struck.{Struck}

abbrev pub struck : GroundSample → BallState → Struck
struck s out = record { «at» = s; out = out }

module _ (c : Conditions) where
  -- ---- an impact

  -- the sample at the state's spot, and the state after the impact there
  unfoldable pub strike : BallState → M Struck
  strike state = do
    s ← look state.pos.x state.pos.z
    out ← test (impact_of state s c.ball)
    pure (struck s out)

  -- `v_n > 0.0 && v_n * v_n >= 2.0 * G * n.y * self.min_hop_height`
  unfoldable pub rebounds : Struck → Bool
  rebounds hit =
      let n = vnormalize hit.«at».normal in
      let vn = vdot hit.out.vel n in
      lt (dec 0 1) vn && le (dec 2 1 ⊗ g_of ⊗ n.y ⊗ c.physics.min_hop_height) (vn ⊗ vn)

  -- ---- a rebound

  -- `hops_die_out(&state, &out, &arrival, n, ball, self.min_hop_height)`
  unfoldable pub dies_out : BallState → Struck → BallState → Bool
  dies_out state hit arrival = hops_die_out state hit.out arrival (vnormalize hit.«at».normal) c.ball c.physics.min_hop_height

  -- flown and kept; or not flown, or discarded, and the ball drops to the ground here. 01: "a discarded hop's points go". The hop is an argument
  unfoldable pub fly_by : (BallState → M Way) → Bool → BallState → Struck → M (Option Way)
  fly_by hop hops state hit = if not hops then pure None else do
    m ← mark
    push_point hit.out InHop
    way ← hop hit.out
    elim way [
      | Late b ↦ pure (Some (Late b))
      | Arrived b ↦ if dies_out state hit b then pure (Some (Arrived b)) else do
        truncate m
        pure None
    ]

  abbrev pub fly : Bool → BallState → Struck → M (Option Way)
  fly = fly_by (hop c)

  -- ---- the drop to the ground

  -- `out.vel - v_n * n`; `if slip(..).length() <= self.roll_threshold { lock_rolling(..) }`
  unfoldable pub dropped : Struck → BallState
  dropped hit =
      let n = vnormalize hit.«at».normal in
      let radius = radius_of c.ball in
      let spin = hit.out.spin in
      let vel = vsub hit.out.vel (vscale n (vdot hit.out.vel n)) in
      let locked = locked_of vel spin n radius c.ball.inertia_factor in
      cond (le (vlength (slip_of vel spin n radius)) c.physics.roll_threshold)
      (record { time = hit.out.time; pos = hit.out.pos; vel = locked.vel; spin = locked.spin })
      (record { time = hit.out.time; pos = hit.out.pos; vel = vel; spin = spin })

  -- the ball drops to the ground
  unfoldable pub drop : BallState → Struck → M BallState
  drop state hit = do
    leave ← test (dropped hit)
    push_contact state hit.«at» leave
    pure leave
