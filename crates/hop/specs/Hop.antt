-- Definitions. A hop: ground.rs, fn hop, with the tests and the count of steps that 01 adds, and the spin that fades in the second settle (02, paper 13).
use Rattle.std.specs.Prelude.{ℕ, Bool, false, cond, Float, Option, Some, None}
use Rattle.std.specs.Float.Ieee.{neg}
use Rattle.number.specs.Ops.{◌⊕◌, ◌⊖◌, ◌⊗◌, dec}
use Rattle.number.specs.Number.{min_of}
use Rattle.exponential.specs.Exp.{exp_of}
use Rattle.vector.specs.Vec.{vscale}
use Rattle.vector.specs.declared.DVec3.{DVec3}
use Rattle.state.specs.declared.BallState.{BallState}
use Rattle.aero.specs.Aero.{from_spin_vector}
use Rattle.aero.specs.declared.AeroParams.{AeroParams}
use Rattle.rk4.specs.declared.State.{State}
use Rattle.flight.specs.Flight.{flight_step}
use Rattle.state.specs.declared.Phase.TheVariants.{Hop}
use Rattle.look.specs.Tree.{Made}
use Rattle.tally.specs.Times.{sample_interval, is_late, is_due, next_after}
use Rattle.tally.specs.Language.{M, ◌>>=◌, ◌>>◌, pure, when, make_step, test, push_point, steps_left, Pass, again, over, loop}
use Rattle.tally.specs.declared.Conditions.{Conditions}
use Rattle.arrival.specs.Arrival.{clearance, hop_arrival}
use Rattle.arrival.specs.declared.Arc.{Arc}
use Rattle.hop.specs.declared.Flight.{Flight}
use Rattle.hop.specs.declared.Way.{Way}
use Rattle.hop.specs.declared.Way.TheVariants.{Arrived, Late}

abbrev pub flight : BallState → Float → Flight
flight s next = record { state = s; next_sample = next }

-- position and velocity, which rk4::step advances
abbrev pub motion_of : BallState → State
motion_of s = record { pos = s.pos; vel = s.vel }

-- ---- the spin in the air

-- how spin goes in the air: drag and lift of a step that begins with it, and the spin after a step of length h
pub record Air : Type 0 where
  pub aero : DVec3 → AeroParams
  pub after : Float → DVec3 → DVec3

-- ground.rs: `let aero = AeroParams::from_spin_vector(start.spin)`, once a hop, and `spin: start.spin` held fixed
abbrev pub held : AeroParams → Air
held aero = record { aero = λ _. aero; after = λ _ w. w }

-- over the factor, a function of the step's length. 02, paper 13: "Each step flies with the spin it began with", and then "the spin becomes the old
-- spin times" the factor
abbrev pub faded : (Float → Float) → Air
faded factor = record { aero = from_spin_vector; after = λ h w. vscale w (factor h) }

-- the second settle's factor. 02, paper 13: "exp(−(0.04×h))"
unfoldable pub fade_factor : Float → Float
fade_factor h = exp_of (neg (dec 4 100 ⊗ h))

-- a shot's spin fades, or is held
unfoldable pub aero_for : Bool → AeroParams → DVec3 → AeroParams
aero_for fading aero = cond fading (faded fade_factor).aero (held aero).aero

unfoldable pub spin_after : Bool → Float → DVec3 → DVec3
spin_after fading = cond fading (faded fade_factor).after (λ _ w. w)

-- its air, in a hop that begins with this drag and lift, or with this spin
abbrev pub air_with : Conditions → AeroParams → Air
air_with c aero = record { aero = aero_for c.fading aero; after = spin_after c.fading }

abbrev pub air_of : Conditions → DVec3 → Air
air_of c w = air_with c (from_spin_vector w)

-- ---- a step

-- `let h = self.dt.min(t_end - t); let b = rk4::step(s, t, h, ..)`
unfoldable pub step_arc : Conditions → (DVec3 → AeroParams) → BallState → Arc
step_arc c aero s =
    let a = motion_of s in
    let h = min_of c.physics.dt (c.t_end ⊖ s.time) in
    record { air_density = c.air_density; a = a; b = flight_step c.ball (aero s.spin) c.air_density a s.time h; h = h }

-- the state at the step's end, at `t + h`
unfoldable pub step_end : (Float → DVec3 → DVec3) → Arc → BallState → BallState
step_end after arc s = record { time = s.time ⊕ arc.h; pos = arc.b.pos; vel = arc.b.vel; spin = after arc.h s.spin }

-- after a step to b: the arrival, tested; or, with no crossing, the sample point if it is due
unfoldable pub hop_next : Flight → BallState → Option BallState → M (Pass Flight Way)
hop_next f b (Some s) = do
  s ← test s
  pure (over (Arrived s))
hop_next f b None = do
  let due = is_due b.time f.next_sample
  when due (push_point b Hop)
  pure (again (flight b (next_after due f.next_sample f.next_sample)))

-- what a hop step made of a state: the state at its end; its search comes after it
abbrev pub flown_to : BallState → BallState → Made
flown_to state end = record { from = state; to = end; phase = Hop; rolling = false; evaluations = 0 }

-- one pass
unfoldable pub hop_step : Conditions → Air → Flight → M (Pass Flight Way)
hop_step c air f = do
  let arc = step_arc c air.aero f.state
  s ← make_step (flown_to f.state (step_end air.after arc f.state))
  b ← test s.to
  end ← clearance b.pos
  arrival ← hop_arrival arc f.state.time end f.state.spin
  hop_next f b arrival

-- at most n steps
unfoldable pub hop_from : Conditions → Air → ℕ → Flight → M Way
hop_from c air n = loop n (λ f. is_late f.state.time c.t_end) (λ f. pure (Late f.state)) (hop_step c air)

-- in some air, which may go by the spin that the hop begins with: from what the loop carries, and from the start
abbrev pub hop_on_by : (DVec3 → Air) → Conditions → Flight → M Way
hop_on_by air c f = do
  n ← steps_left c
  hop_from c (air f.state.spin) n f

abbrev pub hop_by : (DVec3 → Air) → Conditions → BallState → M Way
hop_by air c start = hop_on_by air c (flight start (start.time ⊕ sample_interval))

-- a shot's
abbrev pub hop_on : Conditions → Flight → M Way
hop_on c = hop_on_by (air_of c) c

unfoldable pub hop : Conditions → BallState → M Way
hop c = hop_by (air_of c) c
