-- Definitions. One pass of the ground: the body of the second loop of ground.rs, fn settle, with the tests and the count of steps that 01 adds.
use Rattle.std.specs.Prelude.{Bool, true, false, ◌&&◌, ◌||◌, not, eqb, Float, Option, Some, None}
use Rattle.number.specs.Ops.{◌⊖◌}
use Rattle.number.specs.Number.{min_of}
use Rattle.vector.specs.Vec.{zero3, same_vec}
use Rattle.state.specs.declared.BallState.{BallState}
use Rattle.surface.specs.declared.GroundSample.{GroundSample}
use Rattle.aero.specs.Aero.{radius_of}
use Rattle.contact.specs.Contact.{onto_of, sample_holds}
use Rattle.rolling.specs.ContactStep.{contact_step_of}
use Rattle.state.specs.declared.Phase.{Phase}
use Rattle.state.specs.Numbers.{whole_phase}
use Rattle.state.specs.declared.Phase.TheVariants.{Hop, Slide, Roll as InRoll}
use Rattle.rolling.specs.declared.Stepped.{Stepped}
use Rattle.look.specs.Tree.{Made}
use Rattle.tally.specs.Times.{is_due, next_after}
use Rattle.tally.specs.Language.{M, ◌>>=◌, ◌>>◌, pure, when, make_step, look, test, push_point, Pass, again, over}
use Rattle.std.specs.Prelude.{if◌then◌else◌}
use Rattle.tally.specs.declared.Conditions.{Conditions}
use Rattle.roll.specs.declared.Roll.{Roll}
use Rattle.roll.specs.declared.Ending.{Ending}
use Rattle.state.specs.declared.Termination.{Termination}
use Rattle.state.specs.declared.Termination.TheVariants.{Rest}

abbrev pub ending : Termination → BallState → Ending
ending h s = record { how = h; state = s }

abbrev pub roll : BallState → GroundSample → Float → Option Phase → Roll
roll s at next last = record { state = s; «at» = at; next_sample = next; last = last }

-- before the first pass: `let mut next_sample = state.time; let mut last_phase = None`
abbrev pub roll_from : BallState → GroundSample → Roll
roll_from s at = roll s at s.time None

-- `let h = self.dt.min(t_end - state.time); contact_step(&state, &at, ball, h, self.stop_speed, self.roll_threshold)`
unfoldable pub step_on : Conditions → Roll → Stepped
step_on c g =
    let h = min_of c.physics.dt (c.t_end ⊖ g.state.time) in
    contact_step_of g.state g.«at» c.ball h c.physics.stop_speed c.physics.roll_threshold

-- `last_phase == Some(phase)`
abbrev pub was_phase : Option Phase → Phase → Bool
was_phase None phase = false
was_phase (Some last) phase = eqb (whole_phase last) (whole_phase phase)

-- `state.time >= next_sample - TIME_EPS || last_phase != Some(phase)`
unfoldable pub point_due : Float → Float → Option Phase → Phase → Bool
point_due t next last phase = is_due t next || not (was_phase last phase)

abbrev pub in_roll : Phase → Bool
in_roll Hop = false
in_roll Slide = false
in_roll InRoll = true

-- `stopped && under.holds_at_rest()`, where `stopped = phase == Phase::Roll && next.vel == DVec3::ZERO`
unfoldable pub held_of : Phase → BallState → GroundSample → Bool
held_of phase next under = (in_roll phase && same_vec next.vel zero3) && sample_holds under

-- `onto_surface(&next, &under, at.normal, rolling, radius)`
unfoldable pub put_down : Conditions → Roll → BallState → Bool → GroundSample → BallState
put_down c g next rolling under = onto_of next under g.«at».normal rolling (radius_of c.ball)

-- what a contact step made of a state
abbrev pub made_of : BallState → Stepped → Made
made_of state s = record { from = state; to = s.state; phase = s.phase; rolling = s.rolling; evaluations = s.evaluations }

-- one pass
unfoldable pub ground_step : Conditions → Roll → M (Pass Roll Ending)
ground_step c g = do
  s ← make_step (made_of g.state (step_on c g))
  let due = point_due g.state.time g.next_sample g.last s.phase
  when due (push_point g.state s.phase)
  under ← look s.to.pos.x s.to.pos.z
  b ← test (put_down c g s.to s.rolling under)
  if not (held_of s.phase s.to under) then pure (again (roll b under (next_after due g.next_sample g.state.time) (Some s.phase))) else do
    push_point b InRoll
    pure (over (ending Rest b))
