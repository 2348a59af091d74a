-- Definitions. The terms of the promises: the numbers that come with a termination, a point of a tested state and its clearance, a contact of two such
-- states and a sample of the course, the states that a settle tests, the looks whose spot may fail, the test that failed.
use Rattle.std.specs.Prelude.{ℕ, ◌≤◌, ◌≡◌, true, false, List, [], ◌∷◌, T, Float, length, get_or, Option, Some, None}
use Rattle.std.specs.Float.{nan}
use Rattle.number.specs.Ops.{◌⊖◌}
use Rattle.number.specs.Number.{finite_of}
use Rattle.vector.specs.declared.DVec3.{DVec3}
use Rattle.state.specs.declared.BallState.{BallState}
use Rattle.state.specs.declared.Phase.{Phase}
use Rattle.state.specs.declared.Termination.{Termination}
use Rattle.state.specs.declared.Termination.TheVariants.{Rest, MaxTime, MaxImpacts}
use Rattle.state.specs.State.{state_ok}
use Rattle.surface.specs.declared.GroundSample.{GroundSample}
use Rattle.aero.specs.Aero.{from_spin_vector}
use Rattle.impact.specs.Impact.{impact_of}
use Rattle.look.specs.Rect.{is_double, spot_ok}
use Rattle.look.specs.Tree.{Oracle, Spot, run}
use Rattle.records.specs.Records.{Records}
use Rattle.tally.specs.Language.{M, Log, goes, point_of, contact_of}
use Rattle.tally.specs.declared.Conditions.{Conditions}
use Rattle.arrival.specs.Arrival.{arc_of, hop_arrival}
use Rattle.arrival.specs.declared.Arc.{Arc}
use Rattle.hop.specs.Hop.{spin_after, step_arc, step_end, hop}
use Rattle.hop.specs.declared.Way.TheVariants.{Arrived}
use Rattle.roll.specs.Roll.{step_on, put_down}
use Rattle.roll.specs.declared.Roll.{Roll}
use Rattle.strike.specs.Strike.{struck, dropped}
use Rattle.strike.specs.declared.Struck.{Struck}

-- the numbers that come with a termination: 0 where the run finished; 20 to 23, with none, where it stopped
abbrev pub Answer : Option Termination → ℕ → Type 0
Answer None n = (20 ≤ n) × (n ≤ 23)
Answer (Some Rest) n = n ≡ 0
Answer (Some MaxTime) n = n ≡ 0
Answer (Some MaxImpacts) n = n ≡ 0

-- the number at place i of a record, from 0
abbrev pub nth : List Float → ℕ → Float
nth r i = get_or r i nan

-- P of each record
abbrev pub Each : (List Float → Type 0) → Records → Type 0
Each P [] = Unit
Each P (r ∷ rs) = P r × Each P rs

-- passed test 22
abbrev pub Ok : BallState → Type 0
Ok s = state_ok s ≡ true

-- its x and z are doubles: so is each number that a program holds, but these statements are over all numbers
abbrev pub OverDoubles : BallState → Type 0
OverDoubles s = T (is_double s.pos.x) × T (is_double s.pos.z)

-- the spot under a position
abbrev pub spot_under : DVec3 → Spot
spot_under p = record { x = p.x; z = p.z }

module _ (o : Oracle) where
  -- a sample of the course
  pub record SampleOf (s : GroundSample) : Type 0 where
    pub x : Float
    pub z : Float
    pub is : s ≡ o x z

  -- a contact of two states that passed their tests, or the landing, and of a sample of the course
  pub record ContactOf (r : List Float) : Type 0 where
    pub arrival : BallState
    pub sample : GroundSample
    pub departure : BallState
    pub came : state_ok arrival ≡ true
    pub left : state_ok departure ≡ true
    pub seen : SampleOf sample
    pub is : r ≡ contact_of arrival sample departure

  -- the course under a state
  abbrev pub under : BallState → GroundSample
  under s = o s.pos.x s.pos.z

  -- y is the height of the course under it, bit for bit
  abbrev pub Placed : BallState → Type 0
  Placed s = s.pos.y ≡ (under s).height

  -- a point of a state that passed its test, over the course under it; its spot passed its test too
  pub record PointOf (r : List Float) : Type 0 where
    pub state : BallState
    pub phase : Phase
    pub ok : state_ok state ≡ true
    pub spot_ok_lem : spot_ok state.pos.x state.pos.z ≡ true
    pub is : r ≡ point_of state phase (under state).height

  -- 02, paper 12: "a twelfth number: y less the course height at its x and z". A record of twelve numbers, the last of which is that of its second,
  -- third and fourth, and finite
  pub record Clear (r : List Float) : Type 0 where
    pub wide : length r ≡ 12
    pub is : nth r 11 ≡ nth r 2 ⊖ (o (nth r 1) (nth r 3)).height
    pub finite : T (finite_of (nth r 11))

  -- a is what the part m gives, from some log
  pub record GivenBy {A : Type 0} (m : M A) (a : A) : Type 0 where
    pub log : Log
    pub is : (run o (m log)).outcome ≡ goes a

  module _ (c : Conditions) where
    -- the sample under a state, and the state after its impact there
    abbrev pub struck_at : BallState → Struck
    struck_at s = struck (under s) (impact_of s (under s) c.ball)

    -- the arc of the hop step from a state
    abbrev pub arc_from : BallState → Arc
    arc_from s = step_arc c from_spin_vector s

    -- and the state at its end
    abbrev pub end_from : BallState → BallState
    end_from s = step_end (spin_after c.fading) (arc_from s) s

    -- the last state that passed, g, where a ball drops to the ground after an impact that it left as out: out itself, or the arrival of the hop from out
    pub data Grounded (out g : BallState) : Type 0 where
      at_once : g ≡ out → Grounded out g
      after_hop_lem : GivenBy (hop c out) (Arrived g) → Grounded out g

    -- the states that are tested: s, where g is the last that passed. 01: "the state after each impact, hop step, arrival, drop to the ground and
    -- ground step"
    pub data Follows (g s : BallState) : Type 0 where
      impact : s ≡ impact_of g (under g) c.ball → Follows g s
      hop_step_lem : s ≡ end_from g → Follows g s
      -- the arrival in the hop step from f, which ended at g
      arrival : (f : BallState) → Ok f → g ≡ end_from f
          → GivenBy (hop_arrival (arc_from f) f.time (g.pos.y ⊖ (under g).height) f.spin) (Some s) → Follows g s
      -- the drop after the impact of f
      drop : (f : BallState) → Ok f → Grounded (struck_at f).out g → s ≡ dropped c (struck_at f) → Follows g s
      -- the ground step from g, on the ground under it
      ground_step_lem : (r : Roll) → r.state ≡ g → r.«at» ≡ under g → s ≡ put_down c r (step_on c r).state (step_on c r).rolling (under (step_on c r).state) → Follows g s

    -- the looks whose spot p may fail its test, where g is the last state that passed: on the path of the hop step from f, which ended at g; and
    -- where the ground step from g, on the ground under it, came to. An impact, a hop step's end and a push look at g's own spot, which passes
    pub data Sought (g : BallState) (p : Spot) : Type 0 where
      on_path : (f : BallState) → Ok f → g ≡ end_from f → (tau : Float) → p ≡ spot_under (arc_of (arc_from f) tau).pos → Sought g p
      below_step : (r : Roll) → r.state ≡ g → r.«at» ≡ under g → p ≡ spot_under (step_on c r).state.pos → Sought g p

    -- the test that failed: of a spot, the one that failed; or of a state that followed the last good one, each spot having passed
    pub data Failed (landing : BallState) (off : List Spot) (good : BallState) : Type 0 where
      of_spot : (p : Spot) → off ≡ p ∷ [] → spot_ok p.x p.z ≡ false → (OverDoubles landing → Sought good p) → Failed landing off good
      of_state : off ≡ [] → (s : BallState) → Follows good s → state_ok s ≡ false → Failed landing off good
