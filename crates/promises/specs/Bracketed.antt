-- Definitions. What is said of a pass: its step has a length above 0 and at most dt, an arrival lies within it, each search of a hop makes at most 200
-- looks, a slide reaches its threshold within it, and time is not turned back.
use Rattle.std.specs.Prelude.{◌≤◌, ◌≡◌, true, T, length, Float}
use Rattle.std.specs.Float.{binary64}
use Rattle.std.specs.Float.Ieee.{fits, le}
use Rattle.number.specs.Ops.{◌⊖◌, dec}
use Rattle.number.specs.Number.{min_of}
use Rattle.number.specs.Against0.{StepLength}
use Rattle.state.specs.declared.BallState.{BallState}
use Rattle.state.specs.State.{state_ok}
use Rattle.search.specs.Search.{find_root}
use Rattle.search.proofs.Evaluations.{Within}
use Rattle.search.specs.declared.Bracket.{Bracket}
use Rattle.slide.specs.Slide.{time_at_threshold}
use Rattle.slide.specs.declared.Turning.{Turning}
use Rattle.look.specs.Tree.{Oracle, looks as looks_in}
use Rattle.tally.specs.Language.{Log, in_m, evaluate, Pass, again, over}
use Rattle.tally.specs.declared.Conditions.{Conditions}
use Rattle.arrival.specs.Arrival.{clearance_at, hop_arrival}
use Rattle.arrival.specs.RootSearch.{Gives, EvaluatesAtMost}
use Rattle.arrival.proofs.FirstCrossing.{IfSome}
use Rattle.arrival.proofs.ArrivalTime.{ArrivesIn}
use Rattle.hop.specs.Hop.{Air, step_arc, hop_step}
use Rattle.hop.specs.declared.Flight.{Flight}
use Rattle.hop.specs.declared.Way.{Way}
use Rattle.hop.specs.declared.Way.TheVariants.{Arrived, Late}
use Rattle.roll.specs.Roll.{step_on, ground_step}
use Rattle.roll.specs.declared.Roll.{Roll}
use Rattle.roll.specs.declared.Ending.{Ending}
use Rattle.promises.specs.Passes.{Made, in_air, on_ground}

-- a state that passes test 22, at a time that is a double
pub record Timed (s : BallState) : Type 0 where
  pub ok : state_ok s ≡ true
  pub double : T (fits binary64 s.time)

-- such a state, at the time t or later
pub record Later (t : Float) (s : BallState) : Type 0 where
  pub timed : Timed s
  pub later : T (le t s.time)

-- P of the state that a pass leads to
abbrev pub HopLeads : (BallState → Type 0) → Pass Flight Way → Type 0
HopLeads P (again f) = P f.state
HopLeads P (over (Arrived b)) = P b
HopLeads P (over (Late b)) = P b

abbrev pub GroundLeads : (BallState → Type 0) → Pass Roll Ending → Type 0
GroundLeads P (again g) = P g.state
GroundLeads P (over e) = P e.state

module _ (c : Conditions) where
  -- a pass of a hop, on every course
  pub record HopBracket (air : Air) (f : Flight) : Type 0 where
    -- `h = self.dt.min(t_end - t)` is a double above 0, at most dt
    pub step : StepLength c.physics.dt (step_arc c air.aero f.state).h
    -- 01: "the answer within the bracket": an arrival is at t ⊕ tau with 0 ≤ tau ≤ h
    pub arrival : (end : Float)
        → Gives (IfSome (ArrivesIn f.state.time (step_arc c air.aero f.state).h))
        (hop_arrival (step_arc c air.aero f.state) f.state.time end f.state.spin)
    -- 01: "at most 200 evaluations", each one look
    pub looks : (b : Bracket) (guess : Float) (o : Oracle) (l : Log)
        → length (looks_in o (find_root in_m (evaluate (clearance_at (step_arc c air.aero f.state))) b guess l)) ≤ 200
    -- 02, paper 4: as many are counted, in all that the pass evaluates
    pub evaluations : (end : Float) → EvaluatesAtMost 200 (hop_arrival (step_arc c air.aero f.state) f.state.time end f.state.spin)
    -- the pass leads to no earlier time
    pub onward : Gives (HopLeads (Later f.state.time)) (hop_step c air f)

  -- a pass of the ground, on every course
  pub record GroundBracket (g : Roll) : Type 0 where
    -- `h = self.dt.min(t_end - state.time)` is a double above 0, at most dt
    pub step : StepLength c.physics.dt (min_of c.physics.dt (c.t_end ⊖ g.state.time))
    -- 01: "In `slide` the slip speed less the threshold takes the clearance's place": tau is found within 0..h
    pub slide : (q : Turning) (s₀ threshold s_full : Float) → let h = min_of c.physics.dt (c.t_end ⊖ g.state.time) in
        Within (dec 0 1) h (time_at_threshold q h s₀ threshold s_full).0
    -- 02, paper 4: "at most 200"
    pub evaluations : (step_on c g).evaluations ≤ 200
    -- the pass leads to no earlier time, by a slide, a roll or a stop
    pub onward : Gives (GroundLeads (Later g.state.time)) (ground_step c g)

  abbrev pub Bracketed : Made → Type 0
  Bracketed (in_air air f) = HopBracket air f
  Bracketed (on_ground g) = GroundBracket g
