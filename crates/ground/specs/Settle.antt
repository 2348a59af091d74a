-- Definitions. The settle, as 01 tells it: all that a call gives, from the sheet's bytes and the rest of its input.
use Rattle.std.specs.Prelude.{ℕ, ◌/◌, List, [], eqb, Float, length, Option, Some, None, Result as RustResult, Ok, Err}
use Rattle.number.specs.Ops.{◌⊕◌, dec}
use Rattle.vector.specs.Vec.{zero3}
use Rattle.state.specs.declared.BallState.{BallState}
use Rattle.look.specs.Rect.{Rect, no_rect}
use Rattle.look.specs.Tree.{Tree, Spot, Did, exec, looks}
use Rattle.course.specs.Sheet.{course_of}
use Rattle.records.specs.Records.{shown}
use Rattle.tally.specs.Language.{M, Log, Outcome, goes, stops, Ran, point_width, contact_width}
use Rattle.std.specs.Prelude.{if◌then◌else◌}
use Rattle.shot.specs.declared.Shot.{Shot}
use Rattle.tally.specs.declared.Conditions.{Conditions}
use Rattle.roll.specs.declared.Ending.{Ending}
use Rattle.state.specs.declared.Termination.{Termination}
use Rattle.state.specs.declared.Termination.TheVariants.{Rest}
use Rattle.hop.specs.declared.Way.{Way}
use Rattle.train.specs.Train.{train_by, train}
use Rattle.ground.specs.Tests.{refusal_of}
use Rattle.refusal.specs.declared.Refusal.{Refusal}
use Rattle.refusal.specs.Refusal.{answer_by as number_by}
use Rattle.ground.specs.declared.Settled.{Settled as Code}

-- 01, "Result of a settle": what it returns beside the lists
pub record Settled : Type 0 where
  pub answer : ℕ
  pub termination : Option Termination
  pub contacts : ℕ
  pub points : ℕ
  pub steps : ℕ
  pub evaluations : ℕ
  pub rest : BallState
  pub rect : Rect

-- the code's result says it by an outcome: how it ended, or the refusal by which it did not
abbrev pub ended_by : RustResult Termination Refusal → Option Termination
ended_by (Ok t) = Some t
ended_by (Err r) = None

abbrev pub told_by : Code → Settled
told_by s = record {
  answer = number_by s.outcome;
  termination = ended_by s.outcome;
  contacts = s.contacts;
  points = s.points;
  steps = s.steps;
  evaluations = s.evaluations;
  rest = s.rest;
  rect = s.rect;
}

-- all that a call gives: what it returns, and both lists
pub record Result : Type 0 where
  pub settled : Settled
  pub contacts : List Float
  pub points : List Float

abbrev pub result_of : Settled → List Float → List Float → Result
result_of s cs ps = record { settled = s; contacts = cs; points = ps }

-- "all-zero (+0) final state"
abbrev pub no_state : BallState
no_state = record { time = dec 0 1; pos = zero3; vel = zero3; spin = zero3 }

-- "Result of a settle: the number, zero counts, all-zero (+0) final state and rectangle"
abbrev pub refusal : ℕ → Settled
refusal n = record { answer = n; termination = None; contacts = 0; points = 0; steps = 0; evaluations = 0; rest = no_state; rect = no_rect }

abbrev pub answer_by : Outcome Ending → ℕ
answer_by (goes e) = 0
answer_by (stops n) = n

abbrev pub how_by : Outcome Ending → Option Termination
how_by (goes e) = Some e.how
how_by (stops n) = None

-- 20 to 23: "final state the last that passed its test (else the landing)"
abbrev pub rest_by : Outcome Ending → BallState → BallState
rest_by (goes e) good = e.state
rest_by (stops n) good = good

-- "lists and counts as pushed so far, steps taken, rectangle so far"; 02, paper 4: "under 20 to 23 those [evaluations] so far"
abbrev pub settled_of : Outcome Ending → Log → Rect → Settled
settled_of x l q = record {
  answer = answer_by x;
  termination = how_by x;
  contacts = length l.contacts.records;
  points = length l.points.records;
  steps = l.steps;
  evaluations = l.evaluations;
  rest = rest_by x l.good;
  rect = q;
}

-- "its pushed records in order and +0 in all the rest"
unfoldable pub report_of : ℕ → ℕ → Did (Ran Ending) → Result
report_of nc np d = result_of (settled_of d.value.outcome d.value.log d.rect) (shown nc d.value.log.contacts.records) (shown np d.value.log.points.records)

-- ground.rs, fn settle: `t_end = landing.time + self.max_time`
unfoldable pub conditions_of : Shot → Conditions
conditions_of s = record {
  physics = s.physics;
  step_limit = s.step_limit;
  ball = s.ball;
  air_density = s.air_density;
  t_end = s.landing.time ⊕ s.physics.max_time;
  fading = s.fading;
}

-- the log before the first look, with lists of nc and np doubles
abbrev pub first_log : BallState → ℕ → ℕ → Log
first_log landing nc np = record {
  steps = 0;
  evaluations = 0;
  contacts = record { room = nc / contact_width; records = [] };
  points = record { room = np / point_width; records = [] };
  good = landing;
}

-- the run of an accepted call, over the course's looks. The hop is an argument
abbrev pub run_by : (Conditions → BallState → M Way) → Shot → ℕ → ℕ → Tree (Ran Ending)
run_by hop s nc np = train_by hop (conditions_of s) s.landing (first_log s.landing nc np)

unfoldable pub run_of : Shot → ℕ → ℕ → Tree (Ran Ending)
run_of s nc np = train (conditions_of s) s.landing (first_log s.landing nc np)

module _ (sheet : List ℕ) (shot : Shot) (cs ps : List Float) where
  -- by a run. Lists untouched on a refusal
  abbrev pub settle_by : Tree (Ran Ending) → Result
  settle_by run =
      let n = refusal_of sheet shot (length cs) (length ps) in
      if eqb n 0 then report_of (length cs) (length ps) (exec (course_of sheet) no_rect run) else result_of (refusal n) cs ps

  unfoldable pub settle_of : Result
  settle_of = settle_by (run_of shot (length cs) (length ps))

  -- the spots looked at, in order. 01: "The definition lists their spots, worked out from the input"
  unfoldable pub looks_of : List Spot
  looks_of = if eqb (refusal_of sheet shot (length cs) (length ps)) 0 then looks (course_of sheet) (run_of shot (length cs) (length ps)) else []
