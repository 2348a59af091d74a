-- Definitions. The language in which a settle is defined: looks, tests, pushes and counted steps, over a log, with an exit by a number.
use Rattle.std.specs.Prelude.{ℕ, zero, suc, ◌+◌, ◌-◌, Bool, true, false, List, [], ◌∷◌, length, take, pos, Float, Some, None}
use Rattle.std.specs.Float.Ieee.{of_int}
use Rattle.std.specs.Float.{binary64}
use Rattle.number.specs.Ops.{◌⊖◌}
use Rattle.state.specs.declared.BallState.{BallState}
use Rattle.surface.specs.declared.GroundSample.{GroundSample}
use Rattle.state.specs.declared.Phase.{Phase}
use Rattle.state.specs.Numbers.{phase_number}
use Rattle.search.specs.Search.{Does}
use Rattle.state.specs.State.{state_ok}
use Rattle.look.specs.Tree.{Look, Made, Tree, done, step, bind, look_tree}
use Rattle.records.specs.Records.{Records, Put, full, put, pushed}
use Rattle.tally.specs.declared.Conditions.{Conditions}
use Rattle.std.specs.Prelude.{if◌then◌else◌}

-- ---- the log

-- a lent list: the number of records that it has room for, and those pushed so far
pub record Lent : Type 0 where
  pub room : ℕ
  pub records : Records

-- the steps made, the evaluations of their root searches, both lists, the last state that passed its test
pub record Log : Type 0 where
  pub steps : ℕ
  pub evaluations : ℕ
  pub contacts : Lent
  pub points : Lent
  pub good : BallState

-- a part of the settle goes on with a value, or stops with a number, 20 to 23; it leaves a log either way
pub data Outcome (A : Type 0) : Type 0 where
  goes : A → Outcome A
  stops : ℕ → Outcome A

pub record Ran (A : Type 0) : Type 0 where
  pub outcome : Outcome A
  pub log : Log

abbrev pub ran : {A : Type 0} → Outcome A → Log → Ran A
ran x l = record { outcome = x; log = l }

-- a part of the settle: from a log, a look tree
abbrev pub M : Type 0 → Type 0
M A = Log → Tree (Ran A)

-- ---- one part after another; a stop ends the whole
abbrev pub onward : {A B : Type 0} → (A → M B) → Outcome A → M B
onward k (goes a) l = k a l
onward k (stops n) l = done (ran (stops n) l)

infixl 10 ◌>>=◌
infixl 10 ◌>>◌
unfoldable pub ◌>>=◌ : {A B : Type 0} → M A → (A → M B) → M B
◌>>=◌ m k l = bind (m l) (λ r. onward k r.outcome r.log)

abbrev pub ◌>>◌ : {A B : Type 0} → M A → M B → M B
◌>>◌ m n = m >>= λ _. n

abbrev pub pure : {A : Type 0} → A → M A
pure a l = done (ran (goes a) l)

abbrev pub stop_with : {A : Type 0} → ℕ → M A
stop_with n l = done (ran (stops n) l)

-- find_root runs its evaluations in this language
abbrev pub in_m : Does M
in_m = record { pure = pure; bind = ◌>>=◌ }

unfoldable pub when : Bool → M Unit → M Unit
when b m = if b then m else pure tt

-- ---- records

-- the numbers of a point and of a contact. 02, paper 12: "number 8 now counts points by twelve"; 01: "20 a record"
abbrev pub point_width : ℕ
point_width = 12

abbrev pub contact_width : ℕ
contact_width = 20

-- 01: "Points, 11: time, pos, vel, spin, phase"; 02, paper 12: "a twelfth number: y less the course height at its x and z"
abbrev pub point_of : BallState → Phase → Float → List Float
point_of s p height =
    s.time ∷ s.pos.x ∷ s.pos.y ∷ s.pos.z ∷ s.vel.x ∷ s.vel.y ∷ s.vel.z
    ∷ s.spin.x ∷ s.spin.y ∷ s.spin.z ∷ phase_number p ∷ (s.pos.y ⊖ height) ∷ []

-- 01: "20 a record: time, pos, normal, surface number, vel_in, vel_out, spin_in, spin_out"; ground.rs, Contact::new
abbrev pub contact_of : BallState → GroundSample → BallState → List Float
contact_of a s b =
    a.time ∷ a.pos.x ∷ a.pos.y ∷ a.pos.z ∷ s.normal.x ∷ s.normal.y ∷ s.normal.z ∷ of_int binary64 (pos s.number)
    ∷ a.vel.x ∷ a.vel.y ∷ a.vel.z ∷ b.vel.x ∷ b.vel.y ∷ b.vel.z
    ∷ a.spin.x ∷ a.spin.y ∷ a.spin.z ∷ b.spin.x ∷ b.spin.y ∷ b.spin.z ∷ []

-- ---- changes of the log
abbrev pub stepped : Made → Log → Log
stepped s l = record { steps = l.steps + 1; evaluations = l.evaluations + s.evaluations; contacts = l.contacts; points = l.points; good = l.good }

-- n evaluations more
abbrev pub evaluated : ℕ → Log → Log
evaluated n l = record { steps = l.steps; evaluations = l.evaluations + n; contacts = l.contacts; points = l.points; good = l.good }

abbrev pub tested : BallState → Log → Log
tested s l = record { steps = l.steps; evaluations = l.evaluations; contacts = l.contacts; points = l.points; good = s }

abbrev pub with_points : Records → Log → Log
with_points rs l = record {
  steps = l.steps;
  evaluations = l.evaluations;
  contacts = l.contacts;
  points = record { room = l.points.room; records = rs };
  good = l.good;
}

abbrev pub with_contacts : Records → Log → Log
with_contacts rs l = record {
  steps = l.steps;
  evaluations = l.evaluations;
  contacts = record { room = l.contacts.room; records = rs };
  points = l.points;
  good = l.good;
}

-- 22 where the spot failed its test
abbrev pub seen_at : Look → M GroundSample
seen_at None = stop_with 22
seen_at (Some s) = pure s

-- 21: "a push finds .. points full"
abbrev pub point : Put → M Unit
point full l = stop_with 21 l
point (put rs) l = pure tt (with_points rs l)

-- 20: "a push finds contacts .. full"
abbrev pub contact : Put → M Unit
contact full l = stop_with 20 l
contact (put rs) l = pure tt (with_contacts rs l)

-- ---- the terms of 01

-- step. 01: "one step is one pass that makes a hop step or a contact step, counted once that is made".
-- What a step made is had of this word, which counts it: no step goes uncounted, and no count is without its step.
-- The evaluations that a contact step made are counted with it.
unfoldable pub make_step : Made → M Made
make_step s l = step s (pure s (stepped s l))

-- look, at the spot (x, z). 01: "Before each look x and z get the same test"; a look whose spot fails it is not made
unfoldable pub look : Float → Float → M GroundSample
look x z l = bind (look_tree x z) (λ s. seen_at s l)

-- evaluation, one call of the function f whose root find_root seeks. It is counted as it is made: one whose look is stopped by 22 is counted too
unfoldable pub count_evaluation : M Unit
count_evaluation l = pure tt (evaluated 1 l)

abbrev pub evaluate : (Float → M Float) → Float → M Float
evaluate f x = do
  count_evaluation
  f x

-- test 22 of a state. 01: "final state the last that passed its test"
unfoldable pub test : BallState → M BallState
test s l = if state_ok s then pure s (tested s l) else stop_with 22 l

-- push of a point, where the course has that height
unfoldable pub put_point : BallState → Phase → Float → M Unit
put_point s p height l = point (pushed l.points.room l.points.records (point_of s p height)) l

-- push of a point, its look first. 02, paper 12: "That look counts in the rectangle, and its spot is tested as any look is, before the push"
unfoldable pub push_point : BallState → Phase → M Unit
push_point s p = do
  under ← look s.pos.x s.pos.z
  put_point s p under.height

-- push of a contact: the state that arrives, the sample, the state that leaves
unfoldable pub push_contact : BallState → GroundSample → BallState → M Unit
push_contact a s b l = contact (pushed l.contacts.room l.contacts.records (contact_of a s b)) l

-- ground.rs, fn settle: `let mark = points.len()`
unfoldable pub mark : M ℕ
mark l = pure (length l.points.records) l

-- ground.rs, fn settle: `points.truncate(mark)`. 01: "a discarded hop's points go"
unfoldable pub truncate : ℕ → M Unit
truncate n l = pure tt (with_points (take n l.points.records) l)

-- the steps left of step_limit
unfoldable pub steps_left : Conditions → M ℕ
steps_left c l = pure (c.step_limit - l.steps) l

-- pass. A pass goes on to another, or ends its loop.
pub data Pass (A B : Type 0) : Type 0 where
  again : A → Pass A B
  over : B → Pass A B

-- a loop of passes. 01: "Each pass tests t_end, then step_limit, then steps"; 23: "step_limit steps taken and one more due"
unfoldable pub loop : {A B : Type 0} → ℕ → (A → Bool) → (A → M B) → (A → M (Pass A B)) → A → M B
loop zero late at_end pass a = if late a then at_end a else stop_with 23
loop (suc n) late at_end pass a = if late a then at_end a else do
  p ← pass a
  elim p [ again b ↦ loop n late at_end pass b | over r ↦ pure r ]
