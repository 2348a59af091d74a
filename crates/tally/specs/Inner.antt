-- Contracts of inner functions: where a run of the code stands, and that its calls do what a part of the definition does.
use Rattle.std.specs.Prelude.{◌≡◌, ℕ, ◌+◌, ◌-◌, ◌*◌, ◌/◌, ◌≤◌, Bool, false, List, length, Float, Result, Ok, Err}
use Rattle.std.specs.declared.ops.ControlFlow.{ControlFlow}
use Rattle.std.specs.declared.ops.ControlFlow.TheVariants.{Continue, Break}
use Rattle.state.specs.declared.BallState.{BallState}
use Rattle.state.specs.declared.Phase.{Phase}
use Rattle.surface.specs.declared.GroundSample.{GroundSample}
use Rattle.look.specs.Rect.{Rect, no_rect}
use Rattle.look.specs.Tree.{Made, Oracle, exec, did}
use Rattle.records.specs.Records.{recs, zeroed, Clean}
use Rattle.tally.specs.Language.{M, Lent, Log, Outcome, goes, stops, ran, Pass, again, over, when, point_width, contact_width, evaluated, make_step, look, test}
use Rattle.tally.specs.declared.Conditions.{Conditions}
use Rattle.tally.specs.Language.{push_point, push_contact}
use Rattle.tally.specs.declared.Tally.{Tally}
use Rattle.refusal.specs.declared.Refusal.{Refusal}
use Rattle.refusal.specs.Refusal.{number_of}

-- ---- tallies

-- before the first look
abbrev pub first_tally : BallState → Tally
first_tally b = record { steps = 0; evaluations = 0; contacts = 0; points = 0; good = b; rect = no_rect }

abbrev pub with_rect : Tally → Rect → Tally
with_rect t q = record { steps = t.steps; evaluations = t.evaluations; contacts = t.contacts; points = t.points; good = t.good; rect = q }

-- another rectangle, and k evaluations more: what a search changes
abbrev pub with_search : Tally → ℕ → Rect → Tally
with_search t k q = record { steps = t.steps; evaluations = t.evaluations + k; contacts = t.contacts; points = t.points; good = t.good; rect = q }

abbrev pub with_contacts : Tally → ℕ → Tally
with_contacts t n = record { steps = t.steps; evaluations = t.evaluations; contacts = n; points = t.points; good = t.good; rect = t.rect }

abbrev pub with_points : Tally → ℕ → Tally
with_points t n = record { steps = t.steps; evaluations = t.evaluations; contacts = t.contacts; points = n; good = t.good; rect = t.rect }

-- ---- where a run stands

-- its tally, and both lists
pub record Place : Type 0 where
  pub tally : Tally
  pub contacts : List Float
  pub points : List Float

abbrev pub place : Tally → List Float → List Float → Place
place t lc lp = record { tally = t; contacts = lc; points = lp }

-- n records, w wide, in a list that was lent
abbrev pub lent : ℕ → ℕ → List Float → Lent
lent w n l = record { room = length l / w; records = recs w n l }

-- the log that a place stands for
abbrev pub log_at : Place → Log
log_at p = record {
  steps = p.tally.steps;
  evaluations = p.tally.evaluations;
  contacts = lent contact_width p.tally.contacts p.contacts;
  points = lent point_width p.tally.points p.points;
  good = p.tally.good;
}

-- ---- a call

-- a list of records w wide that held n of them, and +0 after them, holds k of them, no fewer, and +0 after them; it is as long as it was
pub record Grown (w n : ℕ) (l : List Float) (k : ℕ) (m : List Float) : Type 0 where
  pub more : n ≤ k
  pub long : length m ≡ length l
  pub clean : Clean w n l → Clean w k m

-- a call that the definition's part m is of: from place a it comes to place b by n steps and at most e evaluations, with outcome x
pub record RunsBy {A : Type 0} (o : Oracle) (m : M A) (n e : ℕ) (a : Place) (x : Outcome A) (b : Place) : Type 0 where
  pub same : did (ran x (log_at b)) b.tally.rect ≡ exec o a.tally.rect (m (log_at a))
  pub count : b.tally.steps ≡ a.tally.steps + n
  pub work : b.tally.evaluations ≤ a.tally.evaluations + e
  pub contacts : Grown contact_width a.tally.contacts a.contacts b.tally.contacts b.contacts
  pub points : Grown point_width a.tally.points a.points b.tally.points b.points

-- at most 200 evaluations a step
abbrev pub Runs : {A : Type 0} → Oracle → M A → ℕ → Place → Outcome A → Place → Type 0
Runs o m n a x b = RunsBy o m n (200 * n) a x b

-- the same, of a call that makes as many steps as it counts
abbrev pub RunsOn : {A : Type 0} → Oracle → M A → Place → Outcome A → Place → Type 0
RunsOn o m a x b = Runs o m (b.tally.steps - a.tally.steps) a x b

-- the run of m from a has made n steps, is at b, and m' is left of it
pub record Reached {A : Type 0} (o : Oracle) (m : M A) (a : Place) (n : ℕ) (m' : M A) (b : Place) : Type 0 where
  pub same : exec o b.tally.rect (m' (log_at b)) ≡ exec o a.tally.rect (m (log_at a))
  pub count : b.tally.steps ≡ a.tally.steps + n
  pub work : b.tally.evaluations ≤ a.tally.evaluations + 200 * n
  pub contacts : Grown contact_width a.tally.contacts a.contacts b.tally.contacts b.contacts
  pub points : Grown point_width a.tally.points a.points b.tally.points b.points

-- a call that only looks: from rectangle q to q', its outcome is the definition's and the log stays as it is
abbrev pub Looks : {A : Type 0} → Oracle → Rect → M A → Outcome A → Rect → Type 0
Looks o q m x q' = (l : Log) → did (ran x l) q' ≡ exec o q (m l)

-- a call that looks and makes k evaluations of a search: nothing else of the log changes
abbrev pub Searches : {A : Type 0} → Oracle → Rect → M A → Outcome A → ℕ → Rect → Type 0
Searches o q m x k q' = (l : Log) → did (ran x (evaluated k l)) q' ≡ exec o q (m l)

-- what keeps the counts below 2^64. 01, 4: "step_limit 1..2,000,000"
pub record Bounded (c : Conditions) (t : Tally) : Type 0 where
  pub limit : c.step_limit ≤ 2000000
  pub work : t.evaluations ≤ 200 * t.steps

-- a pass that ends its loop, or a stop
abbrev pub over_by : {A B : Type 0} → Outcome B → Outcome (Pass A B)
over_by (goes b) = goes (over b)
over_by (stops n) = stops n

-- how a loop of passes comes back: with an outcome, or with what it carries, when a step is due that it may not make
pub data Back (A B : Type 0) : Type 0 where
  came : Outcome B → Back A B
  due_with : A → Back A B

-- a loop that the definition's part m is of; where a step is due, before t_end, `left` is what is left of m
abbrev pub Loops : {A B : Type 0} → Oracle → M B → (A → Bool) → (A → M B) → Place → Back A B → Place → Type 0
Loops o m late left a (came x) b = RunsOn o m a x b
Loops o m late left a (due_with g) b = (late g ≡ false) × Reached o m a (b.tally.steps - a.tally.steps) (left g) b

-- ---- the words; a list that a word does not touch may be any

-- with the k evaluations of its search
pub record MakesStep (t : Tally) (k : ℕ) (t' : Tally) : Type 0 where
  pub work : t'.evaluations ≡ t.evaluations + k
  pub runs : (o : Oracle) (s : Made) → s.evaluations ≡ k → (lc lp : List Float) → Runs o (make_step s) 1 (place t lc lp) (goes s) (place t' lc lp)

-- what a call's result stands for: it goes on with a value, or stops by its refusal's number
abbrev pub outcome_by : {A : Type 0} → Result A Refusal → Outcome A
outcome_by (Ok v) = goes v
outcome_by (Err r) = stops (number_of r)

-- what a pass gives: it goes on to another, or ends its loop
abbrev pub pass_by : {A B : Type 0} → ControlFlow B A → Pass A B
pass_by (Continue a) = again a
pass_by (Break b) = over b

-- the same of a call's result, which may also stop
abbrev pub passes_by : {A B : Type 0} → Result (ControlFlow B A) Refusal → Outcome (Pass A B)
passes_by (Ok p) = goes (pass_by p)
passes_by (Err r) = stops (number_of r)

-- how a loop of passes comes back: with an end, with what it carries where a step is due that it may not make, or by a stop
abbrev pub back_by : {A B : Type 0} → Result (ControlFlow B A) Refusal → Back A B
back_by (Ok (Continue a)) = due_with a
back_by (Ok (Break b)) = came (goes b)
back_by (Err r) = came (stops (number_of r))

abbrev pub LooksAt : Oracle → Tally → Float → Float → Result GroundSample Refusal → Tally → Type 0
LooksAt o t x z r t' = (lc lp : List Float) → Runs o (look x z) 0 (place t lc lp) (outcome_by r) (place t' lc lp)

abbrev pub Tests : Tally → BallState → Result BallState Refusal → Tally → Type 0
Tests t s r t' = (o : Oracle) (lc lp : List Float) → Runs o (test s) 0 (place t lc lp) (outcome_by r) (place t' lc lp)

abbrev pub PushesPoint : Oracle → Tally → List Float → BallState → Phase → Result Unit Refusal → Tally → List Float → Type 0
PushesPoint o t l s f r t' m = (lc : List Float) → Runs o (push_point s f) 0 (place t lc l) (outcome_by r) (place t' lc m)

abbrev pub PushesIf : Oracle → Bool → Tally → List Float → BallState → Phase → Result Unit Refusal → Tally → List Float → Type 0
PushesIf o due t l s f r t' m = (lc : List Float) → Runs o (when due (push_point s f)) 0 (place t lc l) (outcome_by r) (place t' lc m)

abbrev pub PushesContact : Tally → List Float → BallState → GroundSample → BallState → Result Unit Refusal → Tally → List Float → Type 0
PushesContact t l a s b r t' m = (o : Oracle) (lp : List Float) → Runs o (push_contact a s b) 0 (place t l lp) (outcome_by r) (place t' m lp)

-- `truncate`, by the list: +0 from record n on, and n is counted
pub record Truncates (t : Tally) (l : List Float) (n : ℕ) (t' : Tally) (m : List Float) : Type 0 where
  pub tally : t' ≡ with_points t n
  pub list : m ≡ zeroed l (n * point_width)
