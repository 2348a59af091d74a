-- Lemmas: from the tests and the run to what the caller sees.
use Rattle.std.proofs.Common.{ℕ, ◌≡◌, ◌≤◌, List, [], length, arith, refl, ap, ◌∙◌}
use Rattle.std.specs.Prelude.{Float, Result, Ok, Err}
use Rattle.state.specs.declared.BallState.{BallState}
use Rattle.aero.specs.declared.BallModel.{BallModel}
use Rattle.look.specs.Tree.{did, Did}
use Rattle.course.specs.Sheet.{course_of}
use Rattle.records.specs.Records.{Clean, recs, shown, zeroed}
use Rattle.records.proofs.Laws.{shows, clean_zeroed, zeroed_length, recs-length}
use Rattle.refusal.specs.declared.Refusal.{Refusal}
use Rattle.tally.specs.Language.{M, Ran, ran, Outcome, ◌>>=◌, pure, point_width, contact_width}
use Rattle.tally.specs.Inner.{Place, place, first_tally, log_at, Grown, Runs, Reached, outcome_by}
use Rattle.tally.proofs.Reached.{ended, passes, fails}
use Rattle.tally.specs.declared.Conditions.{Conditions}
use Rattle.tally.specs.declared.Tally.{Tally}
use Rattle.shot.specs.declared.Shot.{Shot}
use Rattle.roll.specs.declared.Ending.{Ending}
use Rattle.train.specs.Inner.{TrainRuns}
use Rattle.ground.specs.Tests.{refusal_of}
use Rattle.ground.specs.Settle.{result_of, report_of, conditions_of, run_of, settle_of}
use Rattle.ground.specs.Step.{StepOut, step_by, step_run, step_made, struck_by, impact_by, impact_run, impact_made}
use Rattle.ground.specs.Inner.{settled_by}
use Rattle.ground.specs.Passed.{settle_limit}

-- a run with no lists, and what a step or an impact gives
pub step_gives : (s : List ℕ) (dt stop roll : Float) (ball : BallModel) (state : BallState) {x : Outcome StepOut} {n : ℕ} {b : Place}
    → Runs (course_of s) (step_run dt stop roll ball state) n (place (first_tally state) [] []) x b → step_by state x ≡ step_made s dt stop roll ball state
unfolding step_made recs
step_gives s dt stop roll ball state r = ap (λ (d : Did (Ran StepOut)). step_by state d.value.outcome) r.same

pub impact_gives : (s : List ℕ) (ball : BallModel) (state : BallState) {x : Outcome BallState} {n : ℕ} {b : Place}
    → Runs (course_of s) (impact_run ball state) n (place (first_tally state) [] []) x b → impact_by state x ≡ impact_made s ball state
unfolding impact_made recs
impact_gives s ball state r = ap (λ (d : Did (Ran BallState)). impact_by state d.value.outcome) r.same

-- the last test of an impact
pub impact_ends : (s : List ℕ) (ball : BallModel) (state : BallState) (w : M BallState) (x : Result BallState Refusal) {n j : ℕ} {b b' : Place}
    → Reached (course_of s) (impact_run ball state) (place (first_tally state) [] []) n (w >>= λ out. pure out) b → Runs (course_of s) w j b (outcome_by x) b'
    → struck_by state x ≡ impact_made s ball state
impact_ends s ball state w (Ok v) r h = impact_gives s ball state (ended (passes _ _ r h refl))
impact_ends s ball state w (Err e) r h = impact_gives s ball state (ended (fails _ _ r h refl))

-- a list that was zeroed, and then grew, is the records and +0 after them
seen : (w n : ℕ) (l m : List Float) → Grown w 0 (zeroed l 0) n m → Clean w 0 (zeroed l 0) → length m ≡ length (zeroed l 0) → m ≡ shown (length l) (recs w n m)
seen w n l m g c e = shows w n m (g.clean c) ∙ ap (λ (k : ℕ). shown k (recs w n m)) (e ∙ zeroed_length l 0)

-- its limit of steps
pub limit_of : (s : List ℕ) (shot : Shot) (nc np : ℕ) {c : Conditions} → refusal_of s shot nc np ≡ 0 → c ≡ conditions_of shot → c.step_limit ≤ 2000000
unfolding conditions_of
limit_of s shot nc np h e = rw e (settle_limit s shot nc np h)

-- an accepted settle
pub settled_whole : (s : List ℕ) (shot : Shot) (cs ps : List Float) (r : Result Ending Refusal) {c : Conditions} {t : Tally} {zc zp mc mp : List Float}
    → refusal_of s shot (length cs) (length ps) ≡ 0 → c ≡ conditions_of shot → zc ≡ zeroed cs 0 → zp ≡ zeroed ps 0
    → TrainRuns (course_of s) c shot.landing zc zp r t mc mp → length mc ≡ length zc → length mp ≡ length zp
    → result_of (settled_by r t) mc mp ≡ settle_of s shot cs ps
unfolding settle_of report_of run_of recs
settled_whole s shot cs ps r {t} {mc = mc} {mp} h ec ezc ezp run kc kp =
    let g = rw (ezc, ezp) at run in
    let lc = rw ezc at kc in
    let lp = rw ezp at kp in
    let vc = seen contact_width t.contacts cs mc g.contacts (clean_zeroed contact_width 0 cs (omega arith)) lc in
    let vp = seen point_width t.points ps mp g.points (clean_zeroed point_width 0 ps (omega arith)) lp in
    let d = did (ran (outcome_by r) (log_at (place t mc mp))) t.rect in
    let a : result_of (settled_by r t) mc mp ≡ report_of (length cs) (length ps) d
    = rw (recs-length contact_width t.contacts mc, recs-length point_width t.points mp, ← vc, ← vp) in
    rw h (a ∙ ap (report_of (length cs) (length ps)) (rw (zeroed_length cs 0, zeroed_length ps 0, ec) at g.same))
