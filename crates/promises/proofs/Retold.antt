-- Lemmas. From the train of impacts to a call: the records that the lists show are the run's, and a run with answer 0 ended as told (Told). Assumes nothing.
use Rattle.std.specs.Prelude.{ℕ, suc, ◌-◌, ◌≤◌, max, ◌≡◌, List, T, Float, length, Some}
use Rattle.std.proofs.Math.Nat.{le-max_left, le-max_right, max-le}
use Rattle.std.proofs.Common.{arith, ap, ◌∙◌}
use Rattle.std.proofs.Math.Path.{refl}
use Rattle.std.specs.Float.{binary64}
use Rattle.std.specs.Float.Ieee.{fits}
use Rattle.std.specs.Float.Ieee.Bits.{is_true}
use Rattle.state.specs.State.{state_ok}
use Rattle.look.specs.Tree.{Oracle, Tree, run, looks}
use Rattle.look.proofs.Resume.{made as made_by}
use Rattle.course.specs.Sheet.{course_of}
use Rattle.records.specs.Records.{Records, recs}
use Rattle.shot.specs.declared.Shot.{Shot}
use Rattle.tally.specs.Language.{Ran, Outcome, goes, stops, contact_width, point_width}
use Rattle.tally.proofs.Triple.{Past, past, After, misses, of_run}
use Rattle.roll.specs.declared.Ending.{Ending}
use Rattle.ground.specs.Passed.{settle_passes}
use Rattle.ground.specs.Settle.{Result, how_by, rest_by, report_of, conditions_of, first_log, run_of, settle_of}
use Rattle.promises.specs.Terms.{PointOf, ContactOf}
use Rattle.promises.proofs.Finite.{landing_passes, value_is, Leaves, settle_leaves}
use Rattle.promises.specs.Promises.{number}
use Rattle.promises.proofs.Promises.{answered, finished}
use Rattle.promises.specs.Bracketed.{Timed}
use Rattle.promises.proofs.OnePass.{Paced, holds, accepted_paced}
use Rattle.promises.specs.Ordered.{each_long, recs_shown}
use Rattle.promises.proofs.Walked.{Any}
use Rattle.promises.proofs.Told.{Told, t_train}

module _ (sheet : List ℕ) (shot : Shot) (cs ps : List Float) where
  abbrev got : Result
  got = settle_of sheet shot cs ps

  abbrev o : Oracle
  o = course_of sheet

  abbrev t : Tree (Ran Ending)
  t = run_of shot (length cs) (length ps)

  -- what the whole run has behind it
  abbrev pub end : Past
  end = past (run o t).log (made_by o t) (looks o t) (misses o t)

  abbrev pub most : ℕ
  most = max 1 shot.physics.max_impacts

  most_is : suc (shot.physics.max_impacts - 1) ≡ most
  most_is =
      let n = shot.physics.max_impacts in
      let a = le-max_left 1 n in
      let b = le-max_right 1 n in
      let d : max 1 n ≤ suc (n - 1) = max-le (omega arith) (omega arith) in
      omega (arith, a, b, d)

  module _ (h : got.settled.answer ≡ 0) (f : T (fits binary64 shot.physics.dt)) (k : T (fits binary64 shot.landing.time)) where
    accepted : number sheet shot cs ps ≡ 0
    accepted = answered sheet shot cs ps h

    paced : Paced (conditions_of shot)
    paced = let p = settle_passes sheet shot (length cs) (length ps) accepted in accepted_paced shot p.physics p.landing f

    landing_timed : Timed shot.landing
    landing_timed =
        let p = settle_passes sheet shot (length cs) (length ps) accepted in
        record { ok = is_true (state_ok shot.landing) (landing_passes shot.landing (holds p.landing)); double = k }

    told : After (Told o (conditions_of shot) most shot.landing.time) Any (run o t).outcome end
    unfolding run_of conditions_of
    told =
        of_run o (t_train o (conditions_of shot) paced most shot.landing.time shot.landing landing_timed refl most_is)
        (first_log shot.landing (length cs) (length ps))
        (refl, refl)

    how_is : got.settled.termination ≡ how_by (run o t).outcome
    unfolding settle_of report_of
    how_is = rw (accepted, value_is sheet shot cs ps)

    rest_is : got.settled.rest ≡ rest_by (run o t).outcome (run o t).log.good
    unfolding settle_of report_of
    rest_is = rw (accepted, value_is sheet shot cs ps)

    -- both lists, read back, are the run's records
    leaves : Leaves sheet shot cs ps
    leaves = settle_leaves sheet shot cs ps accepted

    pub contacts_are : recs contact_width got.settled.contacts got.contacts ≡ (run o t).log.contacts.records
    contacts_are =
        let l = leaves in
        ap (λ (n : ℕ). recs contact_width n got.contacts) l.contacts_counted ∙ ap (recs contact_width (length l.contacts)) l.contacts_listed
        ∙ recs_shown contact_width (length cs) l.contacts (each_long (ContactOf o) contact_width (λ r c. ap length c.is) l.contacts l.each_contact)
        ∙ l.logged.0

    pub points_are : recs point_width got.settled.points got.points ≡ (run o t).log.points.records
    points_are =
        let l = leaves in
        ap (λ (n : ℕ). recs point_width n got.points) l.points_counted ∙ ap (recs point_width (length l.points)) l.points_listed
        ∙ recs_shown point_width (length ps) l.points (each_long (PointOf o) point_width (λ r c. ap length c.is) l.points l.each_point)
        ∙ l.logged.1

    pub count_is : got.settled.contacts ≡ length (run o t).log.contacts.records
    count_is = leaves.contacts_counted ∙ ap (λ (r : Records). length r) leaves.logged.0

    -- the call's termination and final state are those of an ending that is told
    pub record Ended : Type 0 where
      pub ending : Ending
      pub how : got.settled.termination ≡ Some ending.how
      pub rest : got.settled.rest ≡ ending.state
      pub tells : Told o (conditions_of shot) most shot.landing.time ending end

    pub ended : Ended
    ended = go (run o t).outcome how_is rest_is told
      where
        go : (x : Outcome Ending) → got.settled.termination ≡ how_by x → got.settled.rest ≡ rest_by x (run o t).log.good
            → After (Told o (conditions_of shot) most shot.landing.time) Any x end → Ended
        go (stops n) a b d = absurd (finished sheet shot cs ps h a)
        go (goes e) a b d = record { ending = e; how = a; rest = b; tells = d }
