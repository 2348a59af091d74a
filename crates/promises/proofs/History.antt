-- Statements. 02, paper 8, "A history the league can trust": what is shown of every run with answer 0, over the result and both lists that `settle_of`, and so
-- the contract of `settle`, gives. The terms are those of Table. dt and the landing's time are doubles, as every f64 is. Assumes nothing.
use Rattle.std.specs.Prelude.{ℕ, ◌≤◌, max, ◌≡◌, List, T, Float, length, Some}
use Rattle.std.proofs.Common.{◌∙◌, sym, subst}
use Rattle.std.specs.Float.{binary64}
use Rattle.std.specs.Float.Ieee.{fits}
use Rattle.state.specs.declared.Termination.TheVariants.{Rest, MaxImpacts}
use Rattle.look.specs.Tree.{Made}
use Rattle.look.proofs.Resume.{made as made_by}
use Rattle.course.specs.Sheet.{course_of}
use Rattle.records.specs.Records.{Records, recs}
use Rattle.shot.specs.declared.Shot.{Shot}
use Rattle.tally.specs.Language.{contact_width, point_width}
use Rattle.arrival.proofs.FirstCrossing.{IfSome}
use Rattle.ground.specs.Settle.{Result, conditions_of, run_of, settle_of}
use Rattle.promises.proofs.Promises.{few_contacts as at_most}
use Rattle.promises.specs.Table.{FirstAt, InOrder, AfterFirst, OnCourse, Rested}
use Rattle.promises.proofs.Walked.{IsRest, IsImpacts}
use Rattle.promises.proofs.Retold.{contacts_are, points_are, count_is, ended}

module _ (sheet : List ℕ) (shot : Shot) (cs ps : List Float) where
  -- what the call gives
  abbrev pub got : Result
  got = settle_of sheet shot cs ps

  -- the records of both lists as left, up to their counts
  abbrev pub contacts : Records
  contacts = recs contact_width got.settled.contacts got.contacts

  abbrev pub points : Records
  points = recs point_width got.settled.points got.points

  -- the steps that the run made on the sheet's course, in order, each with what it made
  abbrev pub steps : List Made
  steps = made_by (course_of sheet) (run_of shot (length cs) (length ps))

  -- the most contacts that max_impacts allows
  abbrev pub most : ℕ
  most = max 1 shot.physics.max_impacts

  pub record History : Type 0 where
    -- the table begins with the landing
    pub first_time : FirstAt shot.landing.time contacts
    -- "Contact times and point times never decrease"
    pub contact_times_lem : InOrder contacts
    pub point_times : InOrder points
    -- "between 1 and max(1, max_impacts) contacts, and exactly that maximum when impacts ended it"
    pub some_contact : 1 ≤ got.settled.contacts
    pub few_contacts : got.settled.contacts ≤ most
    pub all_contacts : got.settled.termination ≡ Some MaxImpacts → got.settled.contacts ≡ most
    -- "Every contact after the first has y equal to the course height at its x and z"
    pub heights : AfterFirst (OnCourse (course_of sheet)) contacts
    -- "A run that ended at rest": its own last step and its final state
    pub rest : got.settled.termination ≡ Some Rest → Rested (course_of sheet) (conditions_of shot) steps got.settled.rest

  -- of every run with answer 0
  pub history : got.settled.answer ≡ 0 → T (fits binary64 shot.physics.dt) → T (fits binary64 shot.landing.time) → History
  history h f k =
      let e = ended sheet shot cs ps h f k in
      let told = e.tells in
      let listed = contacts_are sheet shot cs ps h f k in
      let count = count_is sheet shot cs ps h f k in
      record {
        first_time = rw listed told.first;
        contact_times_lem = rw listed told.contact_times_lem;
        point_times = rw (points_are sheet shot cs ps h f k) told.point_times;
        some_contact = rw count told.some;
        few_contacts = at_most sheet shot cs ps;
        all_contacts = λ m. rw count (told.impacts (subst (IfSome IsImpacts) (sym m ∙ e.how) tt));
        heights = rw listed told.heights;
        rest = λ m. rw e.rest (told.rest (subst (IfSome IsRest) (sym m ∙ e.how) tt));
      }
