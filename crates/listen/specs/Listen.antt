-- Definitions. The bay's microphones (02, paper 14): the times heard, held against a run's contact times.
use Rattle.std.specs.Prelude.{ℕ, zero, suc, ◌+◌, ◌*◌, ◌%◌, Bool, true, not, ◌&&◌, List, [], ◌∷◌, ◌++◌, leb, eqb, length, drop, get_or, Float, Result, Ok, Err}
use Rattle.std.specs.Float.{nan}
use Rattle.std.specs.Float.Ieee.{lt, le}
use Rattle.number.specs.Ops.{◌⊖◌, dec}
use Rattle.std.specs.Prelude.{if◌then◌else◌}
use Rattle.number.specs.Number.{abs_of, within_of}
use Rattle.listen.specs.declared.Mark.{Mark}
use Rattle.listen.specs.declared.Mark.TheVariants.{Paired, HeardOnly, ComputedOnly}
use Rattle.listen.specs.declared.Totals.{Totals}
use Rattle.listen.specs.Answers.{Heard}
use Rattle.refusal.specs.declared.Refusal.{Refusal}
use Rattle.refusal.specs.Refusal.{number_of}

-- ---- the times

-- the first double of each of the first n records, w wide
unfoldable pub firsts : ℕ → ℕ → List Float → List Float
firsts w zero l = []
firsts w (suc n) l = get_or l 0 nan ∷ firsts w n (drop w l)

-- the numbers of a contact. 01: "20 a record: time, pos, .."
abbrev pub record_width : ℕ
record_width = 20

-- the times of the first n contacts of a contact list
abbrev pub contact_times : ℕ → List Float → List Float
contact_times n l = firsts record_width n l

-- ---- the walk: "Walk both lists from the front."

-- "Fronts whose difference in doubles is at most the tolerance"
unfoldable pub near : Float → Float → Float → Bool
near t h c = le (abs_of (h ⊖ c)) t

-- what is marked, turn by turn, with tolerance t
unfoldable pub walk : Float → List Float → List Float → List Mark
walk t [] [] = []
-- "A list left over is marked so."
walk t [] (c ∷ cs) = ComputedOnly ∷ walk t [] cs
walk t (h ∷ hs) [] = HeardOnly ∷ walk t hs []
-- fronts that are near "are paired; otherwise the earlier front is marked as heard only or computed only"
walk t (h ∷ hs) (c ∷ cs) =
    if near t h c then Paired ∷ walk t hs cs else
    if lt h c then HeardOnly ∷ walk t hs (c ∷ cs) else
    ComputedOnly ∷ walk t (h ∷ hs) cs

-- ---- the marks: "one byte each (0 paired, 1 heard only, 2 computed only)"

-- those of the heard times, in their order
unfoldable pub heard_marks : List Mark → List ℕ
heard_marks [] = []
heard_marks (Paired ∷ w) = 0 ∷ heard_marks w
heard_marks (HeardOnly ∷ w) = 1 ∷ heard_marks w
heard_marks (ComputedOnly ∷ w) = heard_marks w

-- those of the contacts, in their order
unfoldable pub contact_marks : List Mark → List ℕ
contact_marks [] = []
contact_marks (Paired ∷ w) = 0 ∷ contact_marks w
contact_marks (HeardOnly ∷ w) = contact_marks w
contact_marks (ComputedOnly ∷ w) = 2 ∷ contact_marks w

-- how often a mark stands in a list of marks
unfoldable pub count : ℕ → List ℕ → ℕ
count k [] = 0
count k (m ∷ l) = if eqb m k then suc (count k l) else count k l

-- ---- the tests

-- a time that is in 0..1,000,000 (no NaN is), and not "lower than the one before"
unfoldable pub time_ok : Float → Float → Bool
time_ok before x = within_of (dec 0 1) (dec 1000000 1) x && not (lt x before)

-- each time of a list, with `before` before the first
unfoldable pub in_order : Float → List Float → Bool
in_order before [] = true
in_order before (x ∷ l) = time_ok before x && in_order x l

-- no time in 0..1,000,000 is lower than 0: the first has none before it
abbrev pub times_ok : List Float → Bool
times_ok l = in_order (dec 0 1) l

-- "the contact list isn't whole records or is shorter than its count"
unfoldable pub contacts_whole : ℕ → ℕ → Bool
contacts_whole len n = eqb (len % record_width) 0 && leb (n * record_width) len

-- "a heard or contact time that is NaN, outside 0..1,000,000 or lower than the one before in its list, or more than 256 heard"
unfoldable pub all_times_ok : List Float → List Float → ℕ → Bool
all_times_ok heard contacts n = leb (length heard) 256 && times_ok heard && times_ok (contact_times n contacts)

-- "a tolerance from 0 to 0.1 s"
unfoldable pub tolerance_ok : Float → Bool
tolerance_ok t = within_of (dec 0 1) (dec 1 10) t

-- the first test that fails, or 0: "Number 8, first .. 39 .. 40 .. 41 a lent mark list shorter than heard times and contacts together"
unfoldable pub refusal_of : List Float → List Float → ℕ → Float → ℕ → ℕ
refusal_of heard contacts n t room =
    if not (contacts_whole (length contacts) n) then 8 else
    if not (all_times_ok heard contacts n) then 39 else
    if not (tolerance_ok t) then 40 else
    if not (leb (length heard + n) room) then 41 else 0

-- ---- the call

-- what is returned, and the mark list
pub record Listen : Type 0 where
  pub heard : Heard
  pub marks : List ℕ

abbrev pub listened : Heard → List ℕ → Listen
listened h marks = record { heard = h; marks = marks }

abbrev pub heard_of : ℕ → ℕ → ℕ → ℕ → Heard
heard_of answer pairs heard_only computed_only = record { answer = answer; pairs = pairs; heard_only = heard_only; computed_only = computed_only }

-- what `listen` returns, so given: where it hears nothing, the totals are 0
abbrev pub heard_by : Result Totals Refusal → Heard
heard_by (Ok t) = heard_of 0 t.pairs t.heard_only t.computed_only
heard_by (Err r) = heard_of (number_of r) 0 0 0

-- of a walk: marks "stand for the heard times first, then the contacts; marks past those stay"; the totals count the marks
unfoldable pub marked : List Mark → List ℕ → Listen
marked w marks =
    let h = heard_marks w in
    let c = contact_marks w in
    listened (heard_of 0 (count 0 h) (count 1 h) (count 2 c)) ((h ++ c) ++ drop (length h + length c) marks)

-- `listen`: on a number "the mark list is untouched", and the totals are 0
unfoldable pub listen_of : List Float → List Float → ℕ → Float → List ℕ → Listen
listen_of heard contacts n t marks =
    let r = refusal_of heard contacts n t (length marks) in
    if not (eqb r 0) then listened (heard_of r 0 0 0) marks else marked (walk t heard (contact_times n contacts)) marks
