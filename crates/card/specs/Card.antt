-- Definitions. The printed shot card (02, paper 1), as bytes in ASCII: "The call takes a settle's input and lists, makes the run and, if that
-- finished, writes lines of exactly 60 bytes, the last being a line feed: one heading line, then one line a contact."
use Rattle.std.specs.Prelude.{ℕ, zero, suc, ◌+◌, ◌-◌, ◌*◌, ◌&&◌, cond, List, [], ◌∷◌, ◌++◌, leb, ltb, eqb, length, drop, Float}
use Rattle.std.specs.Float.Ieee.{lt}
use Rattle.tally.specs.Language.{contact_width}
use Rattle.number.specs.Ops.{dec}
use Rattle.state.specs.declared.Termination.{Termination}
use Rattle.std.specs.Prelude.{Option}
use Rattle.ground.specs.Settle.{Result, Settled, result_of, told_by}
use Rattle.std.specs.Prelude.{Result as RustResult, Ok, Err}
use Rattle.refusal.specs.declared.Refusal.{Refusal}
use Rattle.refusal.specs.Refusal.{number_of}
use Rattle.card.specs.declared.ShotCard.{ShotCard}
use Rattle.fields.specs.Fields.{double_at}
use Rattle.input.specs.Input.{settle_input_of}
use Rattle.rounding.specs.Rounded.{rounded_of}
use Rattle.text.specs.Text.{blanks, decimal_of, signed_of, right_of, word_of}

-- ---- a value

-- the whole number nearest k * x: "The exact values are rounded to nearest, halves away from zero, a rounded zero has no sign"
unfoldable pub value_of : ℕ → Float → List ℕ
value_of k x = let n = rounded_of k x in signed_of (lt x (dec 0 1) && ltb 0 n) n

-- ---- lines

-- line feed
abbrev pub line_end : List ℕ
line_end = 10 ∷ []

-- "The heading is the termination word, then spaces"
unfoldable pub heading_line : Option Termination → List ℕ
heading_line t = (word_of t ++ blanks (59 - length (word_of t))) ++ line_end

-- "x, y, z in centimetres (14 each), all right-aligned with spaces": the three doubles after index o of a contact list
unfoldable pub place_at : List Float → ℕ → List ℕ
place_at cs o =
    (right_of 14 (value_of 100 (double_at cs (o + 1))) ++ right_of 14 (value_of 100 (double_at cs (o + 2)))) ++ right_of 14 (value_of 100 (double_at cs (o + 3)))

-- "Each contact line has the contact number (4 wide), time in milliseconds (11), and x, y, z ..., then two spaces". The contact at index i of a contact
-- list, whose records begin with time and pos; "Contact numbers start at 1"
unfoldable pub contact_at : List Float → ℕ → List ℕ
contact_at cs i =
    ((right_of 4 (decimal_of (i + 1)) ++ right_of 11 (value_of 1000 (double_at cs (contact_width * i)))) ++ place_at cs (contact_width * i)) ++ (blanks 2 ++ line_end)

-- the lines of the first n contacts
unfoldable pub lines_of : List Float → ℕ → List ℕ
lines_of cs zero = []
lines_of cs (suc i) = lines_of cs i ++ contact_at cs i

-- the lines of a finished run
unfoldable pub text_of : Result → List ℕ
text_of w = heading_line w.settled.termination ++ lines_of w.contacts w.settled.contacts

-- ---- the call

-- "30 when the lent page is too short for all lines .. lists and the rest of the result are the run's"
abbrev pub too_short : Settled → Settled
too_short s = record {
  answer = 30;
  termination = s.termination;
  contacts = s.contacts;
  points = s.points;
  steps = s.steps;
  evaluations = s.evaluations;
  rest = s.rest;
  rect = s.rect;
}

-- the code's result: the settle's, with the refusal's number where the page is too short
abbrev pub printed_by : RustResult Unit Refusal → Settled → Settled
printed_by (Ok tt) s = s
printed_by (Err r) s = record (too_short s) { answer = number_of r }

abbrev pub card_by : ShotCard → Settled
card_by c = printed_by c.printed (told_by c.settled)

-- all that a call gives: the result, both lists, the page
pub record Carded : Type 0 where
  pub run : Result
  pub page : List ℕ

abbrev pub carded : Result → List ℕ → Carded
carded w page = record { run = w; page = page }

-- a finished run: "Bytes past the last line stay"; the page is "tested after the run"
unfoldable pub printed_of : Result → List ℕ → Carded
printed_of w page =
    cond (leb (60 * (1 + w.settled.contacts)) (length page))
    (carded w (text_of w ++ drop (length (text_of w)) page))
    (carded (result_of (too_short w.settled) w.contacts w.points) page)

-- "A run that did not finish gives its own number and an untouched page"
unfoldable pub card_of : List ℕ → List Float → List Float → List ℕ → Carded
card_of input cs ps page =
    let w = settle_input_of input cs ps in
    cond (eqb w.settled.answer 0) (printed_of w page) (carded w page)
