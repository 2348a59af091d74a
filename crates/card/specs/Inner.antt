-- Contracts of inner functions. What the writer of a line asks of a contact list.
use Rattle.std.specs.Prelude.{ℕ, ◌+◌, ◌*◌, ◌≤◌, ◌<◌, List, T, length, Float}
use Rattle.tally.specs.Language.{contact_width}
use Rattle.number.specs.Ops.{dec}
use Rattle.number.specs.Number.{about_of}
use Rattle.fields.specs.Fields.{double_at}
use Rattle.card.specs.Card.{value_of}

-- x is of magnitude at most 1,000,000, and the text of k * x fits a column of w bytes
pub record Value (w k : ℕ) (x : Float) : Type 0 where
  pub about : T (about_of (dec 1000000 1) x)
  pub scale : k ≤ 1000
  pub fits : length (value_of k x) ≤ w

-- the three doubles after index o are there, of magnitude at most 1,000,000
pub record Place (cs : List Float) (o : ℕ) : Type 0 where
  pub held : o + 4 ≤ length cs
  pub x : T (about_of (dec 1000000 1) (double_at cs (o + 1)))
  pub y : T (about_of (dec 1000000 1) (double_at cs (o + 2)))
  pub z : T (about_of (dec 1000000 1) (double_at cs (o + 3)))

-- the contact at index i has a number of at most 4 digits, and its time and place are such
pub record Spot (cs : List Float) (i : ℕ) : Type 0 where
  pub number : i + 1 ≤ 9999
  pub time : T (about_of (dec 1000000 1) (double_at cs (contact_width * i)))
  pub place : Place cs (contact_width * i)

-- each of the first n contacts
abbrev pub Printable : List Float → ℕ → Type 0
Printable cs n = (i : ℕ) → i < n → Spot cs i
