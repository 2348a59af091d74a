-- Definitions. What `dimple_card` gives: its answer and all that it was lent (include/dimple.h).
use Rattle.std.specs.Prelude.{ℕ, List, Float}
use Rattle.card.specs.Card.{card_of}
use Rattle.capi.specs.Doors.{reported}

pub record CardDoor : Type 0 where
  pub answer : ℕ
  pub contacts : List Float
  pub points : List Float
  pub result : List Float
  pub page : List ℕ

abbrev pub card_door : ℕ → List Float → List Float → List Float → List ℕ → CardDoor
card_door a c p r page = record { answer = a; contacts = c; points = p; result = r; page = page }

-- the settle of the input, printed on the page, and its result: that of dimple_settle, with 30 for its number where the page is too short
unfoldable pub card_door_of : List ℕ → List Float → List Float → List Float → List ℕ → CardDoor
card_door_of input c p l page =
    let w = card_of input c p page in
    card_door w.run.settled.answer w.run.contacts w.run.points (reported w.run.settled l) w.page
