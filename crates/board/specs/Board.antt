-- Definitions. The board's calls (01, "Lists and the rest of the shop"; numbers 9, 10, 24, 25, 26, 31): a board holds its listing in the first places
-- of an array, and each call is that of Rules on the listing.
use Rattle.std.specs.Prelude.{ℕ, zero, suc, ◌&&◌, cond, List, ◌++◌, map, ltb, length, take, drop, get_or, replicate, Float, Result, Ok, Err}
use Rattle.number.specs.Ops.{dec}
use Rattle.number.specs.Number.{about_of}
use Rattle.std.specs.Prelude.{None}
use Rattle.board.specs.declared.Entry.{Entry}
use Rattle.board.specs.declared.Board.{Board}
use Rattle.refusal.specs.declared.Refusal.{Refusal}
use Rattle.refusal.specs.Refusal.{number_of}
use Rattle.board.specs.Answers.{Entered, Placed}
use Rattle.board.specs.Rules.{is_before, answer_of, insert}

-- the entries of a board, in the order of the listing
abbrev pub listing : Board → List Entry
listing b = take b.count b.entries

-- the board with another listing; the places past it stay as they are
unfoldable pub with_listing : Board → List Entry → Board
with_listing b l =
    record { pin_x = b.pin_x; pin_z = b.pin_z; count = length l; entries = l ++ drop (length l) b.entries }

abbrev pub empty_entry : Entry
empty_entry = record { shot = 0; bay = 0; termination = None; contacts = 0; x = dec 0 1; z = dec 0 1 }

abbrev pub empty_board : Float → Float → Board
empty_board px pz = record { pin_x = px; pin_z = pz; count = 0; entries = replicate 256 empty_entry }

abbrev pub answered : ℕ → Board → Entered
answered n b = record { answer = n; board = b }

-- `Board::new`: 9 for a pin beyond ±100,000, "no board is made: empty, pin 0"
unfoldable pub new_of : Float → Float → Entered
new_of px pz =
    cond (about_of (dec 100000 1) px && about_of (dec 100000 1) pz) (answered 0 (empty_board px pz)) (answered 9 (empty_board (dec 0 1) (dec 0 1)))

-- what `Board::new` returns, so given: where it makes no board, an empty one with its pin at 0
abbrev pub new_by : Result Board Refusal → Entered
new_by (Ok b) = answered 0 b
new_by (Err r) = answered (number_of r) (empty_board (dec 0 1) (dec 0 1))

-- the board with one entry more
unfoldable pub with_entry : Board → Entry → Board
with_entry b e = with_listing b (insert (is_before b.pin_x b.pin_z e) e (listing b))

-- on a number "the board is unchanged"
abbrev pub given : Board → Entry → ℕ → Entered
given b e zero = answered 0 (with_entry b e)
given b e (suc n) = answered (suc n) b

-- `Board::enter`
unfoldable pub enter_of : Board → Entry → Entered
enter_of b e = given b e (answer_of (listing b) e)

abbrev pub placed : ℕ → ℕ → Placed
placed a n = record { answer = a; shot = n }

-- the shot numbers, in the order of the listing
abbrev pub shots : List Entry → List ℕ
shots l = map (λ (e : Entry). e.shot) l

-- `Board::place`: the shot number at a place from 0, or 26 and shot number 0
unfoldable pub place_of : Board → ℕ → Placed
place_of b i = cond (ltb i (length (listing b))) (placed 0 (get_or (shots (listing b)) i 0)) (placed 26 0)

-- what `Board::place` returns, so given: where there is no shot, number 0
abbrev pub placed_by : Result ℕ Refusal → Placed
placed_by (Ok n) = placed 0 n
placed_by (Err r) = placed (number_of r) 0
