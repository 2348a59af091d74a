-- Definitions. What the board's exported functions give: the answer and the lent list (include/dimple.h). 100 for a length that is not the one named,
-- 101 for doubles that are no board, 102 for a number that is no termination's.
use Rattle.std.specs.Prelude.{ℕ, ◌&&◌, cond, List, [], ◌∷◌, eqb, length, Float}
use Rattle.fields.specs.Fields.{whole_of, written}
use Rattle.board.specs.Board.{new_of, place_of}
use Rattle.board.specs.Answers.{Entered}
use Rattle.layout.specs.Layout.{board_length, board_ok, board_at, board_fields}
use Rattle.layout.specs.Sent.{Sent, sent_of}
use Rattle.capi.specs.Doors.{Door, door}
use Rattle.capi.specs.declared.SentEntry.{SentEntry}

-- dimple_board_new: 0 or 9, with the board that `Board::new` gives
unfoldable pub new_door_of : Float → Float → List Float → Door
new_door_of px pz l = cond (eqb (length l) board_length) (let e = new_of px pz in door e.answer (board_fields e.board)) (door 100 l)

-- the code's entry
abbrev pub sent_by : SentEntry → Sent
sent_by s = record { bay = s.bay; shot = s.shot; termination = s.termination; contacts = s.contacts; x = s.x; z = s.z }

-- the board is changed on answer 0 alone
unfoldable pub entered : Entered → List Float → Door
entered e l = cond (eqb e.answer 0) (door 0 (board_fields e.board)) (door e.answer l)

-- dimple_board_enter: 100, 101, 102, then 0, 31, 10, 25, 24
unfoldable pub enter_door_of : List Float → Sent → Door
enter_door_of l s = cond (eqb (length l) board_length) (cond (board_ok l) (entered (sent_of (board_at l) s) l) (door 101 l)) (door 100 l)

-- dimple_board_place: 0 with the shot number, or 26 with 0
unfoldable pub place_door_of : List Float → ℕ → List Float → Door
place_door_of l i out =
    cond (eqb (length l) board_length && eqb (length out) 1)
    (cond (board_ok l) (let p = place_of (board_at l) i in door p.answer (written out 0 (whole_of p.shot ∷ []))) (door 101 out))
    (door 100 out)
