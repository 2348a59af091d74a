-- Definitions. An entry as the numbers that dimple_board_enter is handed (include/dimple.h): 102 for a number that is no termination's.
use Rattle.std.specs.Prelude.{ℕ, Bool, ◌&&◌, cond, leb, Float, Option, Result, Ok, Err}
use Rattle.refusal.specs.declared.Refusal.{Refusal}
use Rattle.refusal.specs.declared.Refusal.TheVariants.{NoTermination}
use Rattle.state.specs.declared.Termination.{Termination}
use Rattle.board.specs.Board.{answered, enter_of}
use Rattle.board.specs.declared.Entry.{Entry}
use Rattle.board.specs.declared.Board.{Board}
use Rattle.board.specs.Answers.{Entered}
use Rattle.layout.specs.Layout.{termination_of}

-- what dimple_board_enter is handed beside the board
pub record Sent : Type 0 where
  pub bay : ℕ
  pub shot : ℕ
  pub termination : ℕ
  pub contacts : ℕ
  pub x : Float
  pub z : Float

abbrev pub sent_entry : Sent → Entry
sent_entry s = record { shot = s.shot; bay = s.bay; termination = termination_of s.termination; contacts = s.contacts; x = s.x; z = s.z }

-- the termination is one of 1 to 3
unfoldable pub is_end : ℕ → Bool
is_end n = leb 1 n && leb n 3

-- the termination of a run that ended, or the refusal that 102 stands for
abbrev pub end_of : ℕ → Result (Option Termination) Refusal
end_of n = cond (is_end n) (Ok (termination_of n)) (Err NoTermination)

-- 102 comes before the numbers of `Board::enter`, and changes nothing
unfoldable pub sent_of : Board → Sent → Entered
sent_of b s = cond (is_end s.termination) (enter_of b (sent_entry s)) (answered 102 b)
