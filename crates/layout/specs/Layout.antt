-- Definitions. A board as doubles (include/dimple.h): the pin's x and z, the count, then 256 entries, each shot,
-- bay, termination, contacts, x, z.
use Rattle.std.specs.Prelude.{ℕ, zero, suc, ◌+◌, ◌*◌, Bool, true, ◌&&◌, cond, List, [], ◌∷◌, ◌++◌, ltb, eqb, get_or, Float}
use Rattle.number.specs.Ops.{dec}
use Rattle.number.specs.Number.{about_of}
use Rattle.fields.specs.Fields.{whole_of, nat_of, is_whole, double_at}
use Rattle.state.specs.declared.Termination.{Termination}
use Rattle.state.specs.Numbers.{termination_number}
use Rattle.state.specs.declared.Termination.TheVariants.{Rest, MaxTime, MaxImpacts}
use Rattle.std.specs.Prelude.{Option, Some, None}
use Rattle.board.specs.declared.Board.{Board}
use Rattle.board.specs.declared.Entry.{Entry}
use Rattle.board.specs.Inner.{none}

-- the doubles of an entry, where entry i begins, and the doubles of a board
abbrev pub width : ℕ
width = 6

abbrev pub start : ℕ → ℕ
start i = 3 + width * i

abbrev pub board_length : ℕ
board_length = start 256

-- the termination of a number
unfoldable pub termination_of : ℕ → Option Termination
termination_of n = cond (eqb n 1) (Some Rest) (cond (eqb n 2) (Some MaxTime) (cond (eqb n 3) (Some MaxImpacts) None))

-- an entry that begins at o: shot (u32), bay from 0 to 7, a termination's number from t on, contacts (u32), x, z within ±1,000,000
unfoldable pub entry_ok : List Float → ℕ → ℕ → Bool
entry_ok l t o =
    is_whole 0 4294967295 (double_at l o)
    && (is_whole 0 7 (double_at l (o + 1))
    && (is_whole t 3 (double_at l (o + 2))
    && (is_whole 0 4294967295 (double_at l (o + 3))
    && (about_of (dec 1000000 1) (double_at l (o + 4)) && about_of (dec 1000000 1) (double_at l (o + 5))))))

unfoldable pub entry_at : List Float → ℕ → Entry
entry_at l o =
    record {
      shot = nat_of (double_at l o);
      bay = nat_of (double_at l (o + 1));
      termination = termination_of (nat_of (double_at l (o + 2)));
      contacts = nat_of (double_at l (o + 3));
      x = double_at l (o + 4);
      z = double_at l (o + 5);
    }

-- every entry of a listing has ended somehow; a place past the count may hold 0 as well
unfoldable pub least_at : ℕ → ℕ → ℕ
least_at count i = cond (ltb i count) 1 0

-- the first n places
unfoldable pub entries_ok : List Float → ℕ → ℕ → Bool
entries_ok l count zero = true
entries_ok l count (suc n) = entries_ok l count n && entry_ok l (least_at count n) (start n)

unfoldable pub entries_at : List Float → ℕ → List Entry
entries_at l zero = []
entries_at l (suc n) = entries_at l n ++ (entry_at l (start n) ∷ [])

-- the pin within ±100,000, a count from 0 to 256, and 256 entries
unfoldable pub board_ok : List Float → Bool
board_ok l = about_of (dec 100000 1) (double_at l 0) && about_of (dec 100000 1) (double_at l 1) && is_whole 0 256 (double_at l 2) && entries_ok l
    (nat_of (double_at l 2)) 256

unfoldable pub board_at : List Float → Board
board_at l = record { pin_x = double_at l 0; pin_z = double_at l 1; count = nat_of (double_at l 2); entries = entries_at l 256 }

abbrev pub entry_fields : Entry → List Float
entry_fields e = whole_of e.shot ∷ whole_of e.bay ∷ whole_of (termination_number e.termination) ∷ whole_of e.contacts ∷ e.x ∷ e.z ∷ []

-- the first n entries, one after another
unfoldable pub entries_fields : List Entry → ℕ → List Float
entries_fields es zero = []
entries_fields es (suc n) = entries_fields es n ++ entry_fields (get_or es n none)

unfoldable pub board_fields : Board → List Float
board_fields b = (b.pin_x ∷ b.pin_z ∷ whole_of b.count ∷ []) ++ entries_fields b.entries 256
