-- Statements. The starred shots of 01, "Bench shots", as one table: the lines that the program settle prints, computed from the definitions.
-- With the starred numbers, root(4) = 2 and three more (Numbers.antt), they are `bench-table`.
use Rattle.std.specs.Prelude.{ℕ, ◌≡◌, List, [], ◌∷◌, set, take}
use Prim.Native.String.{String}
use Rattle.std.specs.Float.{nan}
use Rattle.std.specs.Float.Ieee.{neg}
use Rattle.number.specs.Ops.{dec}
use Rattle.input.specs.Input.{program_of}
use Rattle.line.specs.Line.{shown_of}
use Rattle.bench.specs.Given.{bits, line_text, dt_at, max_time_at, max_impacts_at, mass_at, density_at, vel_y_at, input_of, fields_s, sheet_s}

-- an input, and the line that it gives
pub record Shot : Type 0 where
  pub input : List ℕ
  pub line : List ℕ

abbrev pub shot : List ℕ → List ℕ → String → Shot
shot fields sheet text = record { input = input_of fields sheet; line = line_text text }

-- S, vel (0, −10, 0)
abbrev pub falling : List ℕ
falling = set fields_s vel_y_at (bits (neg (dec 10 1)))

abbrev pub table : List Shot
table =
    -- S
    shot fields_s sheet_s "answer 0 rest contacts 1 points 2 steps 1"
    -- S, max_time 0
    ∷ shot (set fields_s max_time_at (bits (dec 0 1))) sheet_s "answer 0 time contacts 1 points 1 steps 0"
    -- S, vel (0, −10, 0), max_impacts 0
    ∷ shot (set falling max_impacts_at 0) sheet_s "answer 0 impacts contacts 1 points 1 steps 0"
    -- 1 gives the same
    ∷ shot (set falling max_impacts_at 1) sheet_s "answer 0 impacts contacts 1 points 1 steps 0"
    -- 79 bytes of sheet
    ∷ shot fields_s (take 79 sheet_s) "answer 1"
    -- mass 0
    ∷ shot (set fields_s mass_at (bits (dec 0 1))) sheet_s "answer 5"
    -- dt 0
    ∷ shot (set fields_s dt_at (bits (dec 0 1))) sheet_s "answer 4"
    -- NaN density
    ∷ shot (set fields_s density_at (bits nan)) sheet_s "answer 6"
    ∷ []

-- each input of the list gives its line
abbrev pub Prints : List Shot → Type 0
Prints [] = Unit {0}
Prints (s ∷ l) = (shown_of (program_of s.input) ≡ s.line) × Prints l
