-- Definitions. The line that the program settle prints (01, "Lists and the rest of the shop" and "Bench shots"), as bytes in ASCII.
use Rattle.std.specs.Prelude.{ℕ, ◌&&◌, cond, List, [], ◌∷◌, ◌++◌, leb, length, drop}
use Rattle.ground.specs.Settle.{Settled}
use Rattle.state.specs.declared.Termination.{Termination}
use Rattle.std.specs.Prelude.{Option}
use Rattle.text.specs.Text.{decimal_of, word_of}

-- ---- words

-- "answer "
abbrev pub answer_word : List ℕ
answer_word = 97 ∷ 110 ∷ 115 ∷ 119 ∷ 101 ∷ 114 ∷ 32 ∷ []

-- " contacts "
abbrev pub contacts_word : List ℕ
contacts_word = 32 ∷ 99 ∷ 111 ∷ 110 ∷ 116 ∷ 97 ∷ 99 ∷ 116 ∷ 115 ∷ 32 ∷ []

-- " points "
abbrev pub points_word : List ℕ
points_word = 32 ∷ 112 ∷ 111 ∷ 105 ∷ 110 ∷ 116 ∷ 115 ∷ 32 ∷ []

-- " steps "
abbrev pub steps_word : List ℕ
steps_word = 32 ∷ 115 ∷ 116 ∷ 101 ∷ 112 ∷ 115 ∷ 32 ∷ []

-- line feed
abbrev pub line_end : List ℕ
line_end = 10 ∷ []

-- " -" where nothing ended it (20 to 23), " rest", " time", " impacts"
unfoldable pub termination_of : Option Termination → List ℕ
termination_of t = (32 ∷ []) ++ word_of t

-- " contacts C points P steps S"
unfoldable pub counts_of : ℕ → ℕ → ℕ → List ℕ
counts_of c p s = ((contacts_word ++ decimal_of c) ++ (points_word ++ decimal_of p)) ++ (steps_word ++ decimal_of s)

-- ---- the line

-- "answer N" where the input was refused (1 to 8 and 12), else "answer N T contacts C points P steps S"
unfoldable pub shown_of : Settled → List ℕ
shown_of r =
    cond (leb 1 r.answer && leb r.answer 12)
    ((answer_word ++ decimal_of r.answer) ++ line_end)
    ((((answer_word ++ decimal_of r.answer) ++ termination_of r.termination) ++ counts_of r.contacts r.points r.steps) ++ line_end)

-- how many bytes were written, and the list as it is then
pub record Wrote : Type 0 where
  pub count : ℕ
  pub bytes : List ℕ

abbrev pub wrote : ℕ → List ℕ → Wrote
wrote n l = record { count = n; bytes = l }

-- t at the start of l, and what stands past it as it was
unfoldable pub written_line : List ℕ → List ℕ → Wrote
written_line t l = wrote (length t) (t ++ drop (length t) l)
