-- Definitions. What the door to a look's guess tells.
use Rattle.std.specs.Prelude.{ℕ, cond, List, eqb, replicate, Float}
use Rattle.sheet.specs.Sheet.{answer_of}
use Rattle.index.specs.Index.{index_words, cuts_in, is_guessed}

-- 100 for a sheet that is refused; 1 where the spot is in the column and the row that the sheet's index guesses, else 0
unfoldable pub guess_look_of : List ℕ → Float → Float → ℕ
guess_look_of s x z = cond (eqb (answer_of s) 0) (cond (is_guessed (cuts_in s (replicate index_words 0)) x z) 1 0) 100
