-- Definitions. Text as bytes in ASCII: numbers in decimal, columns, the words of a termination; and what it is to write text at a place.
use Rattle.std.specs.Prelude.{ℕ, zero, suc, ◌+◌, ◌-◌, ◌/◌, ◌%◌, ◌≤◌, ◌≡◌, Bool, cond, List, [], ◌∷◌, ◌++◌, ltb, length, take, drop, replicate}
use Rattle.state.specs.declared.Termination.{Termination}
use Rattle.state.specs.declared.Termination.TheVariants.{Rest, MaxTime, MaxImpacts}
use Rattle.std.specs.Prelude.{Option, Some, None}

-- ---- numbers

-- the decimal digits of n, the most significant first: the last k digits, without leading zeros
unfoldable pub decimal_in : ℕ → ℕ → List ℕ
decimal_in zero n = []
decimal_in (suc k) n = cond (ltb n 10) ((48 + n) ∷ []) (decimal_in k (n / 10) ++ ((48 + n % 10) ∷ []))

-- a u64 has at most 20
unfoldable pub decimal_of : ℕ → List ℕ
decimal_of n = decimal_in 20 n

-- "-" before it where `minus`
unfoldable pub signed_of : Bool → ℕ → List ℕ
signed_of minus n = cond minus (45 ∷ decimal_of n) (decimal_of n)

-- ---- columns

-- n spaces
abbrev pub blanks : ℕ → List ℕ
blanks n = replicate n 32

-- right-aligned with spaces in w bytes; a longer text stays whole
unfoldable pub right_of : ℕ → List ℕ → List ℕ
right_of w t = blanks (w - length t) ++ t

-- ---- words

-- 01, "Result of a settle": "termination (`rest`, `time`, `impacts`, or `-` on a refusal)"
unfoldable pub word_of : Option Termination → List ℕ
word_of None = 45 ∷ []
word_of (Some Rest) = 114 ∷ 101 ∷ 115 ∷ 116 ∷ []
word_of (Some MaxTime) = 116 ∷ 105 ∷ 109 ∷ 101 ∷ []
word_of (Some MaxImpacts) = 105 ∷ 109 ∷ 112 ∷ 97 ∷ 99 ∷ 116 ∷ 115 ∷ []

-- ---- what inner functions give

-- t is written from index o of l on: m is what stands then, and r the index after it
pub record Adds (l : List ℕ) (o : ℕ) (t : List ℕ) (r : ℕ) (m : List ℕ) : Type 0 where
  pub next : r ≡ o + length t
  pub same : m ≡ take o l ++ (t ++ drop r l)
  pub fits : r ≤ length l
  pub long : length m ≡ length l

-- the same, with at most w bytes
pub record Puts (w : ℕ) (l : List ℕ) (o : ℕ) (t : List ℕ) (r : ℕ) (m : List ℕ) : Type 0 where
  pub adds : Adds l o t r m
  pub most : length t ≤ w

-- the same, with w bytes
pub record Fills (w : ℕ) (l : List ℕ) (o : ℕ) (t : List ℕ) (r : ℕ) (m : List ℕ) : Type 0 where
  pub adds : Adds l o t r m
  pub wide : length t ≡ w
