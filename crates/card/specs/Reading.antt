-- Statements. What a column prints is read back as the rounded value: its sign and its digits in base ten.
use Rattle.std.specs.Prelude.{ℕ, zero, suc, ◌-◌, ◌≤◌, ◌<◌, ◌≡◌, refl, Bool, true, false, ◌&&◌, cond, List, [], ◌∷◌, ◌++◌, T, eqb, ltb, Float, length, get_or}
use Rattle.std.proofs.Common.{arith, ap, ◌∙◌, ne_eqb}
use Rattle.std.specs.Float.Ieee.{lt}
use Rattle.number.specs.Ops.{dec}
use Rattle.number.specs.Number.{about_of}
use Rattle.rounding.specs.Rounded.{rounded_of, at_most}
use Rattle.text.specs.Text.{blanks, decimal_in, decimal_of, signed_of, right_of}
use Rattle.text.specs.Decimal.{read_from, Digits, read_back, digits_only, no_leading_zero}
use Rattle.card.specs.Card.{value_of}

-- whether a minus sign was read, and the number
pub record Read : Type 0 where
  pub minus : Bool
  pub number : ℕ

abbrev pub read : Bool → ℕ → Read
read b n = record { minus = b; number = n }

-- spaces are passed over, then comes a minus sign or none, then digits
unfoldable pub read_column : List ℕ → Read
read_column [] = read false 0
read_column (c ∷ l) = cond (eqb c 32) (read_column l) (cond (eqb c 45) (read true (read_from 0 l)) (read false (read_from 0 (c ∷ l))))

past_blanks : (k : ℕ) (t : List ℕ) → read_column (blanks k ++ t) ≡ read_column t
unfolding read_column
past_blanks zero t = refl
past_blanks (suc k) t = past_blanks k t

digits_read : (l : List ℕ) → Digits l → 0 < get_or l 0 0 → read_column l ≡ read false (read_from 0 l)
unfolding read_column
digits_read [] d h = absurd (omega arith)
digits_read (c ∷ l) d h =
    let a = d.0.0 in
    let i : c ≡ 32 → ⊥ = λ e. omega arith in
    let j : c ≡ 45 → ⊥ = λ e. omega arith in
    rw (ne_eqb c 32 i, ne_eqb c 45 j)

first_digit : (n : ℕ) → n < 100000000000000000000 → 0 < get_or (decimal_of n) 0 0
unfolding decimal_of decimal_in
first_digit zero h = omega arith
first_digit (suc n) h = let k = no_leading_zero (suc n) h (omega arith) in omega (arith, k)

pub column_reads : (w : ℕ) (b : Bool) (n : ℕ) → n < 100000000000000000000 → read_column (right_of w (signed_of b n)) ≡ read b n
unfolding right_of read_column signed_of
column_reads w b n h = past_blanks (w - length (signed_of b n)) (signed_of b n) ∙ go b
  where
    go : (b : Bool) → read_column (signed_of b n) ≡ read b n
    go true = ap (read true) (read_back n h)
    go false = digits_read (decimal_of n) (digits_only n h) (first_digit n h) ∙ ap (read false) (read_back n h)

-- of every value that a finished run prints
pub value_reads : (w k : ℕ) (x : Float) → T (about_of (dec 1000000 1) x) → k ≤ 1000
    → read_column (right_of w (value_of k x)) ≡ read (lt x (dec 0 1) && ltb 0 (rounded_of k x)) (rounded_of k x)
unfolding value_of
value_reads w k x h K = let n = at_most k x h in column_reads w (lt x (dec 0 1) && ltb 0 (rounded_of k x)) (rounded_of k x) (omega arith)
