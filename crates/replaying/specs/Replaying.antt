-- Definitions. A replay of one entry of the fixed list of the reference's answers (compare/README.md, "The fixed list"): 25 words of 8 bytes, then an input.
use Rattle.std.specs.Prelude.{ℕ, ◌+◌, ◌-◌, ◌%◌, ◌^◌, Bool, true, cond, not, ◌&&◌, List, [], ◌∷◌, ◌++◌, map, length, drop, replicate, ◌==◌, is_nan, nat_le, to_bits, Float}
use Rattle.std.specs.Float.{binary64}
use Rattle.number.specs.Ops.{dec}
use Rattle.look.specs.Rect.{sides_of}
use Rattle.fields.specs.Fields.{state_fields}
use Rattle.ground.specs.Settle.{Result}
use Rattle.state.specs.Numbers.{termination_number}
use Rattle.ground.specs.Settle.{Settled}
use Rattle.input.specs.Input.{whole_at, settle_input_of}
use Rattle.replaying.specs.declared.Sums.{Sums}
use Rattle.replaying.specs.declared.Replayed.{Replayed}
use Rattle.replaying.specs.declared.Replayed.TheVariants.{Same, Differs, Damaged}

-- ---- the words 3 to 24 of an outcome

-- a double's bits; those of a NaN are free, and all ones stand for them
unfoldable pub bits_of : Float → ℕ
bits_of v = cond (is_nan v) (2 ^ 64 - 1) (to_bits binary64 v)

-- for each double a = a + its bits, then b = b + a, both modulo 2^64
unfoldable pub sums_of : Sums → List Float → Sums
sums_of s [] = s
sums_of s (v ∷ vs) = let a = (s.a + bits_of v) % 2 ^ 64 in sums_of (record { a = a; b = (s.b + a) % 2 ^ 64 }) vs

-- 3 to 8
abbrev pub count_words : Settled → List ℕ
count_words s = s.answer ∷ termination_number s.termination ∷ s.contacts ∷ s.points ∷ s.steps ∷ s.evaluations ∷ []

-- the doubles of 9 to 22: the final state's ten, the rectangle's four
abbrev pub doubles_of : Settled → List Float
doubles_of s = state_fields s.rest ++ sides_of s.rect

-- 23 and 24
abbrev pub sum_words : List Float → List Float → List ℕ
sum_words contacts points = let s = sums_of (record { a = 0; b = 0 }) (contacts ++ points) in s.a ∷ s.b ∷ []

unfoldable pub words_of : Result → List ℕ
words_of r = count_words r.settled ++ (map bits_of (doubles_of r.settled) ++ sum_words r.contacts r.points)

-- ---- the comparison

-- the entry's words from word i on are these
unfoldable pub holds : List ℕ → ℕ → List ℕ → Bool
holds e i [] = true
holds e i (w ∷ ws) = w == whole_at e i && holds e (i + 1) ws

unfoldable pub no_nan : List Float → Bool
no_nan [] = true
no_nan (v ∷ vs) = not (is_nan v) && no_nan vs

unfoldable pub same_of : List ℕ → Result → Bool
same_of e r = no_nan (doubles_of r.settled) && holds e 3 (words_of r)

-- word 0 is the input's length, and the words 1 and 2 are lengths that can be lent
unfoldable pub intact : List ℕ → Bool
intact e = nat_le 200 (length e) && whole_at e 0 == length e - 200 && nat_le (whole_at e 1) 1300 && nat_le (whole_at e 2) 7692

-- every lent double is 1.0 before the call
unfoldable pub replayed_of : List ℕ → Replayed
replayed_of e =
    cond (intact e)
    (cond (same_of e (settle_input_of (drop 200 e) (replicate (whole_at e 1) (dec 1 1)) (replicate (whole_at e 2) (dec 1 1)))) Same Differs)
    Damaged
