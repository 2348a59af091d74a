-- Statements. Every value of magnitude at most 1,000,000 fits its column, and every line is 60 bytes long.
use Rattle.std.specs.Prelude.{ℕ, zero, suc, ◌+◌, ◌-◌, ◌*◌, ◌^◌, ◌≤◌, ◌<◌, ◌≡◌, refl, Bool, true, false, ◌&&◌, List, T, ltb, length, Float}
use Rattle.std.proofs.Common.{arith, length-append}
use Rattle.std.proofs.lemmas.List.{length-replicate}
use Rattle.std.specs.Float.Ieee.{lt}
use Rattle.tally.specs.Language.{contact_width}
use Rattle.number.specs.Ops.{dec}
use Rattle.number.specs.Number.{about_of}
use Rattle.state.specs.declared.Termination.{Termination}
use Rattle.state.specs.declared.Termination.TheVariants.{Rest, MaxTime, MaxImpacts}
use Rattle.std.specs.Prelude.{Option, Some, None}
use Rattle.fields.specs.Fields.{double_at}
use Rattle.rounding.specs.Rounded.{rounded_of, at_most}
use Rattle.text.specs.Text.{blanks, decimal_of, signed_of, right_of, word_of}
use Rattle.text.specs.Decimal.{at_most as few-digits}
use Rattle.card.specs.Card.{value_of, place_at, heading_line, contact_at, lines_of}
use Rattle.card.specs.Inner.{Value, Place, Spot, Printable}

-- a sign and v + 1 digits
signed_fits : (b : Bool) (n v : ℕ) → n < 100000000000000000000 → n < 10 ^ suc v → length (signed_of b n) ≤ suc (suc v)
unfolding signed_of
signed_fits true n v t h = let k = few-digits n t v h in omega arith
signed_fits false n v t h = let k = few-digits n t v h in omega arith

value_fits : (k : ℕ) (x : Float) (v : ℕ) → T (about_of (dec 1000000 1) x) → k ≤ 1000 → k * 1000000 < 10 ^ suc v → length (value_of k x) ≤ suc (suc v)
unfolding value_of
value_fits k x v h K b = let n = at_most k x h in signed_fits (lt x (dec 0 1) && ltb 0 (rounded_of k x)) (rounded_of k x) v (omega arith) (omega arith)

-- the three kinds of column
pub number_fits : (n : ℕ) → n ≤ 9999 → length (decimal_of n) ≤ 4
number_fits n h = few-digits n (omega arith) 3 (omega arith)

pub time_fits : (x : Float) → T (about_of (dec 1000000 1) x) → Value 11 1000 x
time_fits x h = record { about = h; scale = omega arith; fits = value_fits 1000 x 9 h (omega arith) (omega arith) }

pub place_fits : (x : Float) → T (about_of (dec 1000000 1) x) → Value 14 100 x
place_fits x h = record { about = h; scale = omega arith; fits = let k = value_fits 100 x 8 h (omega arith) (omega arith) in omega arith }

-- the texts of a contact, none wider than its column
pub record Fit (cs : List Float) (i : ℕ) : Type 0 where
  pub number : length (decimal_of (i + 1)) ≤ 4
  pub time : length (value_of 1000 (double_at cs (contact_width * i))) ≤ 11
  pub x : length (value_of 100 (double_at cs (contact_width * i + 1))) ≤ 14
  pub y : length (value_of 100 (double_at cs (contact_width * i + 2))) ≤ 14
  pub z : length (value_of 100 (double_at cs (contact_width * i + 3))) ≤ 14

pub spot_fits : (cs : List Float) (i : ℕ) → Spot cs i → Fit cs i
spot_fits cs i s =
    let p = s.place in
    record {
      number = number_fits (i + 1) s.number;
      time = (time_fits _ s.time).fits;
      x = (place_fits _ p.x).fits;
      y = (place_fits _ p.y).fits;
      z = (place_fits _ p.z).fits;
    }

-- ---- lines

right_long : (w : ℕ) (t : List ℕ) → length t ≤ w → length (right_of w t) ≡ w
unfolding right_of
right_long w t h = omega (arith, length-append (blanks (w - length t)) t, length-replicate {A = ℕ} (w - length t) 32)

pub heading_60 : (t : Option Termination) → length (heading_line t) ≡ 60
unfolding heading_line word_of
heading_60 None = refl
heading_60 (Some Rest) = refl
heading_60 (Some MaxTime) = refl
heading_60 (Some MaxImpacts) = refl

place_42 : (cs : List Float) (o : ℕ) → Place cs o → length (place_at cs o) ≡ 42
unfolding place_at
place_42 cs o s =
    let x = right_long 14 (value_of 100 (double_at cs (o + 1))) (place_fits _ s.x).fits in
    let y = right_long 14 (value_of 100 (double_at cs (o + 2))) (place_fits _ s.y).fits in
    let z = right_long 14 (value_of 100 (double_at cs (o + 3))) (place_fits _ s.z).fits in
    simp (length-append, x, y, z)

pub line_60 : (cs : List Float) (i : ℕ) → Spot cs i → length (contact_at cs i) ≡ 60
unfolding contact_at
line_60 cs i s =
    let n = right_long 4 (decimal_of (i + 1)) (number_fits (i + 1) s.number) in
    let t = right_long 11 (value_of 1000 (double_at cs (contact_width * i))) (time_fits _ s.time).fits in
    let p = place_42 cs (contact_width * i) s.place in
    simp (length-append, n, t, p)

pub lines_60 : (cs : List Float) (n : ℕ) → Printable cs n → length (lines_of cs n) ≡ 60 * n
unfolding lines_of
lines_60 cs zero h = refl
lines_60 cs (suc n) h =
    let a = lines_60 cs n (λ i l. h i (omega arith)) in
    let b = line_60 cs n (h n (omega arith)) in
    omega (arith, length-append (lines_of cs n) (contact_at cs n))
