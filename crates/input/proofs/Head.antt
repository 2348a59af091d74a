-- Lemmas. A field that stands in the first bytes of an input is that field of the whole.
use Rattle.std.specs.Prelude.{ℕ, zero, suc, ◌+◌, ◌*◌, ◌≤◌, ◌<◌, ◌≡◌, refl, Bool, true, List, ltb, take}
use Rattle.std.proofs.Common.{arith, ap, ltb-true}
use Rattle.std.proofs.lemmas.List.{get_or-take}
use Rattle.std.specs.Float.{binary64}
use Rattle.std.specs.Float.Ieee.{of_bits}
use Rattle.octets.specs.Octets.{little}
use Rattle.input.specs.Input.{whole_at, real_at, vec_at, physics_at, ball_at, landing_at, shot_by}

little_of_head : (h n o : ℕ) (s : List ℕ) → o + n ≤ h → little n (take h s) o ≡ little n s o
unfolding little
little_of_head h zero o s l = refl
little_of_head h (suc n) o s l = rw (little_of_head h n o s (omega arith), get_or-take h s (o + n) 0 (omega arith))

pub whole_of_head : (h i : ℕ) (s : List ℕ) → 8 * i + 8 ≤ h → whole_at (take h s) i ≡ whole_at s i
whole_of_head h i s l = little_of_head h 8 (8 * i) s l

module _ (s : List ℕ) where
  whole : (i : ℕ) → ltb i 30 ≡ true → whole_at (take 240 s) i ≡ whole_at s i
  whole i l =
      let k : i < 30 = ltb-true i 30 l in
      whole_of_head 240 i s (omega arith)

  real : (i : ℕ) → ltb i 30 ≡ true → real_at (take 240 s) i ≡ real_at s i
  unfolding real_at
  real i l = ap (of_bits binary64) (whole i l)

  pub shot_of_head : (fading : Bool) → shot_by fading (take 240 s) ≡ shot_by fading s
  unfolding shot_by physics_at ball_at landing_at vec_at
  shot_of_head fading =
      rw (
        whole 5 refl,
        whole 6 refl,
        real 0 refl,
        real 1 refl,
        real 2 refl,
        real 3 refl,
        real 4 refl,
        real 7 refl,
        real 8 refl,
        real 9 refl,
        real 10 refl,
        real 11 refl,
        real 12 refl,
        real 13 refl,
        real 14 refl,
        real 15 refl,
        real 16 refl,
        real 17 refl,
        real 18 refl,
        real 19 refl,
        real 20 refl,
        real 21 refl,
        real 22 refl,
        real 23 refl,
        real 24 refl,
        real 25 refl,
        real 26 refl,
        real 27 refl,
        real 28 refl,
        real 29 refl,
      )
