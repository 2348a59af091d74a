-- Demand 3 (promises, specs/Demand.antt) applied: a course with no patch, and one with a patch that the ball does not reach. Assumes nothing.
use Prim.Native.Nat.{ℕ, ◌≤◌}
use native.Mathlib.Omega.{arith}
use mathlib.Core.Path.{◌≡◌, refl}
use mathlib.Core.Bool.{false}
use mathlib.Core.List.{List, [], ◌∷◌, ◌++◌}
use lib.Dec.{T, not_T}
use lib.ListN.{replicate}
use lib.Ieee.{Float, round, neg, le, of_bits, to_bits}
use lib.Ieee.Bits.{is_false}
use Rattle.number.specs.Ops.{dec}
use Rattle.number.specs.Number.{within_of}
use Rattle.number.specs.Order.{le_through}
use Rattle.vector.specs.Vec.{vec, zero3}
use Rattle.surface.specs.Surface.{green}
use Rattle.state.specs.declared.BallState.{BallState}
use Rattle.octets.specs.Octets.{little}
use Rattle.course.specs.Sheet.{Accepted, first, covers, restitution_of, law_of, surface_of, patch_sample, plain_sample, course_of}
use Rattle.shot.specs.Physics.{physics_new}
use Rattle.ground.specs.Settle.{settle_of}
use Rattle.promises.specs.Demand.{demand_3}
use Rattle.bench.specs.Definitions.{definitions}
use Rattle.bench.specs.Given.{bytes_of, bits, surface_fields, sheet_s, at_zero, shot_s}

-- S's sheet, 80 bytes, with a patch of slope 1/2 from 10 to 20 in x and z: 144 bytes
abbrev sheet_t : List ℕ
sheet_t =
    bytes_of 4 (1 ∷ 16 ∷ 1 ∷ 80 ∷ [])
    ++ bytes_of 8 (surface_fields green ++ (bits (dec 10 1) ∷ bits (dec 20 1) ∷ bits (dec 10 1) ∷ bits (dec 20 1)
    ∷ bits (dec 1 1) ∷ bits (dec 1 2) ∷ bits (dec 0 1) ∷ 0 ∷ []))

accepted_s : Accepted sheet_s
unfolding definitions
accepted_s = refl

accepted_t : Accepted sheet_t
unfolding definitions
accepted_t = refl

-- at x = 0 the patch is not met
not_ten : (x : Float) → T (le x (dec 0 1)) → le (dec 10 1) x ≡ false
unfolding round le
not_ten x h = is_false (le (dec 10 1) x) (not_T (le (dec 10 1) x) (λ (k : T (le (dec 10 1) x)). le_through (dec 10 1) x (dec 0 1) k h))

alike : (x z : Float) → le (dec 10 1) x ≡ false → course_of sheet_t x z ≡ course_of sheet_s x z
unfolding course_of first covers within_of patch_sample plain_sample surface_of restitution_of law_of little of_bits to_bits round physics_new
alike x z e = rw e

zeros : ℕ → List Float
zeros n = replicate n (dec 0 1)

ones : ℕ → List Float
ones n = replicate n (dec 1 1)

falling : BallState
falling = record { time = dec 0 1; pos = zero3; vel = vec (dec 0 1) (neg (dec 10 1)) (dec 0 1); spin = zero3 }

too_fast : BallState
too_fast = record { time = dec 0 1; pos = zero3; vel = vec (dec 201 1) (dec 0 1) (dec 0 1); spin = zero3 }

-- answer 0: sheets of different length, different old contents
at_rest : settle_of sheet_t (shot_s 1000 at_zero) (ones 20) (ones 24) ≡ settle_of sheet_s (shot_s 1000 at_zero) (zeros 20) (zeros 24)
unfolding definitions zeros ones
at_rest =
    demand_3 (shot_s 1000 at_zero) sheet_s sheet_t (zeros 20) (zeros 24) (ones 20) (ones 24) accepted_s accepted_t refl refl
    (λ lo hi. absurd (let l : 4 ≤ 0 = lo in omega arith)) (λ x z i j w. alike x z (not_ten x w.1))

-- answer 23
stopped : settle_of sheet_t (shot_s 1 falling) (ones 20) (ones 24) ≡ settle_of sheet_s (shot_s 1 falling) (zeros 20) (zeros 24)
unfolding definitions zeros ones falling
stopped =
    demand_3 (shot_s 1 falling) sheet_s sheet_t (zeros 20) (zeros 24) (ones 20) (ones 24) accepted_s accepted_t refl refl
    (λ lo hi. absurd (let l : 23 ≤ 8 = hi in omega arith)) (λ x z i j w. alike x z (not_ten x w.1))

-- answer 7: the old contents are the same
refused_7 : settle_of sheet_t (shot_s 1000 too_fast) (ones 20) (ones 24) ≡ settle_of sheet_s (shot_s 1000 too_fast) (ones 20) (ones 24)
unfolding definitions ones too_fast
refused_7 =
    demand_3 (shot_s 1000 too_fast) sheet_s sheet_t (ones 20) (ones 24) (ones 20) (ones 24) accepted_s accepted_t refl refl
    (λ lo hi. (refl, refl)) (λ x z i j w. alike x z (not_ten x w.1))

answer_7 : (settle_of sheet_s (shot_s 1000 too_fast) (ones 20) (ones 24)).settled.answer ≡ 7
unfolding definitions ones too_fast
answer_7 = refl

-- answer 8: a list that is not whole records
refused_8 : settle_of sheet_t (shot_s 1000 at_zero) (ones 21) (ones 24) ≡ settle_of sheet_s (shot_s 1000 at_zero) (ones 21) (ones 24)
unfolding definitions ones
refused_8 =
    demand_3 (shot_s 1000 at_zero) sheet_s sheet_t (ones 21) (ones 24) (ones 21) (ones 24) accepted_s accepted_t refl refl
    (λ lo hi. (refl, refl)) (λ x z i j w. alike x z (not_ten x w.1))

answer_8 : (settle_of sheet_s (shot_s 1000 at_zero) (ones 21) (ones 24)).settled.answer ≡ 8
unfolding definitions ones
answer_8 = refl
