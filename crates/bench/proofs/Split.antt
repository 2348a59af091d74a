-- Demand 3 (promises, specs/Demand.antt) asks agreement at doubles only: one patch, and the same ground as two patches, which meet between 1 and the next
-- double. No double lies between them, so a shot that crosses x = 1 settles alike on both sheets. Assumes nothing.
use Prim.Native.Nat.{ℕ, zero, suc, ◌*◌, ◌%◌, ◌^◌, ◌≤◌, ◌<◌}
use native.Mathlib.Nat.{pow-le-pow_right}
use native.Mathlib.Omega.{arith}
use mathlib.Core.Path.{◌≡◌, refl}
use mathlib.Core.Logic.{◌⊎◌, inl, inr}
use mathlib.Core.Bool.{Bool, true, false, not, ◌&&◌, ◌||◌}
use mathlib.Core.List.{List, [], ◌∷◌, ◌++◌, map}
use lib.Dec.{T, leb, ltb, eqb, leb→le, nleb→lt, ltb→lt, not_T}
use lib.IntN.{ℤ, pos, negsuc}
use lib.ListN.{replicate}
use lib.Ieee.{Float, nan, inf, fin, down, fits, lt, le, eq, neg, round, of_bits, to_bits}
use lib.Ieee.Bits.{is_true, is_false}
use Rattle.number.specs.Ops.{dec}
use Rattle.number.specs.Number.{within_of}
use Rattle.number.specs.Order.{le_through, →le}
use Rattle.vector.specs.Vec.{vec, zero3}
use Rattle.state.specs.declared.BallState.{BallState}
use Rattle.surface.specs.Surface.{green}
use Rattle.aero.specs.Aero.{tour}
use Rattle.look.specs.Rect.{is_double}
use Rattle.look.specs.Tree.{Spot}
use Rattle.look.proofs.Within.{and_parts}
use Rattle.octets.specs.Octets.{little}
use Rattle.course.specs.Sheet.{Accepted, first, covers, restitution_of, law_of, surface_of, patch_sample, plain_sample, course_of}
use Rattle.shot.specs.declared.GroundPhysics.{GroundPhysics}
use Rattle.shot.specs.declared.Shot.{Shot}
use Rattle.ground.specs.Settle.{settle_of, looks_of}
use Rattle.promises.specs.Demand.{demand_3}
use Rattle.bench.specs.Definitions.{definitions}
use Rattle.bench.specs.Given.{bytes_of, bits, surface_fields}

-- 1, and the next double
abbrev one : Float
one = fin false 1 (pos 0)

abbrev next : Float
next = fin false 4503599627370497 (negsuc 51)

-- ---- no double lies between

small : (a : ℕ) → 2 ^ a < 9007199254740992 → 2 ^ a ≤ 4503599627370496
small a h = go (leb a 52) (leb→le a 52) (nleb→lt a 52)
  where
    go : (b : Bool) → (T b → a ≤ 52) → (T (not b) → 52 < a) → 2 ^ a ≤ 4503599627370496
    go true f g = pow-le-pow_right {n = 2} (omega arith) {i = a} {j = 52} (f tt)
    go false f g = absurd (let l : 9007199254740992 ≤ 2 ^ a = pow-le-pow_right {n = 2} (omega arith) {i = 53} {j = a} (g tt) in omega arith)

digits : (m : ℕ) (e : ℤ) → T (is_double (fin false (suc m) e)) → suc m < 9007199254740992
unfolding fits
digits m e d =
    let odd = eqb (suc m % 2) 1 in
    let few = ltb (suc m) 9007199254740992 in
    let low = leb (down e) (2 ^ 1074) in
    ltb→lt (suc m) 9007199254740992 (and_parts odd few (and_parts (odd && few) low (and_parts (odd && few && low) _ d).0).0).1

-- x is at most 1, or at least the next double, or a NaN
abbrev Beside : Float → Type 0
Beside x = T (le x one) ⊎ (T (le next x) ⊎ (x ≡ nan))

beside : (x : Float) → T (is_double x) → Beside x
unfolding fits
beside nan d = inr (inr refl)
beside (inf true) d = inl (unfold le lt in tt)
beside (inf false) d = inr (inl (unfold le lt in tt))
beside (fin true m e) d = inl (→le true m e false 1 (pos 0) (omega arith))
beside (fin false zero e) d = inl (→le false 0 e false 1 (pos 0) (omega arith))
beside (fin false (suc m) (pos k)) d = go (leb (suc m * 2 ^ k) 1) (leb→le _ 1) (nleb→lt _ 1)
  where
    go : (b : Bool) → (T b → suc m * 2 ^ k ≤ 1) → (T (not b) → 1 < suc m * 2 ^ k) → Beside (fin false (suc m) (pos k))
    go true f g = inl (→le false (suc m) (pos k) false 1 (pos 0) (let h = f tt in omega arith))
    go false f g = inr (inl (→le false 4503599627370497 (negsuc 51) false (suc m) (pos k) (let h = g tt in omega arith)))
beside (fin false (suc m) (negsuc k)) d = go (leb (suc m) (2 ^ suc k)) (leb→le _ _) (nleb→lt _ _)
  where
    go : (b : Bool) → (T b → suc m ≤ 2 ^ suc k) → (T (not b) → 2 ^ suc k < suc m) → Beside (fin false (suc m) (negsuc k))
    go true f g = inl (→le false (suc m) (negsuc k) false 1 (pos 0) (let h = f tt in omega arith))
    go false f g = inr (inl (→le false 4503599627370497 (negsuc 51) false (suc m) (negsuc k)
        (let h = g tt in let l = digits m (negsuc k) d in let s = small (suc k) (omega arith) in omega arith)))

-- ---- the sheets

abbrev lo : Float
lo = neg (dec 100000 1)

abbrev hi : Float
hi = dec 100000 1

-- a level patch from x = a to b, across the whole width
abbrev patch : Float → Float → List ℕ
patch a b = bits a ∷ bits b ∷ bits lo ∷ bits hi ∷ bits (dec 0 1) ∷ bits (dec 0 1) ∷ bits (dec 0 1) ∷ 0 ∷ []

abbrev whole : List ℕ
whole = bytes_of 4 (1 ∷ 16 ∷ 1 ∷ 80 ∷ []) ++ bytes_of 8 (surface_fields green ++ patch lo hi)

abbrev cut : List ℕ
cut = bytes_of 4 (1 ∷ 16 ∷ 2 ∷ 80 ∷ []) ++ bytes_of 8 (surface_fields green ++ patch lo one ++ patch next hi)

accepted_whole : Accepted whole
unfolding definitions
accepted_whole = refl

accepted_cut : Accepted cut
unfolding definitions
accepted_cut = refl

-- ---- they agree at doubles

joined : (x : Float) → T (is_double x) → within_of lo hi x ≡ within_of lo one x || within_of next hi x
unfolding within_of round neg
joined x d = elim (beside x d) [
  | inl c ↦ rw (
    is_true (le x one) c,
    is_true (le x hi) (le_through x one hi c (unfold le lt eq in tt)),
    is_false (le next x) (not_T (le next x) (λ n. meet n c)),
  ) (left (le lo x))
  | inr h ↦ elim h [
    | inl n ↦ rw (
      is_true (le next x) n,
      is_true (le lo x) (le_through lo next x (unfold le lt eq in tt) n),
      is_false (le x one) (not_T (le x one) (λ c. meet n c)),
    )
    | inr e ↦ rw e (unfold le lt eq in refl)
  ]
]
  where
    meet : T (le next x) → T (le x one) → ⊥
    meet n c = unfold le lt eq in le_through next x one n c

    left : (a : Bool) → a && true ≡ a && true || false && true
    left true = refl
    left false = refl

-- which patches hold a spot
module _ (x z : Float) where
  in_whole : covers whole x z 1 ≡ within_of lo hi x && within_of lo hi z
  unfolding covers little of_bits to_bits round neg
  in_whole = refl

  in_cut : covers cut x z 1 ≡ within_of lo one x && within_of lo hi z
  unfolding covers little of_bits to_bits round neg
  in_cut = refl

  in_cut_2 : covers cut x z 2 ≡ within_of next hi x && within_of lo hi z
  unfolding covers little of_bits to_bits round neg
  in_cut_2 = refl

  same_patch : patch_sample cut x z 1 ≡ patch_sample whole x z 1
  unfolding patch_sample surface_of restitution_of law_of little of_bits to_bits round neg
  same_patch = refl

  same_patch_2 : patch_sample cut x z 2 ≡ patch_sample whole x z 1
  unfolding patch_sample surface_of restitution_of law_of little of_bits to_bits round neg
  same_patch_2 = refl

same_plain : plain_sample cut ≡ plain_sample whole
unfolding plain_sample surface_of restitution_of law_of little of_bits to_bits round neg
same_plain = refl

alike : (x z : Float) → T (is_double x) → course_of cut x z ≡ course_of whole x z
unfolding course_of first little
alike x z d = go (within_of lo one x) (within_of next hi x) (within_of lo hi z) (in_cut x z) (in_cut_2 x z) (rw (← joined x d) (in_whole x z))
  where
    go : (p q w : Bool) → covers cut x z 1 ≡ p && w → covers cut x z 2 ≡ q && w
        → covers whole x z 1 ≡ (p || q) && w → course_of cut x z ≡ course_of whole x z
    go true q true a b c = rw (a, c) (same_patch x z)
    go true true false a b c = rw (a, b, c) same_plain
    go true false false a b c = rw (a, b, c) same_plain
    go false true true a b c = rw (a, b, c) (same_patch_2 x z)
    go false true false a b c = rw (a, b, c) same_plain
    go false false w a b c = rw (a, b, c) same_plain

-- ---- a shot that crosses x = 1: it slides from 0.995 at 1 m/s for 0.01 s

abbrev physics : GroundPhysics
physics =
    record {
      dt = dec 1 100;
      stop_speed = dec 1 100;
      roll_threshold = dec 1 100;
      min_hop_height = dec 5 1000;
      max_impacts = 1;
      max_time = dec 1 100;
    }

abbrev landing : BallState
landing = record { time = dec 0 1; pos = vec (dec 995 1000) (dec 0 1) (dec 0 1); vel = vec (dec 1 1) (dec 0 1) (dec 0 1); spin = zero3 }

abbrev shot : Shot
shot = record { physics = physics; step_limit = 10; ball = tour; air_density = dec 1225 1000; landing = landing; fading = false }

zeros : ℕ → List Float
zeros n = replicate n (dec 0 1)

-- the first look and that of the first point are on this side of 1, the next and that of the last point beyond it
crosses : map (λ (s : Spot). lt one s.x) (looks_of whole shot (zeros 20) (zeros 24)) ≡ (false ∷ false ∷ true ∷ true ∷ [])
unfolding definitions zeros
crosses = refl

settles_alike : settle_of cut shot (zeros 20) (zeros 24) ≡ settle_of whole shot (zeros 20) (zeros 24)
settles_alike =
    demand_3 shot whole cut (zeros 20) (zeros 24) (zeros 20) (zeros 24) accepted_whole accepted_cut refl refl
    (λ l h. (refl, refl)) (λ x z i j w. alike x z i)
