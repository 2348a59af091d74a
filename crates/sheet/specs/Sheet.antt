-- Definitions. The course sheet (01, "Course sheet"): its bytes, the tests 1 to 3, and what a look at a spot finds.
use Rattle.std.specs.Prelude.{ℕ, zero, suc, ◌+◌, ◌*◌, ◌≡◌, List, Bool, true, false, ◌&&◌, cond, leb, ltb, eqb, length, Float}
use Rattle.std.specs.Float.{binary64}
use Rattle.std.specs.Float.Ieee.{of_bits, neg, le}
use Rattle.number.specs.Ops.{◌⊕◌, ◌⊗◌, dec}
use Rattle.octets.specs.Octets.{little}
use Rattle.number.specs.Number.{within_of, about_of}
use Rattle.vector.specs.Vec.{vec}
use Rattle.surface.specs.declared.Restitution.{Restitution}
use Rattle.surface.specs.declared.RollLaw.{RollLaw}
use Rattle.surface.specs.declared.Surface.{Surface}
use Rattle.surface.specs.declared.GroundSample.{GroundSample}

-- ---- fields

-- 01: "Four u32: surface count S .., surface offset .., patch count P .., patch offset"
abbrev pub surfaces : List ℕ → ℕ
surfaces s = little 4 s 0

abbrev pub surface_offset : List ℕ → ℕ
surface_offset s = little 4 s 4

abbrev pub patches : List ℕ → ℕ
patches s = little 4 s 8

abbrev pub patch_offset : List ℕ → ℕ
patch_offset s = little 4 s 12

-- Field j of record i, as a u64 and as an f64. The records 0 to S − 1 are the surfaces, and record S + k is patch k.
abbrev pub field : List ℕ → ℕ → ℕ → ℕ
field s i j = little 8 s (16 + 8 * (8 * i + j))

abbrev pub real : List ℕ → ℕ → ℕ → Float
real s i j = of_bits binary64 (field s i j)

-- ---- the tests 1 to 3

-- 01: "surface count S (1 to 16), surface offset (16), patch count P (0 to 512), patch offset (16 + 64S). Length is exactly 16 + 64(S+P)"
unfoldable pub header_ok : List ℕ → Bool
header_ok s =
    leb 1 (surfaces s) && leb (surfaces s) 16 && eqb (surface_offset s) 16 && leb (patches s) 512
    && eqb (patch_offset s) (16 + 64 * surfaces s) && eqb (length s) (16 + 64 * (surfaces s + patches s))

-- restitution kind 0 constant, with e, or 1 Penner
unfoldable pub restitution_ok : ℕ → Float → Bool
restitution_ok kind e = cond (eqb kind 0) (within_of (dec 0 1) (dec 1 1) e) (eqb kind 1)

-- law 0 constant, or 1 quadratic, 2 exponential, with v_ref
unfoldable pub law_ok : ℕ → Float → Bool
law_ok law v = cond (eqb law 0) true (cond (leb law 2) (within_of (dec 1 100) (dec 1000 1) v) false)

-- 01, 2: "kinds; e 0..1 (kind 0 only); mu_slide, mu_roll, compliance 0..10; v_ref 0.01..1000 (laws 1, 2 only); pivot 0..1"
unfoldable pub surface_ok : List ℕ → ℕ → Bool
surface_ok s i =
    restitution_ok (field s i 0) (real s i 1)
    && within_of (dec 0 1) (dec 10 1) (real s i 2) && within_of (dec 0 1) (dec 10 1) (real s i 3)
    && law_ok (field s i 4) (real s i 5)
    && within_of (dec 0 1) (dec 10 1) (real s i 6) && within_of (dec 0 1) (dec 1 1) (real s i 7)

-- an edge pair: both within ±100,000, and lo ≤ hi
unfoldable pub edges_ok : Float → Float → Bool
edges_ok lo hi = about_of (dec 100000 1) lo && about_of (dec 100000 1) hi && le lo hi

-- 01, 3: "edges ±100,000 with lo ≤ hi; h0 ±1000; a, b ±4; surface number < S"
unfoldable pub patch_ok : List ℕ → ℕ → Bool
patch_ok s i =
    edges_ok (real s i 0) (real s i 1) && edges_ok (real s i 2) (real s i 3) && about_of (dec 1000 1) (real s i 4)
    && about_of (dec 4 1) (real s i 5) && about_of (dec 4 1) (real s i 6) && ltb (field s i 7) (surfaces s)

-- p holds of the n numbers from i on
unfoldable pub all : (ℕ → Bool) → ℕ → ℕ → Bool
all p zero i = true
all p (suc n) i = p i && all p n (i + 1)

-- 0, or the number of the first test that fails
unfoldable pub answer_of : List ℕ → ℕ
answer_of s =
    cond (header_ok s)
    (cond (all (surface_ok s) (surfaces s) 0) (cond (all (patch_ok s) (patches s) (surfaces s)) 0 3) 2) 1

-- a course is accepted if it passes 1 to 3
abbrev pub Accepted : List ℕ → Type 0
Accepted s = answer_of s ≡ 0

-- ---- a look

-- the first of the n numbers from i on of which p holds, or i + n
unfoldable pub first : (ℕ → Bool) → ℕ → ℕ → ℕ
first p zero i = i
first p (suc n) i = cond (p i) i (first p n (i + 1))

-- record i is a patch with the spot in it
unfoldable pub covers : List ℕ → Float → Float → ℕ → Bool
covers s x z i = within_of (real s i 0) (real s i 1) x && within_of (real s i 2) (real s i 3) z

unfoldable pub restitution_of : ℕ → Float → Restitution
restitution_of kind e = cond (eqb kind 0) (Restitution.Constant e) Restitution.Penner2002

unfoldable pub law_of : ℕ → Float → RollLaw
law_of law v = cond (eqb law 0) RollLaw.Constant (cond (eqb law 1) (RollLaw.Quadratic v) (RollLaw.Exponential v))

-- a surface as held in memory
unfoldable pub surface_of : List ℕ → ℕ → Surface
surface_of s i = record {
  restitution = restitution_of (field s i 0) (real s i 1);
  mu_slide = real s i 2;
  mu_roll = real s i 3;
  roll_law = law_of (field s i 4) (real s i 5);
  compliance = real s i 6;
  pivot = real s i 7;
}

-- what the patch that is record i gives at the spot
unfoldable pub patch_sample : List ℕ → Float → Float → ℕ → GroundSample
patch_sample s x z i = record {
  height = (real s i 4 ⊕ real s i 5 ⊗ x) ⊕ real s i 6 ⊗ z;
  normal = vec (neg (real s i 5)) (dec 1 1) (neg (real s i 6));
  surface = surface_of s (field s i 7);
  number = field s i 7;
}

-- what is where no patch is
unfoldable pub plain_sample : List ℕ → GroundSample
plain_sample s = record {
  height = dec 0 1;
  normal = vec (dec 0 1) (dec 1 1) (dec 0 1);
  surface = surface_of s 0;
  number = 0;
}

-- the first listed patch with the spot in it, or else the plain ground
unfoldable pub course_of : List ℕ → Float → Float → GroundSample
course_of s x z =
    let i = first (covers s x z) (patches s) (surfaces s) in
    cond (ltb i (surfaces s + patches s)) (patch_sample s x z i) (plain_sample s)
