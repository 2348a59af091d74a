-- Lemmas. The numbers of a settle that is turned back, and what one that is not has passed.
use Rattle.std.specs.Prelude.{ℕ, ◌≤◌, ◌≡◌, Bool, not, cond, ◌&&◌, List}
use native.Mathlib.Omega.{arith}
use Rattle.std.proofs.Math.Path.{refl}
use Rattle.std.proofs.Math.Bool.{true, false}
use Rattle.std.proofs.Math.Dec.{eqb, leb, leb→le}
use Rattle.std.proofs.Common.{eqb-true}
use Rattle.std.proofs.lemmas.Bool.{eqb-false}
use Rattle.number.specs.Ops.{dec}
use Rattle.std.specs.Prelude.{if◌then◌else◌}
use Rattle.number.specs.Number.{within_of}
use Rattle.look.proofs.Within.{and_parts}
use Rattle.shot.specs.Tests.{step_physics_ok, physics_ok, input_test}
use Rattle.shot.specs.Passed.{Passes, input_passes, input_most}
use Rattle.shot.specs.declared.Shot.{Shot}
use Rattle.sheet.specs.Sheet.{header_ok, surface_ok, patch_ok, surfaces, patches, all}
use Rattle.course.specs.Sheet.{answer_of}
use Rattle.ground.specs.Tests.{wholes, refusal_of}

sheet_number : (s : List ℕ) → answer_of s ≤ 3
unfolding answer_of
sheet_number s = go (header_ok s) (all (surface_ok s) (surfaces s) 0) (all (patch_ok s) (patches s) (surfaces s))
  where
    go : (a b c : Bool) → cond a (cond b (cond c 0 3) 2) 1 ≤ 3
    go true true true = omega arith
    go true true false = omega arith
    go true false c = omega arith
    go false b c = omega arith

module _ (s : List ℕ) (shot : Shot) (nc np : ℕ) where
  abbrev number : Bool → Bool → ℕ
  number w e = if not w then 8 else if not e then answer_of s else input_test shot

  -- a call that passes every test passes 1 to 3, and 4 to 7
  tests : refusal_of s shot nc np ≡ 0 → (answer_of s ≡ 0) × (input_test shot ≡ 0)
  unfolding refusal_of
  tests = go (wholes nc np) (eqb (answer_of s) 0) refl
    where
      go : (w e : Bool) → eqb (answer_of s) 0 ≡ e → number w e ≡ 0 → (answer_of s ≡ 0) × (input_test shot ≡ 0)
      go true true i h = (eqb-true (answer_of s) 0 i, h)
      go true false i h = absurd (eqb-false (answer_of s) 0 i h)
      go false e i h = absurd (omega (arith, h))

  pub settle_sheet : refusal_of s shot nc np ≡ 0 → answer_of s ≡ 0
  settle_sheet h = (tests h).0

  pub settle_passes : refusal_of s shot nc np ≡ 0 → Passes shot
  settle_passes h = input_passes shot (tests h).1

  -- 01, 4: "step_limit 1..2,000,000"
  pub settle_limit : refusal_of s shot nc np ≡ 0 → shot.step_limit ≤ 2000000
  unfolding physics_ok
  settle_limit h =
      let p = shot.physics in
      let x = step_physics_ok p.dt p.stop_speed p.roll_threshold && within_of (dec 0 1) (dec 1 1) p.min_hop_height
      && within_of (dec 0 1) (dec 600 1) p.max_time && leb p.max_impacts 64 && leb 1 shot.step_limit in
      leb→le shot.step_limit 2000000 (and_parts x (leb shot.step_limit 2000000) (rw (settle_passes h).physics tt)).1

  pub refused_by : refusal_of s shot nc np ≤ 8
  unfolding refusal_of
  refused_by = go (wholes nc np) (eqb (answer_of s) 0)
    where
      go : (w e : Bool) → number w e ≤ 8
      go true true = let k = input_most shot in omega (arith, k)
      go true false = let k = sheet_number s in omega (arith, k)
      go false e = omega arith
