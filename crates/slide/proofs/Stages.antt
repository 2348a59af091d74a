-- Laws over plain variables: the first stage of a turning slide, and a turn of the root search. Assumes nothing.
use Prim.Native.Nat.{ℕ, ◌+◌, ◌-◌, ◌<◌, ◌≤◌}
use native.Mathlib.Omega.{arith}
use mathlib.Core.Path.{◌≡◌, refl, ap, sym, ◌∙◌}
use mathlib.Core.Bool.{Bool, true, false, cond}
use lib.Ieee.{Float}
use Rattle.rk4.specs.declared.Motion.{Motion}
use Rattle.vector.specs.declared.DVec3.{DVec3}
use Rattle.vector.specs.Vec.{vdivs, vlength}
use Rattle.slide.specs.declared.Patch.{Patch}
use Rattle.slide.specs.Slide.{patch_slip, slide_rate, turning_rate}
use Rattle.search.specs.declared.Bracket.{Bracket}
use Rattle.search.specs.declared.Search.{Search}
use Rattle.std.specs.declared.ops.ControlFlow.{ControlFlow}
use Rattle.std.specs.declared.ops.ControlFlow.TheVariants.{Continue, Break}
use Rattle.search.specs.Search.{Counted, counting, counted, start, find_root, in_bracket, narrowed, after_step, root_from, root_turn, root_ended}

either : {A : Type 0} (b : Bool) (x : A) → cond b x x ≡ x
either true x = refl
either false x = refl

-- with the slip direction at s as the fallback, the stage at s has that direction, whatever its length
pub at_start_lem : (p : Patch) (s : Motion) {u w : DVec3} {len : Float} {k : Motion} → (u ≡ patch_slip p s) → len ≡ vlength u → w ≡ vdivs u len
    → k ≡ slide_rate p s w → k ≡ turning_rate p w s
unfolding turning_rate
at_start_lem p s a b d e = e ∙ simp (← a, ← b, ← d, either)

-- a search that began n evaluations ago
abbrev pub since : ℕ → Counted Float → Counted Float
since n r = (r.0, n + r.1)

since_1 : (n : ℕ) (r : Counted Float) → since (n + 1) r ≡ since n (since 1 r)
since_1 n r = ap (λ (k : ℕ). (r.0, k)) (omega arith)

pub since_0 : (r : Counted Float) → since 0 r ≡ r
since_0 r = ap (λ (k : ℕ). (r.0, k)) (omega arith)

-- n of its 200 evaluations are made, and the search goes on from s
abbrev pub search_on : (Float → Float) → ℕ → Search → Counted Float
search_on f n s = since n (root_from counting (counted f) (200 - n) s)

-- none is made yet
pub begun : (f : Float → Float) (b : Bracket) (guess : Float) {s : Search} → s ≡ start b guess → search_on f 0 s ≡ find_root counting (counted f) b guess
unfolding find_root
begun f b guess e = rw e (since_0 _)

-- one evaluation, and what follows from it
module _ (f : Float → Float) (s : Search) (n : ℕ) {x fx : Float} {r : ControlFlow Float Search} (l : n < 200) (e : x ≡ in_bracket s) (v : fx ≡ f x)
    (h : r ≡ narrowed s x fx) where
  turned : {r' : ControlFlow Float Search} → r ≡ r' → since (n + 1) (after_step counting (root_from counting (counted f) (200 - (n + 1))) r') ≡ search_on f n s
  turned w =
      let m : 200 - n - 1 ≡ 200 - (n + 1) = omega arith in
      rw (← w, h, v, e, ← m) (since_1 n _ ∙ ap (since n) (root_turn counting (counted f) s (200 - n) (omega (arith, l))))

  pub goes_on : {t : Search} → r ≡ Continue t → search_on f (n + 1) t ≡ search_on f n s
  goes_on w = turned w

  pub found : {y : Float} → r ≡ Break y → (y, n + 1) ≡ search_on f n s
  found {y} w = ap (λ (k : ℕ). (y, k)) (omega arith) ∙ turned w

-- 200 are made
pub ended : (f : Float → Float) (s : Search) (n : ℕ) → 200 ≤ n → (s.bracket.hi, n) ≡ search_on f n s
ended f s n h =
    rw (← root_ended counting (counted f) s (200 - n) (omega (arith, h))) (ap (λ (k : ℕ). (s.bracket.hi, k)) (omega arith))

pub ended_at : (f : Float → Float) (s : Search) (n : ℕ) {r : Counted Float} → n ≡ 200 → search_on f n s ≡ r → (s.bracket.hi, 200) ≡ r
ended_at f s n e h = ap (λ (k : ℕ). (s.bracket.hi, k)) (sym e) ∙ ended f s n (omega (arith, e)) ∙ h
