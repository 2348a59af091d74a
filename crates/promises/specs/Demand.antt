-- Statements. Demand 3, of the whole settle: refused, stopped or finished, with both lists. A second accepted sheet whose course agrees with the first's at
-- every spot of doubles within the rectangle that the first call reports gives the same result and lists. The other inputs are the same; the
-- lists' old contents count only where the answer is one of 4 to 8.
use Prim.Native.Nat.{ℕ, suc, ◌≤◌}
use Rattle.std.proofs.Common.{arith, ◌∙◌, sym}
use Rattle.std.specs.Prelude.{◌≡◌, Bool, not, List, [], ◌∷◌, Float}
use Rattle.std.proofs.Math.Path.{refl, ap}
use Rattle.std.proofs.Math.Bool.{true, false}
use Rattle.std.proofs.Math.Dec.{eqb}
use Rattle.std.proofs.Math.ListN.{length}
use Rattle.std.proofs.lemmas.Bool.{eqb-false}
use Rattle.look.specs.Rect.{Rect, no_rect}
use Rattle.look.specs.Agree.{All, rect_from}
use Rattle.look.specs.Tree.{Spot}
use Rattle.look.proofs.Within.{Within, AgreeIn, Inside, agree_within, rect_of_looks, holds_every_look, least_rectangle}
use Rattle.course.specs.Sheet.{Accepted, course_of}
use Rattle.std.specs.Prelude.{if◌then◌else◌}
use Rattle.shot.specs.Tests.{input_test}
use Rattle.shot.specs.Passed.{input_number}
use Rattle.shot.specs.declared.Shot.{Shot}
use Rattle.ground.specs.Tests.{wholes, refusal_of}
use Rattle.ground.specs.Settle.{report_of, run_of, settle_of, looks_of}

module _ (shot : Shot) where
  -- the number of an accepted sheet's settle: 8, or the first of 4 to 7 that fails, or 0
  abbrev number_of : Bool → ℕ
  number_of w = if not w then 8 else input_test shot

  number_range : (w : Bool) → eqb (number_of w) 0 ≡ false → (4 ≤ number_of w) × (number_of w ≤ 8)
  number_range false h = (omega arith, omega arith)
  number_range true h = let r = input_number shot (eqb-false (input_test shot) 0 h) in let k = r.1 in (r.0, omega (arith, k))

  accepted_number : (s : List ℕ) (nc np : ℕ) → Accepted s → refusal_of s shot nc np ≡ number_of (wholes nc np)
  unfolding refusal_of
  accepted_number s nc np h = rw h

  module _ (a b : List ℕ) (cs ps ds qs : List Float) (ha : Accepted a) (hb : Accepted b) (ec : length ds ≡ length cs) (ep : length qs ≡ length ps) where
    same_number : refusal_of b shot (length ds) (length qs) ≡ refusal_of a shot (length cs) (length ps)
    same_number = rw (ec, ep) (accepted_number b (length cs) (length ps) hb ∙ sym (accepted_number a (length cs) (length ps) ha))

    -- demand 3
    pub demand_3 : (4 ≤ (settle_of a shot cs ps).settled.answer → (settle_of a shot cs ps).settled.answer ≤ 8 → (ds ≡ cs) × (qs ≡ ps))
        → AgreeIn (course_of a) (course_of b) (settle_of a shot cs ps).settled.rect
        → settle_of b shot ds qs ≡ settle_of a shot cs ps
    unfolding settle_of report_of
    demand_3 old agree = go (eqb (refusal_of a shot (length cs) (length ps)) 0) refl
      where
        go : (z : Bool) → eqb (refusal_of a shot (length cs) (length ps)) 0 ≡ z → settle_of b shot ds qs ≡ settle_of a shot cs ps
        go true e = rw (same_number, ec, ep, e) (ap (report_of (length cs) (length ps)) (agree_within (course_of a) (course_of b) (run_of shot (length cs) (length ps)) (rw e at agree)).0)
        go false e =
            let r = number_range (wholes (length cs) (length ps)) (rw (accepted_number a (length cs) (length ps) ha) at e) in
            let n : (settle_of a shot cs ps).settled.answer ≡ number_of (wholes (length cs) (length ps)) = rw e (accepted_number a (length cs) (length ps) ha) in
            let o = old (rw n r.0) (rw n r.1) in
            rw (same_number, e, o.0, o.1)

  -- ---- the rectangle, of every call

  module _ (s : List ℕ) (cs ps : List Float) where
    -- the reported rectangle is the one reckoned from the list of looks
    pub rect_reckoned : (settle_of s shot cs ps).settled.rect ≡ rect_from no_rect (looks_of s shot cs ps)
    unfolding settle_of looks_of report_of rect_from
    rect_reckoned = go (eqb (refusal_of s shot (length cs) (length ps)) 0) refl
      where
        go : (z : Bool) → eqb (refusal_of s shot (length cs) (length ps)) 0 ≡ z → (settle_of s shot cs ps).settled.rect ≡ rect_from no_rect (looks_of s shot cs ps)
        go true e = rw e (rect_of_looks (course_of s) (run_of shot (length cs) (length ps)))
        go false e = rw e

    -- it holds every spot looked at, by value
    pub rect_holds : All (λ (t : Spot). Within (settle_of s shot cs ps).settled.rect t.x t.z) (looks_of s shot cs ps)
    unfolding settle_of looks_of report_of
    rect_holds = go (eqb (refusal_of s shot (length cs) (length ps)) 0) refl
      where
        go : (z : Bool) → eqb (refusal_of s shot (length cs) (length ps)) 0 ≡ z → All (λ (t : Spot). Within (settle_of s shot cs ps).settled.rect t.x t.z) (looks_of s shot cs ps)
        go true e = rw e (holds_every_look (course_of s) (run_of shot (length cs) (length ps)))
        go false e = rw e tt

    -- it lies within every rectangle that holds every spot looked at, where there was a look
    pub rect_least : (q : Rect) (t : Spot) (l : List Spot) → looks_of s shot cs ps ≡ t ∷ l
        → All (λ (t : Spot). Within q t.x t.z) (looks_of s shot cs ps) → Inside (settle_of s shot cs ps).settled.rect q
    unfolding settle_of looks_of report_of
    rect_least q t l h w = go (eqb (refusal_of s shot (length cs) (length ps)) 0) refl h w
      where
        go : (z : Bool) → eqb (refusal_of s shot (length cs) (length ps)) 0 ≡ z → looks_of s shot cs ps ≡ t ∷ l
            → All (λ (t : Spot). Within q t.x t.z) (looks_of s shot cs ps) → Inside (settle_of s shot cs ps).settled.rect q
        go true e h w = rw e (least_rectangle (course_of s) (run_of shot (length cs) (length ps)) q (rw e at h) (rw e at w))
        go false e h w = absurd (let z : 0 ≡ suc (length l) = ap length (rw e at h) in omega arith)

    -- with no look it is all +0
    pub rect_unseen : looks_of s shot cs ps ≡ [] → (settle_of s shot cs ps).settled.rect ≡ no_rect
    unfolding rect_from
    rect_unseen h = rect_reckoned ∙ ap (rect_from no_rect) h
