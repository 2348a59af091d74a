-- Statements. Demand 3, of the card: two accepted sheets whose courses agree within the rectangle that the first card reports print the same page,
-- with the same lists and the same result. The inputs have the same 240 bytes of fields before their sheets; the lists' old contents count only
-- where the answer is one of 4 to 8.
use Rattle.std.specs.Prelude.{ℕ, zero, suc, ◌+◌, ◌*◌, ◌≤◌, ◌<◌, ◌≡◌, refl, Bool, true, false, List, ◌++◌, leb, eqb, Float, drop}
use native.Mathlib.Omega.{arith}
use Rattle.std.proofs.Math.Path.{ap, sym}
use Rattle.std.proofs.Common.{◌∙◌, subst}
use Rattle.std.proofs.Math.Bool.{cond}
use Rattle.std.specs.Float.Ieee.{of_bits}
use Rattle.std.specs.Float.{binary64}
use Rattle.std.proofs.Math.ListN.{length, length-append, get_or-append}
use Rattle.std.proofs.Math.Seq.{drop_at}
use borrow.Author.Tests.{le-leb, ne_eqb}
use Rattle.look.proofs.Within.{AgreeIn}
use Rattle.look.specs.Rect.{Rect}
use Rattle.octets.specs.Octets.{little}
use Rattle.course.specs.Sheet.{Accepted, course_of}
use Rattle.ground.specs.Settle.{Result, result_of, settle_of}
use Rattle.promises.specs.Demand.{demand_3}
use Rattle.input.specs.Input.{whole_at, real_at, vec_at, physics_at, ball_at, landing_at, shot_by, shot_at, settle_input_by, settle_input_of}
use Rattle.card.specs.Card.{text_of, too_short, Carded, carded, printed_of, card_of}

-- ---- the fields before a sheet do not depend on it

little_same : (n : ℕ) (f a : List ℕ) (o : ℕ) → o + n ≤ length f → little n (f ++ a) o ≡ little n f o
unfolding little
little_same zero f a o h = refl
little_same (suc n) f a o h =
    let i : o + n ≤ length f = omega arith in
    let j : o + n < length f = omega arith in
    rw (little_same n f a o i, get_or-append f a 0 (o + n) j)

module _ (f a : List ℕ) (h : length f ≡ 240) where
  real_same : (i : ℕ) → 8 * i + 8 ≤ 240 → real_at (f ++ a) i ≡ real_at f i
  unfolding real_at
  real_same i l = ap (of_bits binary64) (little_same 8 f a (8 * i) (omega arith))

  whole_same : (i : ℕ) → 8 * i + 8 ≤ 240 → whole_at (f ++ a) i ≡ whole_at f i
  whole_same i l = little_same 8 f a (8 * i) (omega arith)

  physics_same : physics_at (f ++ a) ≡ physics_at f
  unfolding physics_at
  physics_same =
      rw (
        real_same 0 (omega arith),
        real_same 1 (omega arith),
        real_same 2 (omega arith),
        real_same 3 (omega arith),
        real_same 4 (omega arith),
        whole_same 5 (omega arith),
      )

  ball_same : ball_at (f ++ a) ≡ ball_at f
  unfolding ball_at
  ball_same =
      rw (
        real_same 7 (omega arith),
        real_same 8 (omega arith),
        real_same 9 (omega arith),
        real_same 10 (omega arith),
        real_same 11 (omega arith),
        real_same 12 (omega arith),
        real_same 13 (omega arith),
        real_same 14 (omega arith),
        real_same 15 (omega arith),
        real_same 16 (omega arith),
        real_same 17 (omega arith),
        real_same 18 (omega arith),
      )

  landing_same : landing_at (f ++ a) ≡ landing_at f
  unfolding landing_at vec_at
  landing_same =
      rw (
        real_same 20 (omega arith),
        real_same 21 (omega arith),
        real_same 22 (omega arith),
        real_same 23 (omega arith),
        real_same 24 (omega arith),
        real_same 25 (omega arith),
        real_same 26 (omega arith),
        real_same 27 (omega arith),
        real_same 28 (omega arith),
        real_same 29 (omega arith),
      )

  shot_same : shot_at (f ++ a) ≡ shot_at f
  unfolding shot_by
  shot_same = rw (physics_same, whole_same 6 (omega arith), ball_same, real_same 19 (omega arith), landing_same)

  -- the settle of such an input
  settles : length a ≤ 33808 → (cs ps : List Float)
      → settle_input_of (f ++ a) cs ps ≡ settle_of a (shot_at f) cs ps
  unfolding settle_input_by
  settles l cs ps =
      let n = length-append f a in
      let p : 240 ≤ length (f ++ a) = omega arith in
      let q : length (f ++ a) ≤ 34048 = omega arith in
      rw (
        le-leb 240 (length (f ++ a)) p,
        le-leb (length (f ++ a)) 34048 q,
        shot_same,
        drop_at f a 240 h,
      )

-- ---- a card tells of its run

-- the rectangle that a card reports is the run's
rect_kept : (input : List ℕ) (cs ps : List Float) (page : List ℕ) → (card_of input cs ps page).run.settled.rect ≡ (settle_input_of input cs ps).settled.rect
unfolding card_of printed_of
rect_kept input cs ps page =
    let w = settle_input_of input cs ps in
    go w (eqb w.settled.answer 0) (leb (60 * (1 + w.settled.contacts)) (length page))
  where
    go : (w : Result) (b d : Bool)
        → (cond b (cond d (carded w (text_of w ++ drop (length (text_of w)) page)) (carded (result_of (too_short w.settled) w.contacts w.points) page))
        (carded w page)).run.settled.rect
        ≡ w.settled.rect
    go w true true = refl
    go w true false = refl
    go w false d = refl

-- and the answer, but for 0
answer_kept : (input : List ℕ) (cs ps : List Float) (page : List ℕ) → ((settle_input_of input cs ps).settled.answer ≡ 0 → ⊥)
    → (card_of input cs ps page).run.settled.answer ≡ (settle_input_of input cs ps).settled.answer
unfolding card_of
answer_kept input cs ps page h = rw (ne_eqb (settle_input_of input cs ps).settled.answer 0 h)

module _ (f a b : List ℕ) (h : length f ≡ 240) (la : length a ≤ 33808) (lb : length b ≤ 33808) (ha : Accepted a) (hb : Accepted b)
    (cs ps ds qs : List Float) (ec : length ds ≡ length cs) (ep : length qs ≡ length ps) (page : List ℕ) where
  abbrev first : Carded
  first = card_of (f ++ a) cs ps page

  pub card_demand_3 : (4 ≤ first.run.settled.answer → first.run.settled.answer ≤ 8 → (ds ≡ cs) × (qs ≡ ps))
      → AgreeIn (course_of a) (course_of b) first.run.settled.rect → card_of (f ++ b) ds qs page ≡ first
  unfolding card_of
  card_demand_3 old agree =
      let sa = settles f a h la cs ps in
      let sb = settles f b h lb ds qs in
      let r = rect_kept (f ++ a) cs ps page ∙ ap (λ (w : Result). w.settled.rect) sa in
      let run = settle_of a (shot_at f) cs ps in
      let lists : 4 ≤ run.settled.answer → run.settled.answer ≤ 8 → (ds ≡ cs) × (qs ≡ ps) = λ u v. kept sa u v in
      let same = demand_3 (shot_at f) a b cs ps ds qs ha hb ec ep lists
      (subst (λ (q : Rect). AgreeIn (course_of a) (course_of b) q) r agree) in
      ap (λ (w : Result). cond (eqb w.settled.answer 0) (printed_of w page) (carded w page)) (sb ∙ same ∙ sym sa)
    where
      kept : {w : Result} → settle_input_of (f ++ a) cs ps ≡ w → 4 ≤ w.settled.answer → w.settled.answer ≤ 8 → (ds ≡ cs) × (qs ≡ ps)
      kept {w} e u v =
          let i = ap (λ (x : Result). x.settled.answer) e in
          let n = answer_kept (f ++ a) cs ps page (λ z. omega (arith, z, i)) in
          old (omega (arith, n, i)) (omega (arith, n, i))
