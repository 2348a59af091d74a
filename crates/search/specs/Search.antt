-- Definitions. The bounded search for a root: ground.rs, fn find_root, over any way to evaluate.
use Rattle.std.specs.Prelude.{ℕ, zero, suc, ◌+◌, ◌-◌, ◌<◌, ◌≤◌, ◌≡◌, refl, Float, Bool, true, false, cond, Option, Some, None, ◌&&◌}
use Rattle.std.specs.declared.ops.ControlFlow.{ControlFlow}
use Rattle.std.specs.declared.ops.ControlFlow.TheVariants.{Continue, Break}
use Rattle.std.proofs.Common.{not-suc-le-zero, sub-one}
use Rattle.std.specs.Float.Ieee.{lt, le}
use Rattle.number.specs.Ops.{◌⊕◌, ◌⊖◌, ◌⊗◌, ◌⊘◌, dec}
use Rattle.number.specs.Number.{abs_of, within_of}
use Rattle.search.specs.declared.Bracket.{Bracket}
use Rattle.search.specs.declared.Search.{Search}
use Rattle.search.specs.declared.End.{End}
use Rattle.search.specs.declared.End.TheVariants.{Lo, Hi}

-- `ROOT_TOL`, `ROOT_MAX_ITER`
abbrev pub tolerance : Float
tolerance = dec 1 1000000000000

abbrev pub most_evaluations : ℕ
most_evaluations = 200

-- `let mid = 0.5 * (lo + hi);`
abbrev pub middle : Bracket → Float
middle b = dec 1 2 ⊗ (b.lo ⊕ b.hi)

-- `lo < x && x < hi`
unfoldable pub inside : Bracket → Float → Bool
inside b x = lt b.lo x && lt x b.hi

-- before the first evaluation no end has been replaced
unfoldable pub start : Bracket → Float → Search
start b guess = record { bracket = b; x = guess; side = None }

-- `if !(lo..=hi).contains(&x) { x = 0.5 * (lo + hi); }`: where the next evaluation is
unfoldable pub in_bracket : Search → Float
in_bracket s = cond (within_of s.bracket.lo s.bracket.hi s.x) s.x (middle s.bracket)

-- `if last_side == .. { f *= 0.5; }`
unfoldable pub halved_if : Bool → Float → Float
halved_if again f = cond again (f ⊗ dec 1 2) f

-- whether the end that was replaced last, if any, is lo, or is hi
abbrev pub is_lo : Option End → Bool
is_lo (Some Lo) = true
is_lo (Some Hi) = false
is_lo None = false

abbrev pub is_hi : Option End → Bool
is_hi (Some Lo) = false
is_hi (Some Hi) = true
is_hi None = false

-- the bracket after the evaluation fx at x: the end on the side of fx becomes x with fx, and the other end's value is halved
-- where that side was replaced the last time too (lo: above the root; hi: not above, a NaN among them)
unfoldable pub replaced : Search → Float → Float → Bracket
replaced s x fx =
    let b = s.bracket in
    cond (lt (dec 0 1) fx)
    (record { lo = x; f_lo = fx; hi = b.hi; f_hi = halved_if (is_lo s.side) b.f_hi })
    (record { lo = b.lo; f_lo = halved_if (is_hi s.side) b.f_lo; hi = x; f_hi = fx })

-- `lo + (hi - lo) * (f_lo / (f_lo - f_hi))` where the values fall, the middle elsewhere
unfoldable pub chord : Bracket → Float
chord b = cond (lt b.f_hi b.f_lo) (b.lo ⊕ (b.hi ⊖ b.lo) ⊗ (b.f_lo ⊘ (b.f_lo ⊖ b.f_hi))) (middle b)

-- the chord, or the middle where the chord is not strictly inside
unfoldable pub next_try : Bracket → Float
next_try b = cond (inside b (chord b)) (chord b) (middle b)

-- a bracket whose middle is not strictly inside gives hi: the `break`
unfoldable pub onward : Bracket → End → ControlFlow Float Search
onward b side = cond (inside b (middle b)) (Continue (record { bracket = b; x = next_try b; side = Some side })) (Break b.hi)

-- what follows from the evaluation fx at x
unfoldable pub narrowed : Search → Float → Float → ControlFlow Float Search
narrowed s x fx = cond (le (abs_of fx) tolerance) (Break x) (onward (replaced s x fx) (cond (lt (dec 0 1) fx) Lo Hi))

-- a way to evaluate: values, and one part after another
pub record Does (m : Type 0 → Type 0) : Type 1 where
  pub pure : {A : Type 0} → A → m A
  pub bind : {A B : Type 0} → m A → (A → m B) → m B

-- go on from the search, or end with the root
abbrev pub after_step : {m : Type 0 → Type 0} → Does m → (Search → m Float) → ControlFlow Float Search → m Float
after_step d k (Continue s) = k s
after_step d k (Break x) = d.pure x

-- at most n evaluations
unfoldable pub root_from : {m : Type 0 → Type 0} → Does m → (Float → m Float) → ℕ → Search → m Float
root_from d f zero s = d.pure s.bracket.hi
root_from d f (suc n) s = d.bind (f (in_bracket s)) (λ fx. after_step d (root_from d f n) (narrowed s (in_bracket s) fx))

-- ground.rs, fn find_root: `for _ in 0..ROOT_MAX_ITER`. 01: "at most 200 evaluations"
unfoldable pub find_root : {m : Type 0 → Type 0} → Does m → (Float → m Float) → Bracket → Float → m Float
find_root d f b guess = root_from d f most_evaluations (start b guess)

-- plain values, for an evaluation that does nothing else
abbrev pub plain : Does (λ (A : Type 0). A)
plain = record { pure = λ a. a; bind = λ a k. k a }

-- a value, and how many evaluations were made on the way to it
abbrev pub Counted : Type 0 → Type 0
Counted A = A × ℕ

abbrev pub counting : Does Counted
counting = record { pure = λ a. (a, 0); bind = λ x k. ((k x.0).0, x.1 + (k x.0).1) }

-- f at x, which is one evaluation
abbrev pub counted : (Float → Float) → Float → Counted Float
counted f x = (f x, 1)

-- a loop's turn, with evaluations left: from what is left before it to what is left after it
pub root_turn : {m : Type 0 → Type 0} (d : Does m) (f : Float → m Float) (s : Search) (n : ℕ) → 0 < n
    → d.bind (f (in_bracket s)) (λ fx. after_step d (root_from d f (n - 1)) (narrowed s (in_bracket s) fx)) ≡ root_from d f n s
unfolding root_from
root_turn d f s zero l = absurd (not-suc-le-zero l)
root_turn d f s (suc n) l = rw sub-one

-- a loop's end, with none left
pub root_ended : {m : Type 0 → Type 0} (d : Does m) (f : Float → m Float) (s : Search) (n : ℕ) → n ≤ 0 → d.pure s.bracket.hi ≡ root_from d f n s
unfolding root_from
root_ended d f s zero l = refl
root_ended d f s (suc n) l = absurd (not-suc-le-zero l)
