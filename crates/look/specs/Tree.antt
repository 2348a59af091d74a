-- Definitions. The look tree: a definition that may look at a course, as its looks, its steps and its answer.
use Rattle.std.specs.Prelude.{ℕ, List, [], ◌∷◌, Bool, true, false, Float, Option, Some, None}
use Rattle.look.specs.Rect.{Rect, widen, spot_ok}
use Rattle.state.specs.declared.BallState.{BallState}
use Rattle.state.specs.declared.Phase.{Phase}
use Rattle.surface.specs.declared.GroundSample.{GroundSample}

-- a spot of 01: an x and a z
pub record Spot : Type 0 where
  pub x : Float
  pub z : Float

-- what a step made: the state that it took and the one that it made of it, its phase, whether the ball rolls on, and the evaluations of its
-- own search (a slide's; a hop searches after its step)
pub record Made : Type 0 where
  pub from : BallState
  pub to : BallState
  pub phase : Phase
  pub rolling : Bool
  pub evaluations : ℕ

-- what comes of a look: the sample there, or none where the spot failed its test
abbrev pub Look : Type 0
Look = Option GroundSample

-- It is done with an answer, or it looks at a spot and goes on by what comes of the look, or a step (01: one pass) is made.
pub data Tree (A : Type 0) : Type 0 where
  done : A → Tree A
  look : Float → Float → (Look → Tree A) → Tree A
  step : Made → Tree A → Tree A

-- a course, as the sample that each look finds
abbrev pub Oracle : Type 0
Oracle = Float → Float → GroundSample

-- a spot is tested before the look: one that fails is not looked at
abbrev pub answer : Bool → GroundSample → Look
answer true s = Some s
answer false s = None

abbrev pub seen : Oracle → Float → Float → Look
seen o x z = answer (spot_ok x z) (o x z)

-- p is added to the list, or is not
abbrev pub note : {X : Type 0} → Bool → X → List X → List X
note true p l = p ∷ l
note false p l = l

-- one tree and then another, by the first one's answer
unfoldable pub bind : {A B : Type 0} → Tree A → (A → Tree B) → Tree B
bind (done a) k = k a
bind (look x z c) k = look x z (λ s. bind (c s) k)
bind (step s t) k = step s (bind t k)

-- one look
abbrev pub look_tree : Float → Float → Tree Look
look_tree x z = look x z done

-- the answer, and the spots looked at, in order
unfoldable pub run : {A : Type 0} → Oracle → Tree A → A
run o (done a) = a
run o (look x z c) = run o (c (seen o x z))
run o (step s t) = run o t

unfoldable pub looks : {A : Type 0} → Oracle → Tree A → List Spot
looks o (done a) = []
looks o (look x z c) = note (spot_ok x z) (record { x = x; z = z }) (looks o (c (seen o x z)))
looks o (step s t) = looks o t

-- the answer, and the rectangle that the looks widen
pub record Did (A : Type 0) : Type 0 where
  pub value : A
  pub rect : Rect

abbrev pub did : {A : Type 0} → A → Rect → Did A
did a r = record { value = a; rect = r }

abbrev pub widen_where : Bool → Rect → Float → Float → Rect
widen_where true r x z = widen r x z
widen_where false r x z = r

unfoldable pub exec : {A : Type 0} → Oracle → Rect → Tree A → Did A
exec o r (done a) = did a r
exec o r (look x z c) = exec o (widen_where (spot_ok x z) r x z) (c (seen o x z))
exec o r (step s t) = exec o r t
