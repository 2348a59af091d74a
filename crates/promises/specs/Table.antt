-- Definitions. A run as its tables show it (02, paper 8): the time and the place of a record, times that never decrease, a contact on the course, and
-- a run whose own last step came to rest.
use Rattle.std.specs.Prelude.{◌≡◌, true, List, [], ◌∷◌, ◌++◌, T, Float, get_or}
use Rattle.std.specs.Float.Ieee.{le, eq}
use Rattle.vector.specs.Vec.{zero3, same_vec}
use Rattle.state.specs.declared.BallState.{BallState}
use Rattle.look.specs.Tree.{Made, Oracle}
use Rattle.records.specs.Records.{Records, null}
use Rattle.tally.specs.declared.Conditions.{Conditions}
use Rattle.roll.specs.Roll.{roll_from, step_on, held_of, put_down, made_of}
use Rattle.roll.specs.declared.Roll.{Roll}
use Rattle.promises.specs.Terms.{Each, under}

-- 01: "20 a record: time, pos, .."; "Points, 11: time, pos, .." (twelve since 02, paper 12): the first four numbers of a record of either list
abbrev pub time_of : List Float → Float
time_of r = get_or r 0 null

abbrev pub x_of : List Float → Float
x_of r = get_or r 1 null

abbrev pub y_of : List Float → Float
y_of r = get_or r 2 null

abbrev pub z_of : List Float → Float
z_of r = get_or r 3 null

-- ---- times

-- the next record, if there is one, is not before t, by value
abbrev pub NextFrom : Float → Records → Type 0
NextFrom t [] = Unit
NextFrom t (r ∷ rs) = T (le t (time_of r))

-- "never decrease": no record is before the one that it follows
abbrev pub InOrder : Records → Type 0
InOrder [] = Unit
InOrder (r ∷ rs) = NextFrom (time_of r) rs × InOrder rs

-- the first record, if there is one, is at t
abbrev pub FirstAt : Float → Records → Type 0
FirstAt t [] = Unit
FirstAt t (r ∷ rs) = time_of r ≡ t

-- ---- heights

-- P of every record after the first
abbrev pub AfterFirst : (List Float → Type 0) → Records → Type 0
AfterFirst P [] = Unit
AfterFirst P (r ∷ rs) = Each P rs

module _ (o : Oracle) where
  -- "y equal to the course height at its x and z", bit for bit
  abbrev pub OnCourse : List Float → Type 0
  OnCourse r = y_of r ≡ (o (x_of r) (z_of r)).height

  -- ---- rest

  -- what a pass of the ground begins with, from s: that state and the sample under it. (Its other two fields only say when a point is due.)
  abbrev pub standing : BallState → Roll
  standing s = roll_from s (under o s)

  -- a run that made these steps, in order, and ended in this state, came to rest by the last of them
  pub record Rested (c : Conditions) (steps : List Made) (end : BallState) : Type 0 where
    pub before : List Made
    pub last : Made
    pub is : steps ≡ before ++ (last ∷ [])
    -- the last step is the ground's, from its own state on the sample under it
    pub step : last ≡ made_of last.from (step_on c (standing last.from))
    -- "met the Rust's condition for rest on the sample it tested": the step rolled, its velocity is 0, and the sample under its new spot holds a ball at rest
    pub held : held_of last.phase last.to (under o last.to) ≡ true
    -- the final state is that step's, put down on that sample
    pub put : end ≡ put_down c (standing last.from) last.to last.rolling (under o last.to)
    -- "zero velocity", by value in each component: a step that rolls on can end at −0, in the Rust too; where it stops at +0 the ball is left at +0
    pub still : same_vec end.vel zero3 ≡ true
    pub stopped : last.to.vel ≡ zero3 → end.vel ≡ zero3
    -- "y equal to the course height", by value: a level patch of height −0 leaves y = +0, in the Rust too
    pub ground : T (eq end.pos.y (under o end).height)
