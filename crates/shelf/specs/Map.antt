-- Definitions. Names, and the plain map from names to states that 02's paper 9 holds a shelf against: a function, with the number of names kept.
use Rattle.std.specs.Prelude.{ℕ, ◌+◌, ◌-◌, Bool, true, false, ◌&&◌, cond, List, [], ◌∷◌, leb, eqb, length}
use Rattle.std.proofs.Math.Option.{Option, none, some}
use Rattle.number.specs.Ops.{dec}
use Rattle.vector.specs.Vec.{zero3}
use Rattle.state.specs.State.{state_ok}
use Rattle.state.specs.declared.BallState.{BallState}

-- ---- names: lists of bytes

-- A is 65, Z is 90
unfoldable pub is_letter : ℕ → Bool
is_letter b = leb 65 b && leb b 90

unfoldable pub letters : List ℕ → Bool
letters [] = true
letters (b ∷ n) = is_letter b && letters n

-- "names of 1 to 12 bytes, each A to Z"
unfoldable pub name_ok : List ℕ → Bool
name_ok n = leb 1 (length n) && leb (length n) 12 && letters n

-- the same bytes, one by one, and no more of them in either
unfoldable pub same : List ℕ → List ℕ → Bool
same [] [] = true
same [] (b ∷ n) = false
same (a ∷ m) [] = false
same (a ∷ m) (b ∷ n) = eqb a b && same m n

-- ---- the map
pub record Map : Type 0 where
  pub state : List ℕ → Option BallState
  pub count : ℕ

abbrev pub empty_map : Map
empty_map = record { state = λ n. none; count = 0 }

-- the function with another value at n
unfoldable pub update : (List ℕ → Option BallState) → List ℕ → Option BallState → List ℕ → Option BallState
update f n v m = cond (same n m) v (f m)

-- ---- the calls

pub data Call : Type 0 where
  save : List ℕ → BallState → Call
  return : List ℕ → Call
  drop : List ℕ → Call

-- what a call gives its caller. 01: "Every other number or state that a refused call hands back .. is 0 (+0)"; a save and a drop hand back no state
pub record Out : Type 0 where
  pub answer : ℕ
  pub state : BallState

abbrev pub zero_state : BallState
zero_state = record { time = dec 0 1; pos = zero3; vel = zero3; spin = zero3 }

abbrev pub out : ℕ → BallState → Out
out a s = record { answer = a; state = s }

abbrev pub told : ℕ → Out
told a = out a zero_state

-- a call's outcome, and the map after it
pub record Done : Type 0 where
  pub out : Out
  pub map : Map

abbrev pub done : Out → Map → Done
done o m = record { out = o; map = m }

abbrev pub with : Map → List ℕ → Option BallState → ℕ → Map
with m n v count = record { state = update m.state n v; count = count }

-- "Saving under a used name replaces that state"; "33 a new name with 16 kept"
unfoldable pub keep : Map → List ℕ → BallState → Option BallState → Done
keep m n s (some old) = done (told 0) (with m n (some s) m.count)
keep m n s none = cond (leb 16 m.count) (done (told 33) m) (done (told 0) (with m n (some s) (m.count + 1)))

-- "34 no such name on return or drop"
unfoldable pub give : Map → Option BallState → Done
give m (some s) = done (out 0 s) m
give m none = done (told 34) m

unfoldable pub lose : Map → List ℕ → Option BallState → Done
lose m n (some s) = done (told 0) (with m n none (m.count - 1))
lose m n none = done (told 34) m

-- "32 bad name, tested first"; a state that fails 01's test "gives 22, tested between 32 and 33"
unfoldable pub call : Map → Call → Done
call m (save n s) = cond (name_ok n) (cond (state_ok s) (keep m n s (m.state n)) (done (told 22) m)) (done (told 32) m)
call m (return n) = cond (name_ok n) (give m (m.state n)) (done (told 32) m)
call m (drop n) = cond (name_ok n) (lose m n (m.state n)) (done (told 32) m)

-- ---- lists of calls

-- the map after the calls, the first call first
unfoldable pub map_after : Map → List Call → Map
map_after m [] = m
map_after m (c ∷ calls) = map_after (call m c).map calls

-- what each of the calls gives
unfoldable pub map_outs : Map → List Call → List Out
map_outs m [] = []
map_outs m (c ∷ calls) = (call m c).out ∷ map_outs (call m c).map calls
