-- Lemmas. How the parts of a settle run one after another: the laws that the proofs of the code are made of.
use Rattle.std.specs.Prelude.{◌≡◌, ℕ, zero, suc, ◌-◌, Bool, true, false, length, take, Float, Some, None}
use Rattle.std.proofs.Common.{ap}
use Rattle.std.proofs.Math.Path.{refl}
use Rattle.state.specs.declared.BallState.{BallState}
use Rattle.surface.specs.declared.GroundSample.{GroundSample}
use Rattle.look.specs.Tree.{Look, bind, Oracle, exec, did, Did, look_tree}
use Rattle.look.proofs.Tree.{ends}
use Rattle.look.specs.Rect.{Rect}
use Rattle.tally.specs.declared.Conditions.{Conditions}
use Rattle.tally.specs.Inner.{over_by}
use Rattle.state.specs.State.{state_ok}
use Rattle.tally.specs.Language.{M, Ran, ran, Log, Outcome, goes, stops, onward, ◌>>=◌, seen_at, tested}
use Rattle.tally.specs.Language.{with_points, look, test, mark, truncate, steps_left, Pass, again}
use Rattle.tally.specs.Language.{loop}

module _ {A B : Type 0} (o : Oracle) (q : Rect) (m : M A) (k : A → M B) (l : Log) {x : Outcome A} {l' : Log} {q' : Rect} where
  -- the callee went on
  pub went : {a : A} {d : Did (Ran B)} → did (ran x l') q' ≡ exec o q (m l) → x ≡ goes a → d ≡ exec o q' (k a l') → d ≡ exec o q ((m >>= k) l)
  unfolding ◌>>=◌
  went e h p = ends o q (m l) (λ (r : Ran A). onward k r.outcome r.log) e (ap (λ (y : Outcome A). ran y l') h) p

  -- the callee stopped
  pub halted : {n : ℕ} → did (ran x l') q' ≡ exec o q (m l) → x ≡ stops n → did (ran (stops n) l') q' ≡ exec o q ((m >>= k) l)
  unfolding ◌>>=◌ exec
  halted e h = ends o q (m l) (λ (r : Ran A). onward k r.outcome r.log) e (ap (λ (y : Outcome A). ran y l') h) refl

-- the words, each with what may follow it
module _ {B : Type 0} (o : Oracle) (q : Rect) (l : Log) where
  pub test_ok : (k : BallState → M B) {b b' : BallState} {d : Did (Ran B)} → b ≡ b' → state_ok b ≡ true → d ≡ exec o q (k b (tested b l))
      → d ≡ exec o q ((test b' >>= k) l)
  unfolding ◌>>=◌ exec bind test
  test_ok k e h p = rw (← e, h) p

  pub test_bad : (k : BallState → M B) {b b' : BallState} → b ≡ b' → state_ok b ≡ false → did (ran (stops 22) l) q ≡ exec o q ((test b' >>= k) l)
  unfolding ◌>>=◌ exec bind test
  test_bad k e h = rw (← e, h)

  pub look_saw : (k : GroundSample → M B) (x z : Float) {w : Look} {q' : Rect} {s : GroundSample} {d : Did (Ran B)}
      → did w q' ≡ exec o q (look_tree x z) → w ≡ Some s → d ≡ exec o q' (k s l) → d ≡ exec o q ((look x z >>= k) l)
  unfolding ◌>>=◌ look bind exec
  look_saw k x z e h p = ends o q (look_tree x z) (λ (w : Look). (seen_at w >>= k) l) e h p

  pub look_off : (k : GroundSample → M B) (x z : Float) {w : Look} {q' : Rect}
      → did w q' ≡ exec o q (look_tree x z) → w ≡ None → did (ran (stops 22) l) q' ≡ exec o q ((look x z >>= k) l)
  unfolding ◌>>=◌ look bind exec
  look_off k x z e h = ends o q (look_tree x z) (λ (w : Look). (seen_at w >>= k) l) e h refl

  pub marked : (k : ℕ → M B) {n : ℕ} {d : Did (Ran B)} → n ≡ length l.points.records → d ≡ exec o q (k n l) → d ≡ exec o q ((mark >>= k) l)
  unfolding ◌>>=◌ bind mark
  marked k e p = rw (← e) p

  pub truncated : (k : Unit → M B) (n : ℕ) {d : Did (Ran B)} → d ≡ exec o q (k tt (with_points (take n l.points.records) l))
      → d ≡ exec o q ((truncate n >>= k) l)
  unfolding ◌>>=◌ bind truncate
  truncated k n p = p

  pub left_steps : (k : ℕ → M B) (c : Conditions) {d : Did (Ran B)} → d ≡ exec o q (k (c.step_limit - l.steps) l) → d ≡ exec o q ((steps_left c >>= k) l)
  unfolding ◌>>=◌ bind steps_left
  left_steps k c p = p

-- the loop
module _ {A B : Type 0} (o : Oracle) (q : Rect) (late : A → Bool) (at_end : A → M B) (pass : A → M (Pass A B)) (a : A) (l : Log) where
  pub loop_late : (n : ℕ) {d : Did (Ran B)} → late a ≡ true → d ≡ exec o q (at_end a l) → d ≡ exec o q (loop n late at_end pass a l)
  unfolding loop
  loop_late zero t p = rw t p
  loop_late (suc n) t p = rw t p

  pub loop_out : {n : ℕ} → n ≡ 0 → late a ≡ false → did (ran (stops 23) l) q ≡ exec o q (loop n late at_end pass a l)
  unfolding loop exec
  loop_out e t = rw (e, t)

  pub loop_again : {n j : ℕ} {b : A} {x : Outcome (Pass A B)} {l' : Log} {q' : Rect} {d : Did (Ran B)}
      → n ≡ suc j → late a ≡ false → did (ran x l') q' ≡ exec o q (pass a l) → x ≡ goes (again b) → d ≡ exec o q' (loop j late at_end pass b l')
      → d ≡ exec o q (loop n late at_end pass a l)
  unfolding loop
  loop_again e t c h p = rw (e, t) (went o q (pass a) _ l c h p)

  pub loop_done : {n j : ℕ} (y : Outcome B) {x : Outcome (Pass A B)} {l' : Log} {q' : Rect}
      → n ≡ suc j → late a ≡ false → did (ran x l') q' ≡ exec o q (pass a l) → x ≡ over_by y → did (ran y l') q' ≡ exec o q (loop n late at_end pass a l)
  unfolding loop exec
  loop_done (goes r) e t c h = rw (e, t) (went o q (pass a) _ l c h refl)
  loop_done (stops i) e t c h = rw (e, t) (halted o q (pass a) _ l c h)
