use Rattle.std.proofs.Common.{◌≡◌, ℕ, List, length}
use borrow.Author.Tests.{ne_eqb, eq-eqb}
use lib.Ieee.{Float}
use Rattle.state.specs.declared.BallState.{BallState}
use Rattle.aero.specs.declared.BallModel.{BallModel}
use Rattle.fields.specs.Fields.{double_at, state_at, ball_at}
use Rattle.ground.specs.Step.{StepOut, step_of}
use Rattle.capi.specs.Doors.{Door, stepped, step_door_of}
use Rattle.capi.proofs.dimple_step.Goals as goal

makes : (sheet : List ℕ) (p b l : List Float) {p' b' l' : List Float} {s : BallState} {m : BallModel} {r : StepOut} {d : Door} → length p ≡ 3
    → length b ≡ 12 → length l ≡ 11 → p' ≡ p → b' ≡ b → l' ≡ l → s ≡ state_at l' 0 → m ≡ ball_at b' 0
    → r ≡ step_of sheet (double_at p' 0) (double_at p' 1) (double_at p' 2) m s → d ≡ stepped r l' → d ≡ step_door_of sheet p b l
unfolding step_door_of
makes sheet p b l h1 h2 h3 e1 e2 e3 x1 x2 x3 x4 =
    rw (eq-eqb _ _ h1, eq-eqb _ _ h2, eq-eqb _ _ h3, ← e1, ← e2, ← e3, ← x1, ← x2, ← x3) x4

pub returns-in_default : goal.returns-in_default
unfolding step_door_of
returns-in_default c = rw (c.from.ensures, ne_eqb _ _ c.in_default.ensures.cases)

pub returns-in_default-as_array : goal.returns-in_default-as_array
unfolding step_door_of
returns-in_default-as_array c =
    rw (
      c.from-in_default-as_array.ensures,
      eq-eqb _ _ c.in-Some.ensures.cases.long,
      ne_eqb _ _ c.in_default-as_array.ensures.cases,
    )

pub returns-in_default-as_mut_array : goal.returns-in_default-as_mut_array
unfolding step_door_of
returns-in_default-as_mut_array c =
    rw (
      c.from-in_default-as_mut_array.ensures,
      eq-eqb _ _ c.in-Some.ensures.cases.long,
      eq-eqb _ _ c.in-Some-as_array.ensures.cases.long,
      ne_eqb _ _ c.in_default-as_mut_array.ensures.cases,
    )

pub returns : goal.returns
returns c =
    let p = c.in-Some.ensures.cases in
    let b = c.in-Some-as_array.ensures.cases in
    let l = c.in-Some-as_mut_array.ensures.cases in
    makes _ _ _ _ p.long b.long l.long p.same b.same l.same c.state_at-s.ensures c.ball_at-b.ensures c.step-moved.ensures
    (rw c.answer.ensures (c.write_step.ensures c.state_at-s.result))
