use Rattle.std.proofs.Common.{◌≡◌, ℕ, List, length}
use borrow.Author.Tests.{ne_eqb, eq-eqb}
use lib.Ieee.{Float}
use Rattle.state.specs.declared.BallState.{BallState}
use Rattle.aero.specs.declared.BallModel.{BallModel}
use Rattle.fields.specs.Fields.{state_at, ball_at}
use Rattle.ground.specs.Step.{ImpactOut, impact_answer}
use Rattle.capi.specs.Doors.{Door, struck, impact_door_of}
use Rattle.capi.proofs.dimple_impact.Goals as goal

makes : (sheet : List ℕ) (b l : List Float) {b' l' : List Float} {s : BallState} {m : BallModel} {r : ImpactOut} {d : Door} → length b ≡ 12 → length l ≡ 10
    → b' ≡ b → l' ≡ l → s ≡ state_at l' 0 → m ≡ ball_at b' 0 → r ≡ impact_answer sheet m s → d ≡ struck r l' → d ≡ impact_door_of sheet b l
unfolding impact_door_of
makes sheet b l h1 h2 e1 e2 x1 x2 x3 x4 = rw (eq-eqb _ _ h1, eq-eqb _ _ h2, ← e1, ← e2, ← x1, ← x2, ← x3) x4

pub returns-in_default : goal.returns-in_default
unfolding impact_door_of
returns-in_default c = rw (c.from.ensures, ne_eqb _ _ c.in_default.ensures.cases)

pub returns-in_default-as_mut_array : goal.returns-in_default-as_mut_array
unfolding impact_door_of
returns-in_default-as_mut_array c =
    rw (
      c.from-in_default-as_mut_array.ensures,
      eq-eqb _ _ c.in-Some.ensures.cases.long,
      ne_eqb _ _ c.in_default-as_mut_array.ensures.cases,
    )

pub returns : goal.returns
returns c =
    let b = c.in-Some.ensures.cases in
    let l = c.in-Some-as_mut_array.ensures.cases in
    makes _ _ _ b.long l.long b.same l.same c.state_at-s.ensures c.ball_at-b.ensures c.impact-out.ensures
    (rw c.answer.ensures (c.write_impact.ensures c.state_at-s.result))
