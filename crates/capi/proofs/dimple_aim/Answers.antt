use Rattle.std.proofs.Common.{◌≡◌, ◌∙◌, ℕ, List, ap, length}
use Rattle.std.specs.Prelude.{Float}
use borrow.Author.Tests.{ne_eqb, eq-eqb}
use Rattle.ground.specs.Settle.{Settled}
use Rattle.aim_door.specs.AimInput.{Into, into, into_of, aim_input_of}
use Rattle.capi.specs.Doors.{reported}
use Rattle.capi.specs.Aims.{aim_door, aim_reported, aim_door_of}
use Rattle.capi.proofs.dimple_aim.Goals as goal

aims : (input : List ℕ) (c p : List Float) (x z d : Float) (f g : ℕ) (l b : List Float) {s : Settled} {c' p' b' l' : List Float} → length b ≡ 10
    → into s c' p' b' ≡ into_of (aim_input_of input (record { x = x; z = z; distance = d }) f g c p) b → l' ≡ reported s l
    → aim_door s.answer c' p' l' b' ≡ aim_door_of input c p x z d f g l b
unfolding aim_door_of
aims input c p x z d f g l b h e r = rw (eq-eqb _ _ h, r) (ap (λ (w : Into). aim_reported w l) e)

pub returns-in_default : goal.returns-in_default
unfolding aim_door_of
returns-in_default c = rw (c.from.ensures, ne_eqb _ _ c.in_default.ensures.cases)

pub returns : goal.returns
returns c =
    let l = c.in-Some.ensures.cases in
    rw (c.aim_answer-answer.ensures, ← l.same)
    (aims _ _ _ _ _ _ _ _ _ _ (rw l.same l.long) c.aim_into-found.ensures.into
    (rw c.aim_answer-answer.ensures at c.write_result.ensures ∙ ap (λ (s : Settled). reported s c.args.res.now) c.settled_of.ensures))
