use Rattle.std.proofs.Common.{◌≡◌, List, ap}
use Rattle.std.specs.Prelude.{Float}
use Rattle.fields.specs.Fields.{state_fields, written}
use Rattle.aim.specs.Aim.{Aim, Aimed, aim}
use Rattle.aim_door.specs.AimInput.{into, into_of}
use Rattle.aim_door.proofs.aim_into.Goals as goal

made : (a : Aimed) (l : List Float) {w : Aim} {c p b : List Float} → aim a c p ≡ w → b ≡ written l 0 (state_fields a.landing)
    → into a.settled c p b ≡ into_of w l
made a l e r = rw r (ap (λ (w : Aim). into_of w l) e)

pub returns-clause-into : goal.returns-clause-into
returns-clause-into c = rw c.settled_of.ensures.same (made _ _ c.aim_input-found.ensures.given (rw c.landing_of.ensures at c.put_state.ensures))
