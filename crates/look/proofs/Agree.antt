-- Statements. A run depends on a course only at the spots that it looks at, and its rectangle is the one reckoned from those spots.
use Rattle.std.specs.Prelude.{◌≡◌, refl, List, Bool, true, false}
use Rattle.std.proofs.Common.{ap}
use Rattle.look.specs.Rect.{Rect, spot_ok}
use Rattle.look.specs.Tree.{Tree, done, look, step, Oracle, Spot, run, looks, exec, did, seen, answer, note, widen_where}
use Rattle.look.specs.Agree.{AgreeOn, rect_from}

first : (o p : Oracle) (b : Bool) (s : Spot) (l : List Spot) → AgreeOn o p (note b s l)
    → (answer b (p s.x s.z) ≡ answer b (o s.x s.z)) × AgreeOn o p l
first o p true s l h = (ap (answer true) h.0, h.1)
first o p false s l h = (refl, h)

-- Two courses that agree at every spot that a tree looks at on the first give the same answer and rectangle, and the same looks.
pub same_run : {A : Type 0} (o p : Oracle) (r : Rect) (t : Tree A) → AgreeOn o p (looks o t)
    → (exec p r t ≡ exec o r t) × (looks p t ≡ looks o t)
unfolding exec looks
same_run o p r (done a) h = (refl, refl)
same_run o p r (look x z c) h =
    let s : Spot = record { x = x; z = z } in
    let f = first o p (spot_ok x z) s (looks o (c (seen o x z))) h in
    let g = same_run o p (widen_where (spot_ok x z) r x z) (c (seen o x z)) f.1 in
    (rw f.0 g.0, rw f.0 (ap (note (spot_ok x z) s) g.1))
same_run o p r (step m t) h = same_run o p r t h

from_note : (b : Bool) (r : Rect) (s : Spot) (l : List Spot) → rect_from (widen_where b r s.x s.z) l ≡ rect_from r (note b s l)
unfolding rect_from
from_note true r s l = refl
from_note false r s l = refl

pub exec_is : {A : Type 0} (o : Oracle) (r : Rect) (t : Tree A) → exec o r t ≡ did (run o t) (rect_from r (looks o t))
unfolding exec run looks rect_from
exec_is o r (done a) = refl
exec_is o r (look x z c) =
    rw (← from_note (spot_ok x z) r (record { x = x; z = z }) (looks o (c (seen o x z))))
    (exec_is o (widen_where (spot_ok x z) r x z) (c (seen o x z)))
exec_is o r (step m t) = exec_is o r t
