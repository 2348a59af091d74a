use Rattle.std.proofs.Common.{arith, refl, ◌≡◌, ◌∙◌, ◌<◌, Bool, true, false}
use Rattle.std.specs.Int.{from_bool}
use Rattle.index.specs.Index.{reaches}
use Rattle.index.proofs.Marks.{no_marks, one_more}
use Rattle.index.proofs.mark.Goals as goal

byte : (b : Bool) → (from_bool b < 2) × (b ≡ true → from_bool b ≡ 1)
byte true = (omega arith, λ h. refl)
byte false = (omega arith, λ h. cc)

pub loop-j-init : goal.loop-j-init
loop-j-init c = (c.requires.few.0, no_marks _ _)

pub loop-j-preserved : goal.loop-j-preserved
unfolding reaches
loop-j-preserved c = (
  omega arith,
  one_more _ _ c.from.result _ _ (omega arith) (omega arith) (rw c.from.ensures (byte _).0)
      (λ h. c.from.ensures ∙ (byte _).1 (rw (c.patch_number.ensures, c.patch_number-in-loop-j.ensures) h)) c.loop-j.invariant.1.0 c.loop-j.invariant.1.1,
)
