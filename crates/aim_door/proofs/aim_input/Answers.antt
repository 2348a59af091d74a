use Rattle.std.specs.Prelude.{false, length}
use Rattle.std.proofs.Common.{inl, inr, le-leb}
use Rattle.refusal.proofs.Failed.{failed}
use Rattle.input.proofs.Head.{shot_of_head}
use Rattle.aim_door.specs.AimInput.{aim_input_of}
use Rattle.aim_door.proofs.Sized.{too_short, too_long}
use Rattle.aim_door.proofs.aim_input.Goals as goal

pub returns-in_err-head-clause-given : goal.returns-in_err-head-clause-given
returns-in_err-head-clause-given c =
    let e = c.in_err-head.ensures in
    rw (failed _ c.from_residual.ensures.1, e.0) (elim e.1 [ inl h ↦ too_short _ _ _ _ _ _ h | inr h ↦ too_long _ _ _ _ _ _ h ])

pub returns-clause-given : goal.returns-clause-given
unfolding aim_input_of
returns-clause-given c =
    let s = c.args.input.now in
    let p = c.in_ok-head.ensures in
    rw (
      le-leb 240 (length s) p.0,
      le-leb (length s) 34048 p.1,
      ← p.3,
      ← shot_of_head s false,
      ← p.2,
      ← c.in_ok-head.head-is,
      ← c.in_ok-head.sheet-is,
      ← c.shot_of-shot.ensures,
    ) c.aim.ensures.given
