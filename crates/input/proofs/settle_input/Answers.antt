use Rattle.std.specs.Prelude.{ℕ, Bool, List, Float, length, ◌⊎◌, ◌<◌, ◌≡◌}
use Rattle.std.proofs.Common.{arith, inl, inr, ap, ◌∙◌, le-leb}
use borrow.Author.Tests.{lt-leb}
use Rattle.ground.specs.Settle.{Settled, result_of, refusal}
use Rattle.refusal.specs.Refusal.{number_of}
use Rattle.input.specs.Input.{settle_input_by}
use Rattle.input.proofs.Head.{shot_of_head}
use Rattle.input.proofs.settle_input.Goals as goal

not_taken : (fading : Bool) (s : List ℕ) (cs ps : List Float) → (length s < 240) ⊎ (34048 < length s)
    → result_of (refusal 12) cs ps ≡ settle_input_by fading s cs ps
unfolding settle_input_by
not_taken fading s cs ps (inl h) = rw (lt-leb 240 (length s) h)
not_taken fading s cs ps (inr h) = rw (le-leb 240 (length s) (omega arith), lt-leb (length s) 34048 h)

pub returns-in-Ok : goal.returns-in-Ok
unfolding settle_input_by
returns-in-Ok c =
    let a = c.args in
    let s = a.input.now in
    let p = c.in-Ok.ensures in
    rw (
      le-leb 240 (length s) p.0,
      le-leb (length s) 34048 p.1,
      ← p.3,
      ← shot_of_head s a.fading,
      ← p.2,
      ← c.in-Ok.head-is,
      ← c.in-Ok.sheet-is,
      ← c.shot_of.ensures,
    ) c.settle.ensures

pub returns-in-Err : goal.returns-in-Err
returns-in-Err c =
    let a = c.args in
    let e = c.in-Err.ensures in
    ap (λ (r : Settled). result_of r a.contacts.now a.points.now) (c.refused.ensures ∙ ap (λ r. refusal (number_of r)) (c.in-Err.refusal-is ∙ e.0))
    ∙ not_taken a.fading a.input.now a.contacts.now a.points.now e.1
