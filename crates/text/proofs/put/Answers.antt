use Rattle.std.proofs.Common.{arith, refl, length, ◌+◌, List, ℕ, subst, sym}
use Rattle.std.proofs.lemmas.Slice.{put_mid-paste}
use Rattle.text.specs.Text.{Adds}
use Rattle.text.specs.Laws.{adds}
use Rattle.text.proofs.put.Goals as goal

pub returns : goal.returns
returns c =
    let a = c.args in
    subst (λ (m : List ℕ). Adds a.out.now a.at a.word.now (a.at + length a.word.now) m)
    (sym (put_mid-paste _ _ _ _ a.word.now (length a.word.now) c.copy_from_slice.ensures.after (omega arith) refl))
    (adds a.out.now a.at a.word.now c.requires)
