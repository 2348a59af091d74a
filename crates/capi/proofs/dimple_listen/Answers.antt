use Rattle.std.proofs.Common.{Result, Ok, Err, refl, ◌≡◌}
use borrow.Author.Tests.{eq-eqb, ne_eqb}
use Rattle.refusal.specs.declared.Refusal.{Refusal}
use Rattle.refusal.specs.Refusal.{answer_by}
use Rattle.listen.specs.declared.Totals.{Totals}
use Rattle.listen.specs.Listen.{heard_by}
use Rattle.capi.specs.Listens.{listen_door_of}
use Rattle.capi.proofs.dimple_listen.Goals as goal

same_answer : (x : Result Totals Refusal) → answer_by x ≡ (heard_by x).answer
same_answer (Ok t) = refl
same_answer (Err r) = refl

pub returns-in_default : goal.returns-in_default
unfolding listen_door_of
returns-in_default c = rw (c.from.ensures, ne_eqb _ _ c.in_default.ensures.cases)

pub returns : goal.returns
unfolding listen_door_of
returns c =
    rw (
      eq-eqb _ _ c.in-Some.ensures.cases.long,
      ← c.in-Some.ensures.cases.same,
      ← c.listen-heard.ensures,
      c.put.ensures,
      c.total_numbers.ensures,
      c.answer.ensures,
      same_answer c.listen-heard.result,
    )
