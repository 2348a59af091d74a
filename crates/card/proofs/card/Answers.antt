use Rattle.std.proofs.Common.{arith, ap, refl, sym, ◌∙◌}
use Rattle.text.specs.Laws.{next}
use Rattle.ground.specs.Settle.{Result, ended_by}
use Rattle.refusal.specs.Refusal.{answer_by}
use Rattle.refusal.proofs.Numbers.{never_0}
use Rattle.card.proofs.Made.{unfinished, few, spots, short, printed}
use Rattle.card.proofs.card.Goals as goal

pub returns-in_default-clause-card : goal.returns-in_default-clause-card
returns-in_default-clause-card c = unfinished _ _ _ c.settle_input-settled.ensures _ (λ z. never_0 _ (sym (ap answer_by c.in_default.is) ∙ z))

pub overflow_add-n : goal.overflow_add-n
overflow_add-n c = let k = few _ _ _ c.settle_input-settled.ensures (ap answer_by c.in-Ok.is) in omega arith

pub overflow_mul-n : goal.overflow_mul-n
overflow_mul-n c = let k = few _ _ _ c.settle_input-settled.ensures (ap answer_by c.in-Ok.is) in omega arith

pub returns-then-page-n-clause-card : goal.returns-then-page-n-clause-card
returns-then-page-n-clause-card c = short _ _ _ c.settle_input-settled.ensures _ (ap answer_by c.in-Ok.is) c.if-page-n.true refl

pub put_contacts-requires : goal.put_contacts-requires
put_contacts-requires c =
    let h = c.put_heading-at.ensures in
    (omega (arith, c.if-page-n.false, next h, h.adds.long), spots _ _ _ c.settle_input-settled.ensures (ap answer_by c.in-Ok.is))

pub returns-clause-card : goal.returns-clause-card
returns-clause-card c =
    printed _ _ _ c.settle_input-settled.ensures _ (ap answer_by c.in-Ok.is) (ap ended_by c.in-Ok.is) c.if-page-n.false c.put_heading-at.ensures
    c.put_contacts.ensures

pub returns-in_default-clause-settled : goal.returns-in_default-clause-settled
returns-in_default-clause-settled c = ap (λ (r : Result). r.settled) c.settle_input-settled.ensures

pub returns-then-page-n-clause-settled : goal.returns-then-page-n-clause-settled
returns-then-page-n-clause-settled c = ap (λ (r : Result). r.settled) c.settle_input-settled.ensures

pub returns-clause-settled : goal.returns-clause-settled
returns-clause-settled c = ap (λ (r : Result). r.settled) c.settle_input-settled.ensures
