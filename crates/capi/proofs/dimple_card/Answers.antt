use Rattle.std.proofs.Common.{◌≡◌, ◌∙◌, refl, ℕ, List, ap}
use Rattle.std.specs.Prelude.{Float, Result, Ok, Err}
use Rattle.refusal.specs.declared.Refusal.{Refusal}
use Rattle.ground.specs.Settle.{Settled, result_of, told_by}
use Rattle.card.specs.Card.{carded, card_of, printed_by}
use Rattle.capi.specs.Doors.{reported, answered}
use Rattle.capi.specs.Cards.{card_door, card_door_of}
use Rattle.capi.proofs.dimple_card.Goals as goal

cards : (input : List ℕ) (c p l : List Float) (page : List ℕ) {s : Settled} {c' p' l' : List Float} {page' : List ℕ}
    → carded (result_of s c' p') page' ≡ card_of input c p page → l' ≡ reported s l → card_door s.answer c' p' l' page' ≡ card_door_of input c p l page
unfolding card_door_of
cards input c p l page e h = rw (h, ← e)

-- the settle with the card's number is the card's
whole : (r : Result Unit Refusal) (s : Settled) → answered (printed_by r s).answer s ≡ printed_by r s
whole (Ok tt) s = refl
whole (Err e) s = refl

pub returns : goal.returns
returns c =
    let k = c.card-card.result in
    let e = whole k.printed (told_by k.settled) in
    rw c.card_answer-answer.ensures
    (cards _ _ _ _ _ c.card-card.ensures.card (rw c.card_answer-answer.ensures at c.write_result.ensures ∙ ap (λ (s : Settled). reported s c.args.res.now) e))
