use Rattle.std.proofs.Common.{arith}
use Rattle.text.specs.Text.{signed_of}
use Rattle.text.specs.Laws.{next}
use Rattle.card.specs.Columns.{number_fits, time_fits}
use Rattle.card.proofs.Written.{contact_put}
use Rattle.card.proofs.put_contact.Goals as goal

pub put_signed_right-a-requires : goal.put_signed_right-a-requires
unfolding signed_of
put_signed_right-a-requires c = (omega arith, number_fits _ c.requires.1.number)

pub put_value-b-requires : goal.put_value-b-requires
put_value-b-requires c =
    let a = c.put_signed_right-a.ensures in
    (omega (arith, next a, a.adds.long), time_fits _ c.requires.1.time)

pub returns : goal.returns
returns c = contact_put _ _ c.put_signed_right-a.ensures c.put_value-b.ensures c.put_place-c.ensures c.put.ensures
