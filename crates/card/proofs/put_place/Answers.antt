use Rattle.std.proofs.Common.{arith}
use Rattle.text.specs.Laws.{next}
use Rattle.card.specs.Columns.{place_fits}
use Rattle.card.proofs.Written.{place_put}
use Rattle.card.proofs.put_place.Goals as goal

pub put_value-a-requires : goal.put_value-a-requires
put_value-a-requires c = (omega arith, place_fits _ c.requires.1.x)

pub put_value-b-requires : goal.put_value-b-requires
put_value-b-requires c =
    let a = c.put_value-a.ensures in
    (omega (arith, next a, a.adds.long), place_fits _ c.requires.1.y)

pub put_value-requires : goal.put_value-requires
put_value-requires c =
    let a = c.put_value-a.ensures in
    let b = c.put_value-b.ensures in
    (omega (arith, next a, a.adds.long, next b, b.adds.long), place_fits _ c.requires.1.z)

pub returns : goal.returns
returns c = place_put _ _ c.put_value-a.ensures c.put_value-b.ensures c.put_value.ensures
