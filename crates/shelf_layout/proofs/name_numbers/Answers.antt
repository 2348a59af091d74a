use Rattle.std.proofs.Common.{rules, tests}
use Rattle.fields.specs.Fields.{whole_of}
use Rattle.shelf_layout.proofs.Chunks.{numbers_made}
use Rattle.shelf_layout.proofs.name_numbers.Goals as goal

pub returns : goal.returns
returns c = numbers_made whole_of _ _ _ _ c.told-name (λ x y q k. search (rules, tests)) c.map.ensures.items
