use Rattle.std.proofs.Common.{length, ◌≡◌, ◌∙◌}
use Rattle.std.proofs.lemmas.List.{length-map}
use Rattle.fields.specs.Fields.{whole_of}
use Rattle.shelf_layout.proofs.Laws.{place_written}
use Rattle.shelf_layout.proofs.write_place.Goals as goal

pub returns : goal.returns
returns c =
    let a = c.args in
    let n : length a.p.now.name ≡ 13 = search in
    place_written a.p.now c.requires
    (record { same = rw c.name_numbers.ensures at c.put.ensures; size = length-map a.p.now.name whole_of ∙ n }) c.put_state.ensures
