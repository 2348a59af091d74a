use Rattle.std.proofs.Common.{rules, tests, arith, length, take, List, ◌≡◌, ◌∙◌}
use Rattle.std.specs.Prelude.{Float}
use Rattle.std.proofs.lemmas.Iterator.{YieldsList-from_slice}
use Rattle.std.proofs.lemmas.Iterator.Search.{all_from_yields_List}
use Rattle.shelf_layout.specs.Layout.{are_bytes}
use Rattle.shelf_layout.proofs.Chunks.{names_in}
use Rattle.shelf_layout.proofs.names_ok.Goals as goal

pub returns : goal.returns
returns c =
    let n : length c.as_chunks.result.0.now ≡ 16 = omega arith in
    all_from_yields_List (λ (p : List Float). are_bytes (take 13 p)) _ _ c.all.result c.all.ensures.ran
    (YieldsList-from_slice c.as_chunks.result.0.now (cc)) (λ x b q k. search (rules, tests))
    ∙ names_in c.args.l.now _ _ c.as_chunks.ensures.front n
