use Rattle.std.proofs.Common.{rules, tests, arith, length, ◌≡◌}
use Rattle.shelf_layout.proofs.Chunks.{places_made}
use Rattle.shelf_layout.proofs.places_at.Goals as goal

pub returns : goal.returns
returns c =
    let n : length c.as_chunks.result.0.now ≡ 16 = omega arith in
    places_made c.args.l.now _ _ c.as_chunks.ensures.front n _ _ (λ i y q k. search (rules, tests)) c.from_fn.ensures.items
