use Rattle.std.proofs.Common.{rules, tests, arith, length, ◌≡◌}
use Rattle.layout.proofs.Chunks.{entries_made}
use Rattle.layout.proofs.entries_at.Goals as goal

pub returns : goal.returns
returns c =
    let n : length c.as_chunks.result.0.now ≡ 256 = omega arith in
    entries_made c.args.l.now c.told-l _ _ c.as_chunks.ensures.front n _ _ (λ i y q k. search (rules, tests)) c.from_fn.ensures.items
