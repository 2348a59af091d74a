use Rattle.std.proofs.Common.{rules, tests, arith, length, List, ℕ, ◌≡◌, ◌∙◌}
use Rattle.std.specs.Prelude.{Float}
use Rattle.std.proofs.lemmas.Iterator.{YieldsList-from_slice}
use Rattle.std.proofs.lemmas.Iterator.Consumers.{YieldsList-from_enumerate}
use Rattle.std.proofs.lemmas.Iterator.Search.{all_from_yields_List}
use Rattle.layout.specs.Layout.{least_at, entry_ok}
use Rattle.layout.proofs.Chunks.{all_in}
use Rattle.layout.proofs.entries_ok.Goals as goal

pub returns : goal.returns
returns c =
    let n : length c.as_chunks.result.0.now ≡ 256 = omega arith in
    all_from_yields_List (λ (p : ℕ × List Float). entry_ok p.1 (least_at c.args.count p.0) 0) _ _ c.all.result c.all.ensures.ran
    (YieldsList-from_enumerate (YieldsList-from_slice c.as_chunks.result.0.now (cc)) c.enumerate.ensures.count) (λ x b q k. search (rules, tests))
    ∙ all_in c.args.l.now c.told-l _ _ c.as_chunks.ensures.front n c.args.count
