use Rattle.std.proofs.Common.{rules, tests, arith, ◌∙◌, ◌+◌}
use Rattle.std.proofs.lemmas.Iterator.{YieldsList-from_range}
use Rattle.std.proofs.lemmas.Iterator.Search.{all_from_yields_List}
use Rattle.sheet.specs.Sheet.{patch_ok}
use Rattle.sheet.proofs.Range.{all_range}
use Rattle.sheet.proofs.patches_ok.Goals as goal

pub returns : goal.returns
returns c =
    all_from_yields_List (patch_ok c.args.sheet.now) _ _ c.all.result c.all.ensures.ran
    (YieldsList-from_range c.args.count (c.args.count + c.args.n) c.args.n (cc) (omega arith)) (λ x b q k. search (rules, tests))
    ∙ all_range (patch_ok c.args.sheet.now) c.args.n c.args.count
