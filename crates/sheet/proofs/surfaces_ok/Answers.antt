use Rattle.std.proofs.Common.{rules, tests, arith, ◌∙◌}
use Rattle.std.proofs.lemmas.Iterator.{YieldsList-from_range}
use Rattle.std.proofs.lemmas.Iterator.Search.{all_from_yields_List}
use Rattle.sheet.specs.Sheet.{surface_ok}
use Rattle.sheet.proofs.Range.{all_range}
use Rattle.sheet.proofs.surfaces_ok.Goals as goal

pub returns : goal.returns
returns c =
    all_from_yields_List (surface_ok c.args.sheet.now) _ _ c.all.result c.all.ensures.ran
    (YieldsList-from_range 0 c.args.end c.args.end (cc) (omega arith)) (λ x b q k. search (rules, tests))
    ∙ all_range (surface_ok c.args.sheet.now) c.args.end 0
