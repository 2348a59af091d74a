use Rattle.sheet.specs.Sheet.{covers, surfaces, patches}
use Rattle.index.specs.Index.{block}
use Rattle.index.proofs.Marks.{Scan}
use Rattle.index.proofs.find_boxed.Given as goal

abbrev pub invariant-loop-b : goal.invariant-loop-b
invariant-loop-b l = Scan (covers l.sheet l.x l.z) (surfaces l.sheet) (patches l.sheet) (block l.sheet l.b)
