use Rattle.sheet.specs.Sheet.{covers, surfaces, patches}
use Rattle.index.specs.Index.{low}
use Rattle.index.proofs.Marks.{Scan}
use Rattle.index.proofs.find_marked.Given as goal

abbrev pub invariant-loop-w : goal.invariant-loop-w
invariant-loop-w l = Scan (covers l.sheet l.x l.z) (surfaces l.sheet) (patches l.sheet) (low l.sheet l.w)
