use Rattle.std.proofs.Common.{◌≡◌, ◌-◌}
use Rattle.sheet.specs.Sheet.{covers, first}
use Rattle.index.proofs.find_between.Given as goal

-- the search from i on finds what the whole search finds
abbrev pub invariant-loop-i : goal.invariant-loop-i
invariant-loop-i l = first (covers l.sheet l.x l.z) (l.end - l.i) l.i ≡ first (covers l.sheet l.x l.z) (l.end - l.from) l.from
