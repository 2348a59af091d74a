use Rattle.std.proofs.Common.{◌≡◌, ◌+◌, ◌-◌, length}
use Rattle.sheet.specs.Sheet.{surfaces, patches}
use Rattle.index.specs.Index.{least_from, greatest_from, steps_from, index_words}
use Rattle.index.proofs.spread.Given as goal

-- the least and the greatest edge of the patches that are left
abbrev pub invariant-loop-i : goal.invariant-loop-i
invariant-loop-i l =
    (least_from l.sheet l.d (surfaces l.sheet + patches l.sheet - l.i) l.i l.lo ≡ least_from l.sheet l.d (patches l.sheet) (surfaces l.sheet) l.initial.lo)
    × (greatest_from l.sheet l.d (surfaces l.sheet + patches l.sheet - l.i) l.i l.hi ≡ greatest_from l.sheet l.d (patches l.sheet)
    (surfaces l.sheet) l.initial.hi)

-- the cuts that are left
abbrev pub invariant-loop-k : goal.invariant-loop-k
invariant-loop-k l =
    (length l.index ≡ index_words) × (steps_from l.step (16 - l.k) (l.b + l.k) l.at l.index ≡ steps_from l.step 15 (l.b + 1) l.initial.at l.initial.index)
