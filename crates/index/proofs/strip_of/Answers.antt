use Rattle.std.proofs.Common.{arith, ◌≡◌, ◌∙◌, ◌-◌, ◌*◌, ◌%◌, ◌^◌}
use Rattle.index.proofs.Cuts.{half, moved, stayed, strip_last}
use Rattle.index.proofs.strip_of.Goals as goal

pub loop-k-preserved-then-cut_at-x : goal.loop-k-preserved-then-cut_at-x
loop-k-preserved-then-cut_at-x c =
    let k = c.loop-k.k in
    let h = half k c.loop-k-test.true in
    let s : 1 * 2 ^ (k - 1) % 18446744073709551616 ≡ 2 ^ (k - 1) = omega arith in
    (omega arith, moved _ _ _ _ _ c.loop-k-test.true s c.cut_at.ensures c.if-cut_at-x.true ∙ c.loop-k.invariant.1)

pub loop-k-preserved : goal.loop-k-preserved
loop-k-preserved c =
    let k = c.loop-k.k in
    let h = half k c.loop-k-test.true in
    let s : 1 * 2 ^ (k - 1) % 18446744073709551616 ≡ 2 ^ (k - 1) = omega arith in
    (omega arith, stayed _ _ _ _ _ c.loop-k-test.true s c.cut_at.ensures c.if-cut_at-x.false ∙ c.loop-k.invariant.1)

pub returns-clause-strip : goal.returns-clause-strip
returns-clause-strip c = rw (← c.number-d.ensures.number) (strip_last _ _ _ _ _ (omega arith) ∙ c.loop-k.invariant.1)
