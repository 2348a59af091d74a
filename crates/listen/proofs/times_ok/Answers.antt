use Rattle.std.proofs.Common.{refl, sym, length, ◌∙◌, ◌<◌, ◌≤◌}
use lib.Ieee.{of_bits, round}
use Rattle.listen.specs.Listen.{firsts}
use Rattle.listen.proofs.Walking.{firsts_length}
use Rattle.listen.proofs.Laws.{firsts_at, low, on, all}
use Rattle.listen.proofs.times_ok.Goals as goal

pub loop-i-init : goal.loop-i-init
unfolding of_bits round
loop-i-init c = refl

pub returns-then-not-time_ok : goal.returns-then-not-time_ok
returns-then-not-time_ok c =
    let a = c.args in
    let h = c.loop-i-test.true in
    let k : c.loop-i.i < length (firsts a.width a.n a.list.now) = rw (firsts_length a.width a.n a.list.now) h in
    low (firsts a.width a.n a.list.now) c.loop-i.i _ _ c.loop-i.invariant k (firsts_at a.width a.n c.loop-i.i a.list.now h)
    (sym c.time_ok.ensures ∙ c.if-not-time_ok.true)

pub loop-i-preserved : goal.loop-i-preserved
loop-i-preserved c =
    let a = c.args in
    let h = c.loop-i-test.true in
    let k : c.loop-i.i < length (firsts a.width a.n a.list.now) = rw (firsts_length a.width a.n a.list.now) h in
    on (firsts a.width a.n a.list.now) c.loop-i.i _ _ c.loop-i.invariant k (firsts_at a.width a.n c.loop-i.i a.list.now h)
    (sym c.time_ok.ensures ∙ c.if-not-time_ok.false)

pub returns : goal.returns
returns c =
    let a = c.args in
    let k : length (firsts a.width a.n a.list.now) ≤ c.loop-i.i = rw (firsts_length a.width a.n a.list.now) c.loop-i-test.false in
    all (firsts a.width a.n a.list.now) c.loop-i.i _ c.loop-i.before c.loop-i.invariant k
