use Rattle.std.proofs.Common.{ℕ, List, arith, refl, sym, length, ◌∙◌, ◌<◌, ◌≤◌, ◌+◌, ◌-◌}
use borrow.Rule.Slice.PartMut.{put_mid}
use lib.Ieee.{Float}
use lib.Seq.{length-sets}
use Rattle.listen.specs.Listen.{contact_times}
use Rattle.listen.proofs.Walking.{firsts_length}
use Rattle.listen.proofs.Laws.{firsts_at, both, either, filled}
use Rattle.listen.proofs.Along.{turn_paired, turn_heard, turn_computed, ends}
use Rattle.listen.proofs.walk.Goals as goal

inside : (n j : ℕ) (cs : List Float) → j < n → j < length (contact_times n cs)
inside n j cs h = omega (arith, firsts_length 20 n cs)

pub loop-i-preserved-in-Paired : goal.loop-i-preserved-in-Paired
loop-i-preserved-in-Paired c =
    let a = c.args in
    let b = both c.loop-i.i (length a.heard.now) c.loop-i.j a.n c.loop-i-test.true in
    rw c.in-Paired.is
    (turn_paired c.loop-i.invariant _ _ b.0 (inside a.n c.loop-i.j a.contacts.now b.1) refl (firsts_at 20 a.n c.loop-i.j a.contacts.now b.1)
    (sym c.front-m.ensures ∙ c.in-Paired.is))

pub loop-i-preserved-in-HeardOnly : goal.loop-i-preserved-in-HeardOnly
loop-i-preserved-in-HeardOnly c =
    let a = c.args in
    let b = both c.loop-i.i (length a.heard.now) c.loop-i.j a.n c.loop-i-test.true in
    rw c.in-HeardOnly.is
    (turn_heard c.loop-i.invariant _ _ b.0 (inside a.n c.loop-i.j a.contacts.now b.1) refl (firsts_at 20 a.n c.loop-i.j a.contacts.now b.1)
    (sym c.front-m.ensures ∙ c.in-HeardOnly.is))

pub loop-i-preserved : goal.loop-i-preserved
loop-i-preserved c =
    let a = c.args in
    let b = both c.loop-i.i (length a.heard.now) c.loop-i.j a.n c.loop-i-test.true in
    rw c.in-ComputedOnly.is
    (turn_computed c.loop-i.invariant _ _ b.0 (inside a.n c.loop-i.j a.contacts.now b.1) refl (firsts_at 20 a.n c.loop-i.j a.contacts.now b.1)
    (sym c.front-m.ensures ∙ c.in-ComputedOnly.is))

pub overflow_add-behind : goal.overflow_add-behind
overflow_add-behind c = omega (arith, c.loop-i.invariant.contacts, firsts_length 20 c.args.n c.args.contacts.now)

pub slice_bounds-fill-count-2 : goal.slice_bounds-fill-count-2
slice_bounds-fill-count-2 c = omega (arith, c.loop-i.invariant.contacts, firsts_length 20 c.args.n c.args.contacts.now)

pub slice_bounds-fill-start-2 : goal.slice_bounds-fill-start-2
slice_bounds-fill-start-2 c = omega (arith, c.loop-i.invariant.contacts, firsts_length 20 c.args.n c.args.contacts.now)

pub returns : goal.returns
returns c =
    let a = c.args in
    let l = c.loop-i in
    let k = firsts_length 20 a.n a.contacts.now in
    let j : l.j ≤ a.n = omega (arith, l.invariant.contacts) in
    let m = filled l.marks l.i (length a.heard.now) 1 l.invariant.heard (omega (arith, l.invariant.long)) (c.fill.ensures.after (λ y e. e)) in
    let o : length a.heard.now + a.n ≤ length (put_mid l.i (length a.heard.now - l.i) l.marks c.fill.new.self) = rw (m, length-sets)
    (omega (arith, l.invariant.long)) in
    ends a.n _ _ l.invariant k (either l.i (length a.heard.now) l.j a.n c.loop-i-test.false) m
    (filled _ (length a.heard.now + l.j) (length a.heard.now + a.n) 2 (omega arith) o (c.fill-2.ensures.after (λ y e. e)))
