use Rattle.std.proofs.Common.{◌≡◌, ◌+◌, ◌*◌, arith, refl, sym}
use Rattle.index.specs.Index.{Boxed, block}
use Rattle.index.proofs.Marks.{scan_start, scan_end, in_part, past_part}
use Rattle.index.proofs.Boxes.{outside}
use Rattle.index.proofs.find_boxed.Goals as goal

pub loop-b-init : goal.loop-b-init
loop-b-init c = scan_start _ _ _ _ (omega arith)

pub in_box-requires-clause-numbers : goal.in_box-requires-clause-numbers
unfolding Boxed
in_box-requires-clause-numbers c = (c.requires.boxes _ (omega arith)).1

pub loop-b-preserved-then-not-in_box : goal.loop-b-preserved-then-not-in_box
unfolding Boxed
loop-b-preserved-then-not-in_box c =
    past_part _ _ _ _ _ refl refl (omega arith) (omega arith) refl c.loop-b.invariant
    (outside _ _ _ _ _ _ _ (c.requires.boxes c.loop-b.b (omega arith)).0 c.in_box.ensures c.if-not-in_box.true)

pub returns-in-Some : goal.returns-in-Some
returns-in-Some c =
    let f : c.surfaces-count.result + 8 * c.loop-b.b ≡ block c.args.sheet.now c.loop-b.b = omega arith in
    let t : c.min-end.result ≡ block c.args.sheet.now (c.loop-b.b + 1) = omega arith in
    let h = rw c.in-Some.is at c.find_between.ensures in
    in_part _ _ _ _ _ f t (omega arith) (omega arith) h.1 c.loop-b.invariant (omega arith) h.0

pub loop-b-preserved : goal.loop-b-preserved
loop-b-preserved c =
    let f : c.surfaces-count.result + 8 * c.loop-b.b ≡ block c.args.sheet.now c.loop-b.b = omega arith in
    let t : c.min-end.result ≡ block c.args.sheet.now (c.loop-b.b + 1) = omega arith in
    past_part _ _ _ _ _ f t (omega arith) (omega arith) refl c.loop-b.invariant (rw c.in_default.is at c.find_between.ensures)

pub returns : goal.returns
returns c = sym (scan_end _ _ _ _ (omega arith) c.loop-b.invariant)
