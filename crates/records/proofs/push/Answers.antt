use Rattle.std.proofs.Common.{◌≡◌, ◌+◌, ◌*◌, ◌<◌, arith, refl, ap, ◌∙◌, add-one, length}
use Rattle.std.proofs.Math.Seq.{paste, paste-suc}
use lib.Ieee.{nan}
use Rattle.records.proofs.Laws.{pushes_done, pushes_full, room}
use Rattle.records.proofs.push.Goals as goal

pub returns-then-n-list : goal.returns-then-n-list
returns-then-n-list c = pushes_full _ _ _ _ c.if-n-list.true

pub loop-i-preserved : goal.loop-i-preserved
loop-i-preserved c =
    let r = room _ _ _ c.requires c.if-n-list.false in
    let h : c.args.n * length c.args.rec.now + c.loop-i.i < length c.args.list.now = omega (arith, r, c.loop-i-test.true) in
    rw (c.loop-i.invariant, add-one) (paste-suc c.args.list.now (c.args.n * length c.args.rec.now) c.args.rec.now _ nan h c.loop-i-test.true)

pub returns : goal.returns
returns c =
    let e : c.loop-i.i ≡ length c.args.rec.now = omega (arith, c.loop-i-test.false) in
    pushes_done _ _ _ _ _ c.requires refl c.if-n-list.false
    (c.loop-i.invariant ∙ ap (paste c.args.list.now (c.args.n * length c.args.rec.now) c.args.rec.now) e)
