use native.Mathlib.Omega.{arith}
use Rattle.std.proofs.Common.{◌≡◌, ◌+◌, ◌-◌, ◌*◌, ◌/◌, ◌%◌}
use Rattle.root.proofs.Correcting.{exact, less, more, kept}
use Rattle.root.proofs.corrected.Goals as goal
use Rattle.root.proofs.corrected.Goals.{then-g-r, else-g-r+then-s-r, else-g-r+else-s-r}

pub returns-then-t-lt-NEXT : goal.returns-then-t-lt-NEXT
returns-then-t-lt-NEXT c =
    let m = c.args.m in
    let r = c.args.r in
    let a = r / 134217728 in
    let b = r % 134217728 in
    let e = m + 64 - a * a * 4 in
    let f = e * 16777216 - a * b in
    let p : a * a * 4 + e ≡ m + 64 = omega arith in
    let q : a * b + f ≡ e * 16777216 = omega arith in
    let x = exact m r a b e f (omega arith) p q in
    let lo = c.if-s-g.true in
    let hi = c.if-g-s.true in
    let l = c.if-t-ge-LEADING.true in
    let n = c.if-t-lt-NEXT.true in
    elim c.if-g-r.branch [
      | then-g-r w ↦ less m r _ _ _ x lo w.if-g-r.true w.t-is l n
      | else-g-r+then-s-r w ↦ more m r _ _ _ x hi w.if-s-r.true w.t-is l n
      | else-g-r+else-s-r w ↦ kept m r _ _ _ x w.if-s-r.false w.if-g-r.false w.t-is l n
    ]
