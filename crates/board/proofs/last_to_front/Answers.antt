use Rattle.std.proofs.Common.{arith, refl, length, ◌≡◌, ◌<◌, ◌-◌, ◌∙◌}
use Rattle.board.proofs.Shift.{shift_turn, shift_end, all_shifted}
use Rattle.board.proofs.last_to_front.Goals as goal

pub loop-i-init : goal.loop-i-init
loop-i-init c = refl

pub loop-i-preserved : goal.loop-i-preserved
loop-i-preserved c =
    let l = c.loop-i in
    let k : length c.args.entries.now - 1 < length l.entries = omega arith in
    shift_turn l.entries _ l.i l.next _ c.loop-i-test.true k ∙ l.invariant

pub returns : goal.returns
returns c =
    let l = c.loop-i in
    let e : l.i ≡ length c.args.entries.now - 1 = omega arith in
    let k : length c.args.entries.now - 1 < length l.entries = omega arith in
    shift_end l.entries _ l.next k ∙ (rw e at l.invariant) ∙ all_shifted c.args.entries.now _ _ (omega arith)
