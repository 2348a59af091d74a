-- A rebound: flown and kept, or not flown or discarded.
use Rattle.std.proofs.Common.{◌*◌, ◌≤◌, List, length, le_refl, arith}
use Rattle.std.specs.Prelude.{Float}
use Rattle.refusal.proofs.Failed.{failed}
use Rattle.course.specs.Sheet.{course_of}
use Rattle.tally.specs.Inner.{place, Reached}
use Rattle.tally.proofs.Reached.{ended, on, passes, fails, point_fits, truncated}
use Rattle.hop.proofs.Ways.{flew, hop_stopped, hop_due}
use Rattle.strike.specs.Strike.{fly}
use Rattle.strike.proofs.Rebound.{to_hop, flying, grounded, hop_late, hop_kept, hop_discarded}
use Rattle.strike.proofs.fly.Goals.{In_ok-push_point, In_ok-hop, In-Break-Arrived}
use Rattle.strike.proofs.fly.Goals as goal

-- the point of the rebound is pushed
came_hop : (c : In_ok-push_point) (lc : List Float) → let a = c.args in
    Reached (course_of a.course.now) (fly a.c.now a.hops a.state.now a.hit.now) (place a.t.now lc a.points.now) 0
    (to_hop a.c.now a.state.now a.hit.now a.t.now.points) (place c.push_point.new.self lc c.push_point.new.points)
came_hop c lc = passes _ _ (flying _ _ _ _ c.if-not-hops.false) (c.push_point.ensures lc) c.in_ok-push_point.was

pub returns-then-not-hops : goal.returns-then-not-hops
returns-then-not-hops c lc = on (ended (grounded _ _ _ _ c.if-not-hops.true))

pub returns-in_err-push_point : goal.returns-in_err-push_point
returns-in_err-push_point c lc =
    rw (failed _ c.from_residual.ensures.1) (on (ended (fails _ _ (flying _ _ _ _ c.if-not-hops.false) (c.push_point.ensures lc) c.in_err-push_point.was)))

pub returns-in_err-hop : goal.returns-in_err-hop
returns-in_err-hop c lc =
    rw (failed _ c.from_residual-in_err-hop.ensures.1)
    (on (ended (hop_stopped _ _ _ (came_hop (goal.at.returns-in_err-hop c).In_ok-push_point lc) c.flight_of.ensures c.hop.ensures c.in_err-hop.was)))

pub returns-in-Continue : goal.returns-in-Continue
returns-in-Continue c lc =
    on (ended (hop_due _ _ _ (came_hop (goal.at.returns-in-Continue c).In_ok-push_point lc) c.flight_of.ensures c.hop.ensures c.in_ok-hop.was c.in-Continue.is))

pub returns-in-Break-Late : goal.returns-in-Break-Late
returns-in-Break-Late c lc =
    on (ended (hop_late _ _ _ _
    (flew _ _ _ (came_hop (goal.at.returns-in-Break-Late c).In_ok-push_point lc) c.flight_of.ensures c.hop.ensures c.in_ok-hop.was c.in-Break-Late.is)
    c.in-Break-Late.field-0-is))

pub returns-then-dies_out : goal.returns-then-dies_out
returns-then-dies_out c lc =
    on (ended (hop_kept _ _ _ _
    (flew _ _ _ (came_hop (goal.at.returns-then-dies_out c).In_ok-push_point lc) c.flight_of.ensures c.hop.ensures c.in_ok-hop.was c.in-Break-Arrived.is)
    c.in-Break-Arrived.field-0-is c.dies_out.ensures c.if-dies_out.true))

-- the mark's records fit in the list, before the hop and after it
mark_fits : (c : In-Break-Arrived) → c.args.t.now.points * 12 ≤ length c.hop.new.points
mark_fits c =
    let f = point_fits (course_of c.args.course.now) _ _ c.push_point.ensures c.in_ok-push_point.was in
    omega (arith, f.0, f.1, c.hop.auto.points, c.push_point.auto.points)

pub truncate-requires : goal.truncate-requires
truncate-requires c = mark_fits (goal.at.truncate-requires c).In-Break-Arrived

pub returns-else-dies_out : goal.returns-else-dies_out
returns-else-dies_out c lc =
    let r = hop_discarded _ _ _ _
    (flew _ _ _ (came_hop (goal.at.returns-else-dies_out c).In_ok-push_point lc) c.flight_of.ensures c.hop.ensures c.in_ok-hop.was c.in-Break-Arrived.is)
    c.in-Break-Arrived.field-0-is c.dies_out.ensures c.if-dies_out.false in
    on (ended (truncated _ _ r c.truncate.ensures (le_refl _) r.points.more (mark_fits (goal.at.returns-else-dies_out c).In-Break-Arrived)))
