-- The train of impacts, and the ground: how far the run has come at each place, and what it comes to where it ends.
use Rattle.std.proofs.Common.{◌≡◌, ◌+◌, ◌-◌, ◌*◌, ◌≤◌, [], length, arith}
use Rattle.refusal.proofs.Failed.{failed}
use Rattle.course.specs.Sheet.{course_of}
use Rattle.tally.specs.Language.{contact_width}
use Rattle.tally.specs.Inner.{place, first_tally, Bounded}
use Rattle.tally.proofs.Reached.{ended, on, came, passes, fails, contact_fits, no_contact}
use Rattle.tally.proofs.Loop.{still_bounded, bounded_after}
use Rattle.ground_phase.specs.GroundPhase.{ground as ground_of}
use Rattle.ground_phase.proofs.Ways.{ground_ends, ground_due, ground_fails}
use Rattle.train.specs.Train.{train}
use Rattle.train.proofs.Turn.{At, flown_to, starts, along, struck, struck_off, ends_last, ends_flight, flown, ends_drop, dropped, kept, arrived, ends_late}
use Rattle.train.proofs.run.Goals.{In_ok-hit, In_ok-flown, In_ok-push_contact, In_ok-state}
use Rattle.train.proofs.run.Goals as goal

-- at most 200 evaluations a step
bounded : (c : In_ok-hit) → Bounded c.args.c.now c.strike.new.t
bounded c = bounded_after (c.strike.ensures [] []) (still_bounded c.loop-hit.invariant.reached (record { limit = c.requires; work = omega arith }))

-- the rebound was flown, or not
came_fly : (c : In_ok-flown) → let a = c.args in
    At (course_of a.course.now) (train a.c.now a.landing.now) (place (first_tally a.landing.now) a.contacts.now a.points.now)
    (flown_to a.c.now c.loop-hit.state (a.c.now.physics.max_impacts - (c.loop-hit.t.contacts + 1 + 1)) c.in_ok-hit.hit c.in_ok-flown.flown)
    (place c.fly.new.t c.loop-hit.contacts c.fly.new.points)
came_fly c =
    flown _ _ _ _ _ (struck _ _ _ c.loop-hit.invariant.reached c.strike.ensures c.in_ok-hit.was c.rebounds-hops.ensures) c.is_last.ensures c.if-is_last.false
    c.fly.ensures c.in_ok-flown.was

-- its contact was pushed: one more, for which there was room
one_more : (c : In_ok-push_contact)
    → let k = c.push_contact.new.self.contacts in (k ≡ c.loop-hit.t.contacts + 1) × (k * contact_width ≤ length c.args.contacts.now)
one_more c =
    let e = no_contact (λ lc. c.strike.ensures lc []) in
    let i = no_contact c.fly.ensures in
    let k = contact_fits (course_of c.args.course.now) _ _ _ c.push_contact.ensures c.in_ok-push_contact.was in
    (omega (arith, e, i, k.0), omega (arith, k.1, c.loop-hit.invariant.reached.contacts.long))

pub loop-hit-init : goal.loop-hit-init
loop-hit-init c = starts _ _ _ _ _ c.new.ensures

pub returns-in_err-hit : goal.returns-in_err-hit
returns-in_err-hit c = rw (failed _ c.from_residual.ensures.1) (struck_off _ _ _ c.loop-hit.invariant.reached c.strike.ensures c.in_err-hit.was)

pub is_last-requires : goal.is_last-requires
is_last-requires c = omega (arith, c.loop-hit.invariant.room, c.well_formed)

pub returns-then-is_last : goal.returns-then-is_last
returns-then-is_last c =
    ends_last _ _ _ _ _ (struck _ _ _ c.loop-hit.invariant.reached c.strike.ensures c.in_ok-hit.was c.rebounds-hops.ensures) c.last_impact.result
    c.is_last.ensures
    c.if-is_last.true c.last_impact.ensures

pub fly-requires : goal.fly-requires
fly-requires c = bounded (goal.at.fly-requires c).In_ok-hit

pub returns-in_err-flown : goal.returns-in_err-flown
returns-in_err-flown c =
    rw (failed _ c.from_residual-in_err-flown.ensures.1)
    (ends_flight _ _ _ _ _
    (struck _ _ _ c.loop-hit.invariant.reached c.strike.ensures c.in_ok-hit.was c.rebounds-hops.ensures) c.is_last.ensures c.if-is_last.false
    c.fly.ensures c.in_err-flown.was)

pub returns-in_err-state : goal.returns-in_err-state
returns-in_err-state c =
    rw (failed _ c.from_residual-in_err-state.ensures.1)
    (ends_drop _ _ _ _ _ (came_fly (goal.at.returns-in_err-state c).In_ok-flown) c.in_default.not-Some c.drop_to_ground.ensures c.in_err-state.was)

pub returns-in_err-push_contact : goal.returns-in_err-push_contact
returns-in_err-push_contact c =
    rw (failed _ c.from_residual-in_err-push_contact.ensures.1)
    (on (ended (fails _ _ (kept _ _ _ _ _ (came_fly (goal.at.returns-in_err-push_contact c).In_ok-flown) c.in-Some.is) (c.push_contact.ensures _ _)
    c.in_err-push_contact.was)))

pub loop-hit-smaller : goal.loop-hit-smaller
loop-hit-smaller c = let k = one_more (goal.at.loop-hit-smaller c).In_ok-push_contact in omega (arith, k.0, k.1)

pub loop-hit-preserved : goal.loop-hit-preserved
loop-hit-preserved c =
    let k = one_more (goal.at.loop-hit-preserved c).In_ok-push_contact in
    along _ _ _ _ _ _ _
    (arrived _ _ _ (came (passes _ _ (kept _ _ _ _ _ (came_fly (goal.at.loop-hit-preserved c).In_ok-flown) c.in-Some.is) (c.push_contact.ensures _ _)
    c.in_ok-push_contact.was)) c.in-Arrived.is) k.0 k.1

pub returns-in-Late : goal.returns-in-Late
returns-in-Late c =
    ends_late _ _ _ (came (passes _ _ (kept _ _ _ _ _ (came_fly (goal.at.returns-in-Late c).In_ok-flown) c.in-Some.is) (c.push_contact.ensures _ _)
    c.in_ok-push_contact.was)) c.time_up.result c.in-Late.is c.time_up.ensures

-- the ball has dropped: the ground is left
came_drop : (c : In_ok-state) → let a = c.args in
    At (course_of a.course.now) (train a.c.now a.landing.now) (place (first_tally a.landing.now) a.contacts.now a.points.now)
    (ground_of a.c.now c.in_ok-state.state c.in_ok-hit.hit.«at») (place c.drop_to_ground.new.t c.drop_to_ground.new.contacts c.fly.new.points)
came_drop c =
    dropped _ _ _ _ _
    (flown _ _ _ _ _ (struck _ _ _ c.loop-hit.invariant.reached c.strike.ensures c.in_ok-hit.was c.rebounds-hops.ensures) c.is_last.ensures c.if-is_last.false
    c.fly.ensures c.in_ok-flown.was) c.in_default.not-Some c.drop_to_ground.ensures c.in_ok-state.was

pub ground-requires : goal.ground-requires
ground-requires c = record {
  bounded = bounded_after (c.drop_to_ground.ensures (course_of c.args.course.now) []) (bounded_after (c.fly.ensures [])
      (bounded (goal.at.ground-requires c).In_ok-hit));
}

pub returns-in_err-end : goal.returns-in_err-end
returns-in_err-end c =
    rw (failed _ c.from_residual-in_err-end.ensures.1)
    (ground_fails _ _ _ (came_drop (goal.at.returns-in_err-end c).In_ok-state) c.roll_of-roll.ensures c.ground.ensures c.in_err-end.was)

pub returns-in-Break : goal.returns-in-Break
returns-in-Break c =
    ground_ends _ _ _ (came_drop (goal.at.returns-in-Break c).In_ok-state) c.roll_of-roll.ensures c.ground.ensures c.in_ok-end.was c.in-Break.is

pub returns-in-Continue : goal.returns-in-Continue
returns-in-Continue c =
    ground_due _ _ _ (came_drop (goal.at.returns-in-Continue c).In_ok-state) c.roll_of-roll.ensures c.ground.ensures c.in_ok-end.was c.in-Continue.is
