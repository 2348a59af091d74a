-- The loop: the passes left from here give what all of them gave from the start.
use Rattle.std.proofs.Common.{[], arith, sym, ◌∙◌}
use Rattle.refusal.proofs.Failed.{failed}
use Rattle.tally.proofs.Loop.{still_bounded, starts, stands, ends_late, ends_due, continues, breaks, stops_by}
use Rattle.hop.specs.Hop.{hop_from}
use Rattle.hop.proofs.hop.Goals as goal

pub loop-aero-init : goal.loop-aero-init
loop-aero-init c lc = starts _ _ _ _ _ _ _

pub returns-then-has_come : goal.returns-then-has_come
unfolding hop_from
returns-then-has_come c lc =
    rw (← c.from_spin_vector-aero.ensures) (ends_late (c.loop-aero.invariant lc) (sym c.has_come.ensures ∙ c.if-has_come.true) (stands _ _ _))

pub returns-then-t-c : goal.returns-then-t-c
unfolding hop_from
returns-then-t-c c lc =
    rw (← c.from_spin_vector-aero.ensures) (sym c.has_come.ensures ∙ c.if-has_come.false, ends_due (c.loop-aero.invariant lc) c.if-t-c.true)

pub hop_step-requires-clause-bounded : goal.hop_step-requires-clause-bounded
hop_step-requires-clause-bounded c = still_bounded (c.loop-aero.invariant []).reached c.requires

pub returns-in_err-g : goal.returns-in_err-g
unfolding hop_from
returns-in_err-g c lc =
    rw (failed _ c.from_residual.ensures.1, ← c.from_spin_vector-aero.ensures)
    (stops_by (c.loop-aero.invariant lc) (sym c.has_come.ensures ∙ c.if-has_come.false) c.if-t-c.false (c.hop_step.ensures lc) c.in_err-g.was)

pub loop-aero-smaller : goal.loop-aero-smaller
loop-aero-smaller c = omega (arith, (c.hop_step.ensures []).count, c.if-t-c.false)

pub loop-aero-preserved : goal.loop-aero-preserved
loop-aero-preserved c lc =
    continues (c.loop-aero.invariant lc) (sym c.has_come.ensures ∙ c.if-has_come.false) c.if-t-c.false (c.hop_step.ensures lc) c.in_ok-g.was c.in-Continue.is

pub returns-in-Break : goal.returns-in-Break
unfolding hop_from
returns-in-Break c lc =
    rw (← c.from_spin_vector-aero.ensures)
    (breaks (c.loop-aero.invariant lc) (sym c.has_come.ensures ∙ c.if-has_come.false) c.if-t-c.false (c.hop_step.ensures lc) c.in_ok-g.was c.in-Break.is)
