use Rattle.std.specs.Prelude.{◌+◌, ◌-◌, ◌≤◌}
use Rattle.course.specs.Sheet.{course_of}
use Rattle.search.specs.Search.{root_from}
use Rattle.tally.specs.Language.{in_m, evaluate}
use Rattle.arrival.specs.Arrival.{clearance_at}
use Rattle.arrival.proofs.Found.{Left}
use Rattle.arrival.proofs.find_root.Given as goal

-- the evaluations left from here find what all 200 find from the start
abbrev pub invariant-loop-made : goal.invariant-loop-made
invariant-loop-made l = record {
  counted : l.tally.evaluations ≤ l.initial.tally.evaluations + l._made;
  left : Left (course_of l.course) (root_from in_m (evaluate (clearance_at l.arc)) 200 l.initial.s) 200 l.initial.tally
      (root_from in_m (evaluate (clearance_at l.arc)) (200 - l._made) l.s) (200 - l._made) l.tally;
}
