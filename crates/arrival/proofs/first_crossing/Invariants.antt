use Rattle.course.specs.Sheet.{course_of}
use Rattle.std.specs.Prelude.{◌-◌}
use Rattle.arrival.specs.Arrival.{clearance_at, crossing_from}
use Rattle.arrival.proofs.Found.{Left}
use Rattle.arrival.proofs.first_crossing.Given as goal

-- the sub-steps left from here find what all eight find from the start
abbrev pub invariant-loop-i : goal.invariant-loop-i
invariant-loop-i l =
    Left (course_of l.course) (crossing_from (clearance_at l.arc) l.arc.h l.f_end 8 1 l.initial.b) 0 l.initial.tally
    (crossing_from (clearance_at l.arc) l.arc.h l.f_end (9 - l.i) l.i l.b) 0 l.tally
