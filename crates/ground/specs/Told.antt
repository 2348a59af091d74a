-- Definitions. A settle's result as numbers, which the line shows.
use Rattle.ground.specs.Settle.{Settled}
use Rattle.ground.specs.declared.Told.{Told}

-- the code's numbers, as 01's record
abbrev pub record_of : Told → Settled
record_of t = record {
  answer = t.answer;
  termination = t.termination;
  contacts = t.contacts;
  points = t.points;
  steps = t.steps;
  evaluations = t.evaluations;
  rest = t.rest;
  rect = t.rect;
}
