-- The lines of the first i contacts are written.
use Rattle.std.proofs.Common.{◌*◌}
use Rattle.text.specs.Text.{Fills}
use Rattle.card.specs.Card.{lines_of}
use Rattle.card.proofs.put_contacts.Given as goal

abbrev pub invariant-loop-i : goal.invariant-loop-i
invariant-loop-i l = Fills (60 * l.i) l.initial.page l.at (lines_of l.contacts l.i) l.here l.page
