use Rattle.std.proofs.Common.{◌∙◌}
use Rattle.std.specs.Float.Ieee.{of_bits}
use Rattle.index.proofs.Boxes.{elsewhere, around_all}
use Rattle.index.proofs.make_box.Goals as goal

pub returns-then-not-is_around-clause-around : goal.returns-then-not-is_around-clause-around
unfolding of_bits
returns-then-not-is_around-clause-around c = around_all _ _ _ c.write_edges-then-not-is_around.ensures.written c.requires c.write_edges.array_long _ _ _

pub returns-then-not-is_around-clause-elsewhere : goal.returns-then-not-is_around-clause-elsewhere
returns-then-not-is_around-clause-elsewhere c =
    λ k h. elsewhere _ _ _ c.write_edges-then-not-is_around.ensures.written k h ∙ elsewhere _ _ _ c.write_edges.ensures.written k h

pub returns-else-not-is_around-clause-elsewhere : goal.returns-else-not-is_around-clause-elsewhere
returns-else-not-is_around-clause-elsewhere c = elsewhere _ _ _ c.write_edges.ensures.written
