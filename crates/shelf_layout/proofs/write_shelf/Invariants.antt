-- The list keeps its length, and its first i places are written.
use Rattle.std.proofs.Common.{◌≡◌, ◌*◌, ◌++◌, length, take, drop}
use Rattle.shelf_layout.specs.Layout.{places_fields}
use Rattle.shelf_layout.proofs.write_shelf.Given as goal

abbrev pub invariant-loop-i : goal.invariant-loop-i
invariant-loop-i l = (length l.out ≡ 368) × (take (23 * l.i) l.out ++ places_fields (drop l.i l.places) ≡ places_fields l.places)
