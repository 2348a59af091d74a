-- What is left decides, and gets less.
use Rattle.std.proofs.Common.{◌≡◌, length}
use Rattle.shelf.specs.Shelf.{sound}
use Rattle.shelf.proofs.Shelf.is_sound.Given as goal

abbrev pub invariant-places : goal.invariant-places
invariant-places l = sound l.rest ≡ sound l.self.places

abbrev pub decreases-places : goal.decreases-places
decreases-places l = length l.rest
