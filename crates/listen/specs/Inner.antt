-- Contracts of inner functions: what the walk leaves in the mark list.
use Rattle.std.specs.Prelude.{ℕ, ◌≡◌, List, length, Float}
use Rattle.std.proofs.lemmas.List.Edits.{sets}
use Rattle.std.specs.Float.Ieee.{lt}
use Rattle.std.specs.Prelude.{if◌then◌else◌}
use Rattle.listen.specs.Listen.{near, walk, heard_marks, contact_marks, count}
use Rattle.listen.specs.declared.Mark.{Mark}
use Rattle.listen.specs.declared.Mark.TheVariants.{Paired, HeardOnly, ComputedOnly}

-- what is marked where both lists have a front
unfoldable pub front_of : Float → Float → Float → Mark
front_of t h c = if near t h c then Paired else if lt h c then HeardOnly else ComputedOnly

-- with heard times hs and contact times cs: r pairs, and the marks of the walk stored from 0 on and behind the heard times
pub record Walked (t : Float) (hs cs : List Float) (marks : List ℕ) (r : ℕ) (marks' : List ℕ) : Type 0 where
  pub pairs : r ≡ count 0 (heard_marks (walk t hs cs))
  pub stored : marks' ≡ sets (sets marks 0 (heard_marks (walk t hs cs))) (length hs) (contact_marks (walk t hs cs))
