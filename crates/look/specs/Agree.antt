-- Definitions. What it says that two courses agree at a list of spots, and the rectangle reckoned from such a list.
use Rattle.std.specs.Prelude.{◌≡◌, List, [], ◌∷◌}
use Rattle.look.specs.Rect.{Rect, widen}
use Rattle.look.specs.Tree.{Oracle, Spot}

-- P of each spot of a list
abbrev pub All : (Spot → Type 0) → List Spot → Type 0
All P [] = Unit
All P (s ∷ l) = P s × All P l

-- the two courses give the same sample at each spot of the list
abbrev pub AgreeOn : Oracle → Oracle → List Spot → Type 0
AgreeOn o p l = All (λ s. p s.x s.z ≡ o s.x s.z) l

-- the rectangle, reckoned from the list of looks
unfoldable pub rect_from : Rect → List Spot → Rect
rect_from r [] = r
rect_from r (s ∷ l) = rect_from (widen r s.x s.z) l
