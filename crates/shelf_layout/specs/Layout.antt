-- Definitions. A shelf as 368 doubles (include/dimple.h): 16 places of 23, each a name's length (0: a free place), its 12 bytes, and a state (10).
use Rattle.std.specs.Prelude.{ℕ, zero, suc, ◌≡◌, Bool, true, ◌&&◌, cond, List, [], ◌∷◌, ◌++◌, map, leb, length, take, drop, Float}
use Rattle.fields.specs.Fields.{whole_of, nat_of, is_whole, state_at, state_fields, written}
use Rattle.shelf.specs.declared.Place.{Place}
use Rattle.shelf.specs.declared.Shelf.{Shelf}
use Rattle.shelf.specs.Shelf.{place, shelf, sound}

-- ---- read

-- the whole part of a double, or 0 where that is no byte
unfoldable pub byte_of : Float → ℕ
byte_of x = cond (leb (nat_of x) 255) (nat_of x) 0

-- the first 23 doubles
unfoldable pub place_at : List Float → Place
place_at l = place (map byte_of (take 13 l)) (state_at l 13)

-- the first n places
unfoldable pub places_at : ℕ → List Float → List Place
places_at zero l = []
places_at (suc n) l = place_at l ∷ places_at n (drop 23 l)

abbrev pub shelf_at : List Float → Shelf
shelf_at l = shelf (places_at 16 l)

-- ---- tested

-- each is, by value, a whole number from 0 to 255
unfoldable pub are_bytes : List Float → Bool
are_bytes [] = true
are_bytes (x ∷ l) = is_whole 0 255 x && are_bytes l

-- so are the 13 doubles of the name in each of the first n places
unfoldable pub names_ok : ℕ → List Float → Bool
names_ok zero l = true
names_ok (suc n) l = are_bytes (take 13 l) && names_ok n (drop 23 l)

-- `sound`: a length from 0 to 12, bytes within it from 65 to 90 and past it 0, kept states that pass test 22, no name kept twice
unfoldable pub shelf_ok : List Float → Bool
shelf_ok l = names_ok 16 l && sound (places_at 16 l)

-- ---- written
unfoldable pub place_fields : Place → List Float
place_fields p = map whole_of p.name ++ state_fields p.state

unfoldable pub places_fields : List Place → List Float
places_fields [] = []
places_fields (p ∷ l) = place_fields p ++ places_fields l

abbrev pub shelf_fields : Shelf → List Float
shelf_fields s = places_fields s.places

-- ---- what inner functions give

-- the n doubles of r stand in l from o on, and the list is m then
pub record Wrote (l : List Float) (o : ℕ) (r : List Float) (n : ℕ) (m : List Float) : Type 0 where
  pub same : m ≡ written l o r
  pub size : length r ≡ n
