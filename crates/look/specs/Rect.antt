-- Definitions. A spot's test, and the rectangle of the spots looked at (01, "Course sheet").
use Rattle.std.specs.Prelude.{◌≡◌, refl, Bool, true, false, ◌&&◌, cond, List, [], ◌∷◌, Float, Option, Some, None}
use Rattle.std.specs.Float.{binary64}
use Rattle.std.specs.Float.Ieee.{fits, lt}
use Rattle.number.specs.Ops.{dec}
use Rattle.state.specs.State.{coord_ok}
use Rattle.look.specs.declared.Sides.{Sides}

-- a double: every number of a run is one
abbrev pub is_double : Float → Bool
is_double x = fits binary64 x

-- 01: "Before each look x and z get the same test" as the numbers of a state
unfoldable pub spot_ok : Float → Float → Bool
spot_ok x z = (is_double x && is_double z) && (coord_ok x && coord_ok z)

-- the least and the greatest by value; of two equal zeros the first looked at stays
unfoldable pub lesser : Float → Float → Float
lesser a x = cond (lt x a) x a

unfoldable pub greater : Float → Float → Float
greater a x = cond (lt a x) x a

-- the least and greatest x and z of the spots looked at, and whether there was one
pub record Rect : Type 0 where
  pub seen : Bool
  pub x_lo : Float
  pub x_hi : Float
  pub z_lo : Float
  pub z_hi : Float

-- a look widens the rectangle; the first look makes it that one spot
abbrev pub widen_if : Bool → Rect → Float → Float → Rect
widen_if true r x z = record {
  seen = true;
  x_lo = lesser r.x_lo x;
  x_hi = greater r.x_hi x;
  z_lo = lesser r.z_lo z;
  z_hi = greater r.z_hi z;
}
widen_if false r x z = record { seen = true; x_lo = x; x_hi = x; z_lo = z; z_hi = z }

unfoldable pub widen : Rect → Float → Float → Rect
widen r x z = widen_if r.seen r x z

-- with no look it is all +0
unfoldable pub no_rect : Rect
no_rect = record { seen = false; x_lo = dec 0 1; x_hi = dec 0 1; z_lo = dec 0 1; z_hi = dec 0 1 }

-- its four numbers, in the order in which a settle reports them
abbrev pub sides_of : Rect → List Float
sides_of r = r.x_lo ∷ r.x_hi ∷ r.z_lo ∷ r.z_hi ∷ []

-- the rectangle that the program holds: none before the first look
abbrev pub rect_of : Option Sides → Rect
rect_of None = no_rect
rect_of (Some s) = record { seen = true; x_lo = s.x_lo; x_hi = s.x_hi; z_lo = s.z_lo; z_hi = s.z_hi }

-- what the program holds of a rectangle
abbrev pub sides_if : Bool → Rect → Option Sides
sides_if false r = None
sides_if true r = Some (record { x_lo = r.x_lo; x_hi = r.x_hi; z_lo = r.z_lo; z_hi = r.z_hi })

pub given_back : (s : Option Sides) → sides_if (rect_of s).seen (rect_of s) ≡ s
unfolding no_rect
given_back None = refl
given_back (Some s) = refl
