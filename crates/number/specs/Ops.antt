-- Definitions. The operations of f64, each rounded to the nearest double, and decimal constants.
use Rattle.std.specs.Prelude.{ℕ, false, Float}
use Rattle.std.specs.Float.{binary64}
use Rattle.std.specs.Float.Ieee.{round, add, sub, mul, div}

infixl 65 ◌⊕◌ ◌⊖◌
infixl 70 ◌⊗◌ ◌⊘◌
abbrev pub ◌⊕◌ : Float → Float → Float
x ⊕ y = add binary64 x y

abbrev pub ◌⊖◌ : Float → Float → Float
x ⊖ y = sub binary64 x y

abbrev pub ◌⊗◌ : Float → Float → Float
x ⊗ y = mul binary64 x y

abbrev pub ◌⊘◌ : Float → Float → Float
x ⊘ y = div binary64 x y

-- n / d, rounded to the nearest double: the value of a decimal literal
abbrev pub dec : ℕ → ℕ → Float
dec n d = round binary64 false n d

-- std::f64::consts::PI: the decimal, rounded
abbrev pub pi : Float
pi = dec 314159265358979323846264338327950288 100000000000000000000000000000000000
