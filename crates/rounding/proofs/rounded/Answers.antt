use Rattle.std.proofs.Common.{arith, sym, subst, T, not}
use Rattle.std.specs.Float.{nan, inf, fin, binary64}
use Rattle.std.specs.Float.Ieee.{is_nan, fits}
use Rattle.std.specs.Prelude.{Float}
use Rattle.number.specs.Number.{finite_of}
use Rattle.number.specs.Rounding.{about_finite}
use Rattle.rounding.proofs.Patterns.{most, none, works}
use Rattle.rounding.proofs.rounded.Goals as goal

finite_number : (x : Float) → T (finite_of x) → T (not (is_nan x))
unfolding is_nan
finite_number nan h = elim h [ ]
finite_number (inf _) h = elim h [ ]
finite_number (fin s m e) h = tt

held : (c : goal.Start) → T (fits binary64 c.args.x)
held c = subst T (sym c.well_formed.0.1) tt

pub float_to_bits-b : goal.float_to_bits-b
float_to_bits-b c = finite_number c.args.x (about_finite c.args.x c.requires.0)

pub returns-then-field-lt1012 : goal.returns-then-field-lt1012
returns-then-field-lt1012 c = sym (none c.args.x (held c.before) c.requires.0 c.args.k c.requires.1 c.if-field-lt1012.true)

pub overflow_sub-d : goal.overflow_sub-d
overflow_sub-d c = let t = most c.args.x (held c.before) c.requires.0 in omega arith

pub returns : goal.returns
returns c = (works c.args.x (held c.before) c.requires.0 c.args.k c.requires.1 c.if-field-lt1012.false).result
