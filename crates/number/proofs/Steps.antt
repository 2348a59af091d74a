-- Lemmas. What a literal comes to, and a test that is known, for a function whose contract is a definition of `specs/`: its attribute names the set `steps`
-- after `using`, and the definition after `unfolding`. A literal is a variable with an equation, since `grind` takes it up only so. Assumes nothing.
use Rattle.std.specs.Prelude.{◌≡◌, ℕ, false}
use Rattle.std.proofs.Math.Path.{ap}
use Rattle.std.proofs.lemmas.Bool.{cond-true, cond-false}
use Rattle.std.specs.Float.{binary64, inf}
use Rattle.std.specs.Float.Ieee.{round, of_bits, neg}
use Rattle.number.specs.Ops.{dec}

pub zero : (b : ℕ) → b ≡ 0 → of_bits binary64 b ≡ dec 0 1
unfolding of_bits round
zero b e = ap (of_bits binary64) e

pub trillionth : (b : ℕ) → b ≡ 4427486594234968593 → of_bits binary64 b ≡ dec 1 1000000000000
unfolding of_bits round
trillionth b e = ap (of_bits binary64) e

pub billionth : (b : ℕ) → b ≡ 4472406533629990549 → of_bits binary64 b ≡ dec 1 1000000000
unfolding of_bits round
billionth b e = ap (of_bits binary64) e

pub millionth : (b : ℕ) → b ≡ 4517329193108106637 → of_bits binary64 b ≡ dec 1 1000000
unfolding of_bits round
millionth b e = ap (of_bits binary64) e

pub half : (b : ℕ) → b ≡ 4602678819172646912 → of_bits binary64 b ≡ dec 1 2
unfolding of_bits round
half b e = ap (of_bits binary64) e

pub five_tenths : (b : ℕ) → b ≡ 4602678819172646912 → of_bits binary64 b ≡ dec 5 10
unfolding of_bits round
five_tenths b e = ap (of_bits binary64) e

pub one : (b : ℕ) → b ≡ 4607182418800017408 → of_bits binary64 b ≡ dec 1 1
unfolding of_bits round
one b e = ap (of_bits binary64) e

pub two : (b : ℕ) → b ≡ 4611686018427387904 → of_bits binary64 b ≡ dec 2 1
unfolding of_bits round
two b e = ap (of_bits binary64) e

pub three : (b : ℕ) → b ≡ 4613937818241073152 → of_bits binary64 b ≡ dec 3 1
unfolding of_bits round
three b e = ap (of_bits binary64) e

pub four : (b : ℕ) → b ≡ 4616189618054758400 → of_bits binary64 b ≡ dec 4 1
unfolding of_bits round
four b e = ap (of_bits binary64) e

pub six : (b : ℕ) → b ≡ 4618441417868443648 → of_bits binary64 b ≡ dec 6 1
unfolding of_bits round
six b e = ap (of_bits binary64) e

pub infinite : (b : ℕ) → b ≡ 9218868437227405312 → of_bits binary64 b ≡ inf false
unfolding of_bits round
infinite b e = ap (of_bits binary64) e

-- the gravity of units.rs, and it downward
pub gravity : (b : ℕ) → b ≡ 4621710271215477509 → of_bits binary64 b ≡ dec 980665 100000
unfolding of_bits round
gravity b e = ap (of_bits binary64) e

pub downward : (b : ℕ) → b ≡ 13845082308070253317 → of_bits binary64 b ≡ neg (dec 980665 100000)
unfolding of_bits round neg
downward b e = ap (of_bits binary64) e

pub ruleset steps = (cond-true, cond-false, zero, trillionth, billionth, millionth, half, five_tenths, one, two, three, four, six, infinite, gravity, downward)
