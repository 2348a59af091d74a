use Rattle.std.proofs.Common.{ℕ, refl, arith}
use Rattle.std.specs.Prelude.{Float, Option, Some, None}
use Rattle.std.specs.Option.{ForSome, unwrap_or}
use Rattle.root.specs.Inner.{Guess, SureBits}
use Rattle.guesses.proofs.guess_root.Goals as goal

guessed : (x : Float) (g : Option ℕ) → ForSome g (λ r. SureBits x r) → Guess x (unwrap_or g 0)
guessed x None h = record { finite = omega arith; is = λ z. absurd (z refl) }
guessed x (Some r) h = let s = h r refl in record { finite = s.finite; is = λ z. s.is }

pub returns : goal.returns
returns c = rw c.unwrap_or.ensures (guessed _ _ c.guess.ensures.sure, c.guess.ensures.bits)
