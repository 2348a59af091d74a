use Rattle.std.proofs.Common.{◌≡◌, ◌∙◌, refl, Bool, true, false, cond}
use Rattle.std.specs.Int.{from_bool}
use lib.ListN.{replicate}
use Rattle.index.specs.Index.{index_words, cuts_in}
use Rattle.index.proofs.Cuts.{guess_same}
use Rattle.guesses.specs.Guesses.{guess_look_of}
use Rattle.guesses.proofs.guess_look.Goals as goal

number : (b : Bool) → from_bool b ≡ cond b 1 0
number true = refl
number false = refl

pub returns : goal.returns
unfolding guess_look_of
returns c =
    let e = guess_same c.make_index.new.index (cuts_in c.in-Ok.sheet (replicate index_words 0)) c.make_index.ensures.cuts c.args.x c.args.z in
    rw (← c.in-Ok.ensures.sheet, c.make_index.ensures.ready.ok, ← e, ← c.is_guessed.ensures) (c.from.ensures ∙ number _)
