-- The ways of a call, over plain values. Assumes nothing.
use Prim.Native.Nat.{ℕ, ◌+◌, ◌*◌, ◌≤◌, ◌<◌}
use native.Mathlib.Omega.{arith}
use mathlib.Core.Path.{◌≡◌, ap, ◌∙◌, sym, subst}
use mathlib.Core.List.{List, ◌++◌}
use lib.Ieee.{Float}
use lib.ListN.{length, drop}
use borrow.Author.Tests.{eq-eqb, ne_eqb, le-leb, lt-leb}
use Rattle.std.specs.Prelude.{Option}
use Rattle.state.specs.declared.Termination.{Termination}
use Rattle.ground.specs.Settle.{Result, Settled, result_of}
use Rattle.input.specs.Input.{settle_input_of}
use Rattle.text.specs.Text.{Fills}
use Rattle.text.specs.Laws.{fills}
use Rattle.card.specs.Card.{heading_line, lines_of, text_of, too_short, carded, printed_of, card_of}
use Rattle.card.specs.Inner.{Printable}
use Rattle.card.specs.Fits.{at_most_64, printable}

module _ (input : List ℕ) (cs ps : List Float) {s : Settled} {cs' ps' : List Float} (e : result_of s cs' ps' ≡ settle_input_of input cs ps) where
  module _ (h : s.answer ≡ 0) where
    answers : (settle_input_of input cs ps).settled.answer ≡ 0
    answers = subst (λ (w : Result). w.settled.answer ≡ 0) e h

    pub few : s.contacts ≤ 64
    few = subst (λ (w : Result). w.settled.contacts ≤ 64) (sym e) (at_most_64 input cs ps answers)

    pub spots : Printable cs' s.contacts
    spots = subst (λ (w : Result). Printable w.contacts w.settled.contacts) (sym e) (printable input cs ps answers)

  pub unfinished : (page : List ℕ) → (s.answer ≡ 0 → ⊥) → carded (result_of s cs' ps') page ≡ card_of input cs ps page
  unfolding card_of
  unfinished page h = rw (← e, ne_eqb s.answer 0 h)

  module _ (page : List ℕ) (h : s.answer ≡ 0) where
    finished : card_of input cs ps page ≡ printed_of (result_of s cs' ps') page
    unfolding card_of
    finished = rw (← e, eq-eqb s.answer 0 h)

    pub short : {s' : Settled} → length page < 60 * (1 + s.contacts) → s' ≡ too_short s → carded (result_of s' cs' ps') page ≡ card_of input cs ps page
    unfolding printed_of
    short l d = ap (λ (t : Settled). carded (result_of t cs' ps') page) d ∙ sym (finished ∙ rw (lt-leb (60 * (1 + s.contacts)) (length page) l))

    pub printed : {t : Option Termination} {m n : List ℕ} {a r : ℕ} → s.termination ≡ t → 60 * (1 + s.contacts) ≤ length page
        → Fills 60 page 0 (heading_line t) a m
        → Fills (60 * s.contacts) m a (lines_of cs' s.contacts) r n → carded (result_of s cs' ps') n ≡ card_of input cs ps page
    unfolding printed_of text_of
    printed {m = m} {n} {a} {r} q l x y =
        let w : Fills 60 page 0 (heading_line s.termination) a m = subst (λ (k : Option Termination). Fills 60 page 0 (heading_line k) a m) (sym q) x in
        let t = heading_line s.termination ++ lines_of cs' s.contacts in
        let z : Fills (60 + 60 * s.contacts) page 0 t r n = fills w y in
        let i : r ≡ length t = let j = z.adds.next in omega arith in
        ap (carded (result_of s cs' ps')) (z.adds.same ∙ ap (λ (k : ℕ). t ++ drop k page) i)
        ∙ sym (finished ∙ rw (le-leb (60 * (1 + s.contacts)) (length page) l))
