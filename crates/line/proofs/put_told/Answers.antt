use Rattle.std.proofs.Common.{arith, ◌≡◌, ℕ, true, false, ◌&&◌, List, [], ◌∷◌, ◌++◌, leb}
use Rattle.text.specs.Text.{Adds, Puts, decimal_of, word_of}
use Rattle.text.specs.Laws.{wide, before, after, both}
use Rattle.ground.specs.Settle.{Settled}
use Rattle.ground.specs.Told.{record_of}
use Rattle.line.specs.Line.{answer_word, line_end, termination_of, counts_of, shown_of}
use Rattle.line.proofs.put_told.Goals as goal

module _ (s : Settled) {l m : List ℕ} {a : ℕ} (x : Puts 27 l 0 (answer_word ++ decimal_of s.answer) a m) where
  short : (leb 1 s.answer && leb s.answer 12) ≡ true → {n : List ℕ} {r : ℕ} → Adds m a line_end r n → Puts 128 l 0 (shown_of s) r n
  unfolding shown_of
  short e y = rw e (wide {w = 28} (omega arith) (after x y))

  whole : (leb 1 s.answer && leb s.answer 12) ≡ false → {i k j n : List ℕ} {b d c r : ℕ} → Adds m a (32 ∷ []) b i → Puts 7 i b
      (word_of s.termination) d k
      → Puts 85 k d (counts_of s.contacts s.points s.steps) c j → Adds j c line_end r n → Puts 128 l 0 (shown_of s) r n
  unfolding shown_of termination_of
  whole e w t u y = rw e (wide {w = 121} (omega arith) (after (both (both x (before w t)) u) y))

pub returns-then-s : goal.returns-then-s
returns-then-s c = short (record_of c.args.s.now) c.put_count-a.ensures c.if-s.true c.put.ensures

pub returns : goal.returns
returns c = whole (record_of c.args.s.now) c.put_count-a.ensures c.if-s.false c.put-b.ensures c.put_termination-c.ensures c.put_counts-d.ensures c.put-2.ensures
