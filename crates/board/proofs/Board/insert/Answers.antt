use Rattle.std.proofs.Common.{arith, ℕ, Option, unwrap_or, ap, sym, ◌≡◌, ◌∙◌, ◌<◌, length}
use Rattle.board.specs.Rules.{is_before}
use Rattle.board.specs.Board.{listing}
use Rattle.board.proofs.Lists.{place_is, one_more, placed}
use Rattle.board.proofs.Board.insert.Goals as goal

pub returns : goal.returns
returns c =
    let b = c.args.self.now in
    let p = is_before b.pin_x b.pin_z c.args.e in
    let at = c.unwrap_or-at.ensures ∙ ap (λ (r : Option ℕ). unwrap_or r b.count) c.first_after.ensures ∙ place_is p (listing b) b.count (sym c.requires.0) in
    let size : length b.entries ≡ 256 = search in
    let room : b.count < length b.entries = omega arith in
    one_more b c.args.e c.requires.0 (placed p c.args.e b.entries b.count room at c.last_to_front.ensures)
