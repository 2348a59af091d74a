use Rattle.std.proofs.Common.{List, Bool, true, false, cond, Option, Result, Ok, Err, refl, ◌≡◌}
use borrow.Author.Tests.{ne_eqb}
use lib.Ieee.{Float}
use Rattle.refusal.specs.declared.Refusal.{Refusal}
use Rattle.refusal.specs.declared.Refusal.TheVariants.{NoTermination}
use Rattle.refusal.specs.Refusal.{number_of}
use Rattle.refusal.proofs.Failed.{failed}
use Rattle.refusal.proofs.Numbers.{never_0}
use Rattle.state.specs.declared.Termination.{Termination}
use Rattle.board.specs.declared.Board.{Board}
use Rattle.board.specs.Board.{answered, enter_of}
use Rattle.layout.specs.Layout.{termination_of, board_at, board_fields}
use Rattle.layout.specs.Sent.{Sent, is_end, end_of, sent_of}
use Rattle.capi.specs.Doors.{door}
use Rattle.capi.specs.Boards.{entered}
use Rattle.capi.proofs.enter_sent.Goals as goal

ended : (n : _) {t : Option Termination} → Ok t ≡ end_of n → (is_end n ≡ true) × (t ≡ termination_of n)
ended n {t} e = go (is_end n) refl e
  where
    go : (b : Bool) → is_end n ≡ b → ◌≡◌ {A = Result (Option Termination) Refusal} (Ok t) (cond b (Ok (termination_of n)) (Err NoTermination))
        → (is_end n ≡ true) × (t ≡ termination_of n)
    go true k f = let g : t ≡ termination_of n = cc in (k, g)
    go false k f = absurd (cc)

not_ended : (n : _) {r : Refusal} → Err r ≡ end_of n → (is_end n ≡ false) × (r ≡ NoTermination)
not_ended n {r} e = go (is_end n) refl e
  where
    go : (b : Bool) → is_end n ≡ b → ◌≡◌ {A = Result (Option Termination) Refusal} (Err r) (cond b (Ok (termination_of n)) (Err NoTermination))
        → (is_end n ≡ false) × (r ≡ NoTermination)
    go false k f = let g : r ≡ NoTermination = cc in (k, g)
    go true k f = absurd (cc)

module _ (l : List Float) (s : Sent) where
  no_end : {r : Refusal} → Err r ≡ end_of s.termination → door (number_of r) l ≡ entered (sent_of (board_at l) s) l
  unfolding sent_of entered
  no_end e = let q = not_ended s.termination e in rw (q.0, q.1)

  module _ {t : Option Termination} (e : Ok t ≡ end_of s.termination) {b c : Board} (h : b ≡ board_at l) where
    back : (r : Refusal)
        → answered (number_of r) c ≡ enter_of b (record { shot = s.shot; bay = s.bay; termination = t; contacts = s.contacts; x = s.x; z = s.z })
        → door (number_of r) l ≡ entered (sent_of (board_at l) s) l
    unfolding sent_of entered
    back r k = let q = ended s.termination e in rw (q.0, ← h, ← q.1, ← k, ne_eqb _ 0 (never_0 r))

    taken : {w : List Float} → answered 0 c ≡ enter_of b (record { shot = s.shot; bay = s.bay; termination = t; contacts = s.contacts; x = s.x; z = s.z })
        → w ≡ board_fields c → door 0 w ≡ entered (sent_of (board_at l) s) l
    unfolding sent_of entered
    taken k z = let q = ended s.termination e in rw (q.0, ← h, ← q.1, ← k, z)

pub returns-in_err-termination : goal.returns-in_err-termination
returns-in_err-termination c = rw (failed c.from_residual.result c.from_residual.ensures.1) (no_end _ _ c.in_err-termination.ensures)

pub returns-in_err-enter : goal.returns-in_err-enter
returns-in_err-enter c =
    rw (failed c.from_residual-in_err-enter.result c.from_residual-in_err-enter.ensures.1)
    (back _ _ c.in_ok-termination.ensures c.board_at-b.ensures c.in_err-enter.field-0.0 c.in_err-enter.ensures)

pub returns : goal.returns
returns c = taken _ _ c.in_ok-termination.ensures c.board_at-b.ensures c.in_ok-enter.ensures c.write_board.ensures
