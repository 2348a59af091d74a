-- What a call gives, from what its parts give. Assumes nothing.
use Prim.Native.Nat.{ℕ, ◌+◌, ◌-◌, ◌≤◌}
use native.Mathlib.Nat.{zero-add}
use native.Mathlib.Omega.{arith}
use mathlib.Core.Path.{◌≡◌, ◌∙◌, sym}
use mathlib.Core.List.{List, ◌++◌}
use lib.ListN.{length, drop}
use lib.Seq.{sets, sets-eq, length-sets, take-append_seam, drop-append-add, drop-drop}
use lib.Ieee.{Float}
use borrow.Author.Tests.{eq-eqb, ne_eqb}
use Rattle.listen.specs.Listen.{contact_times, walk, heard_marks, contact_marks, count, refusal_of, listened, heard_of, marked, listen_of}
use Rattle.listen.specs.Inner.{Walked}
use Rattle.listen.proofs.Accepted.{accepted}
use Rattle.listen.proofs.Walking.{firsts_length, walking, heard_length, contact_length, heard_total, contact_total, pairs_same}

-- two runs of stores, one behind the other, from the front
runs : (l h c : List ℕ) → length h + length c ≤ length l → sets (sets l 0 h) (length h) c ≡ (h ++ c) ++ drop (length h + length c) l
runs l h c e =
    let f : sets l 0 h ≡ h ++ drop (length h) l = sets-eq h l 0 (omega arith) ∙ rw zero-add in
    let g : length h + length c ≤ length (sets l 0 h) = omega (arith, length-sets l 0 h) in
    sets-eq c (sets l 0 h) (length h) g
    ∙ rw (f, take-append_seam h (drop (length h) l), drop-append-add h (drop (length h) l) (length c), drop-drop (length c) (length h) l)

module _ (heard contacts : List Float) (n : ℕ) (t : Float) (marks : List ℕ) where
  pub refused : {r : ℕ} → r ≡ refusal_of heard contacts n t (length marks) → (r ≡ 0 → ⊥)
      → listened (heard_of r 0 0 0) marks ≡ listen_of heard contacts n t marks
  unfolding listen_of
  refused e h = rw (← e, ne_eqb _ 0 h)

  module _ {r : ℕ} {m : List ℕ} (w : Walked t heard (contact_times n contacts) marks r m) where
    -- the heard times and the contacts have each a mark
    long_heard : length (heard_marks (walk t heard (contact_times n contacts))) ≡ length heard
    long_heard = heard_length (walking t heard (contact_times n contacts))

    long_contacts : length (contact_marks (walk t heard (contact_times n contacts))) ≡ n
    long_contacts = contact_length (walking t heard (contact_times n contacts)) ∙ firsts_length 20 n contacts

    pub heard_rest : r + count 1 (heard_marks (walk t heard (contact_times n contacts))) ≡ length heard
    heard_rest = rw w.pairs (heard_total (walk t heard (contact_times n contacts)) ∙ long_heard)

    pub contacts_rest : r + count 2 (contact_marks (walk t heard (contact_times n contacts))) ≡ n
    contacts_rest =
        rw (w.pairs, pairs_same (walk t heard (contact_times n contacts))) (contact_total (walk t heard (contact_times n contacts)) ∙ long_contacts)

    pub made : {a : ℕ} → a ≡ refusal_of heard contacts n t (length marks) → a ≡ 0
        → listened (heard_of 0 r (length heard - r) (n - r)) m ≡ listen_of heard contacts n t marks
    unfolding listen_of marked
    made e z =
        let h = heard_marks (walk t heard (contact_times n contacts)) in
        let c = contact_marks (walk t heard (contact_times n contacts)) in
        let p = (accepted heard contacts n t (length marks) (sym e ∙ z)).room_for in
        let x : length heard - r ≡ count 1 h = omega (arith, heard_rest) in
        let y : n - r ≡ count 2 c = omega (arith, contacts_rest) in
        let s : m ≡ (h ++ c) ++ drop (length h + length c) marks =
        w.stored ∙ rw (← long_heard) (runs marks h c (omega (arith, long_heard, long_contacts))) in
        rw (← e, eq-eqb _ 0 z, x, y, s, w.pairs)
