-- Statements. A call with answer 0 passed every test. Assumes nothing.
use Rattle.std.specs.Prelude.{ℕ, ◌+◌, ◌*◌, ◌%◌, ◌≤◌, Bool, ◌&&◌, List, T, eqb, length, Float}
use Rattle.std.proofs.Common.{arith, sym, subst, T_not}
use Rattle.std.proofs.Math.Path.{◌≡◌, refl}
use Rattle.std.proofs.Math.Bool.{true, false, not}
use Rattle.std.proofs.Math.Dec.{leb}
use borrow.Author.Tests.{leb-true}
use Rattle.std.specs.Prelude.{if◌then◌else◌}
use Rattle.listen.specs.Listen.{record_width, contact_times, times_ok, contacts_whole, all_times_ok, tolerance_ok, refusal_of}

pub and_left : (a b : Bool) → a && b ≡ true → a ≡ true
and_left true b e = refl
and_left false b e = e

pub and_right : (a b : Bool) → a && b ≡ true → b ≡ true
and_right true b e = e
and_right false b e = absurd (T_not true (subst T (sym e) tt) tt)

pub whole_holds : (len n : ℕ) → contacts_whole len n ≡ true → n * record_width ≤ len
unfolding contacts_whole
whole_holds len n e = leb-true (n * record_width) len (and_right (eqb (len % record_width) 0) (leb (n * record_width) len) e)

module _ (heard contacts : List Float) (n : ℕ) where
  module _ (e : all_times_ok heard contacts n ≡ true) where
    pub few_heard : length heard ≤ 256
    unfolding all_times_ok
    few_heard = leb-true (length heard) 256 (and_left _ (times_ok heard) (and_left _ (times_ok (contact_times n contacts)) e))

    pub heard_ok : times_ok heard ≡ true
    unfolding all_times_ok
    heard_ok = and_right (leb (length heard) 256) (times_ok heard) (and_left _ (times_ok (contact_times n contacts)) e)

    pub contacts_ok : times_ok (contact_times n contacts) ≡ true
    unfolding all_times_ok
    contacts_ok = and_right (leb (length heard) 256 && times_ok heard) (times_ok (contact_times n contacts)) e

  module _ (t : Float) (room : ℕ) where
    pub record Accepted : Type 0 where
      pub whole : n * record_width ≤ length contacts
      pub few : length heard ≤ 256
      pub heard_times : times_ok heard ≡ true
      pub contact_times_lem : times_ok (contact_times n contacts) ≡ true
      pub tolerance : tolerance_ok t ≡ true
      pub room_for : length heard + n ≤ room

    pub accepted : refusal_of heard contacts n t room ≡ 0 → Accepted
    unfolding refusal_of
    accepted = go (contacts_whole (length contacts) n) (all_times_ok heard contacts n) (tolerance_ok t) (leb (length heard + n) room) refl refl refl refl
      where
        go : (a b c d : Bool) → contacts_whole (length contacts) n ≡ a → all_times_ok heard contacts n ≡ b → tolerance_ok t ≡ c
            → leb (length heard + n) room ≡ d
            → ◌≡◌ {A = ℕ} (if not a then 8 else if not b then 39 else if not c then 40 else if not d then 41 else 0) 0 → Accepted
        go true true true true p q r s e =
            record {
              whole = whole_holds (length contacts) n p;
              few = few_heard q;
              heard_times = heard_ok q;
              contact_times_lem = contacts_ok q;
              tolerance = r;
              room_for = leb-true (length heard + n) room s;
            }
        go false b c d p q r s e = absurd (omega arith)
        go true false c d p q r s e = absurd (omega arith)
        go true true false d p q r s e = absurd (omega arith)
        go true true true false p q r s e = absurd (omega arith)
