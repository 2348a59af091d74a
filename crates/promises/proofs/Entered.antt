-- Statements. Every run with answer 0 may be entered on a board (01, "Lists and the rest of the shop"): its final spot never meets 10. Assumes nothing.
use Rattle.std.specs.Prelude.{ℕ, ◌≤◌, ◌<◌, ◌≡◌, refl, false, ◌&&◌, List, [], T, Float, Option, Some, None}
use Rattle.std.proofs.Common.{sym, subst}
use Rattle.std.specs.Float.Ieee.Fits.{and_l, and_r}
use Rattle.number.specs.Ops.{dec}
use Rattle.number.specs.Number.{about_of}
use Rattle.state.specs.declared.BallState.{BallState}
use Rattle.state.specs.State.{coord_ok, vec_ok, state_ok}
use Rattle.shot.specs.declared.Shot.{Shot}
use Rattle.state.specs.declared.Termination.{Termination}
use Rattle.state.specs.declared.Termination.TheVariants.{Rest, MaxTime, MaxImpacts}
use Rattle.ground.specs.Settle.{Settled, settle_of}
use Rattle.promises.proofs.Finite.{settle_leaves}
use Rattle.promises.proofs.Promises.{answered, finished}
use Rattle.board.specs.declared.Board.{Board}
use Rattle.board.specs.declared.Entry.{Entry}
use Rattle.board.specs.Rules.{holds, used}
use Rattle.board.specs.Board.{listing, empty_board, enter_of}
use Rattle.board.specs.Words.{Near, after, accepted}
use Rattle.board.proofs.Listing.{never_10, made_taken}
use Rattle.state.specs.Numbers.{termination_number}
use Rattle.layout.specs.Layout.{termination_of}
use Rattle.layout.specs.Sent.{Sent, is_end, sent_of}

-- a state that passes test 22 has a spot of magnitude at most 1,000,000
spot_about : (s : BallState) → T (state_ok s) → T (about_of (dec 1000000 1) s.pos.x) × T (about_of (dec 1000000 1) s.pos.z)
unfolding state_ok vec_ok coord_ok
spot_about s h =
    let p = and_l (vec_ok s.pos) (vec_ok s.vel && vec_ok s.spin)
    (and_r (coord_ok s.time) (vec_ok s.pos && (vec_ok s.vel && vec_ok s.spin)) h) in (
      and_l (coord_ok s.pos.x) (coord_ok s.pos.y && coord_ok s.pos.z) p,
      and_r (coord_ok s.pos.y) (coord_ok s.pos.z)
          (and_r (coord_ok s.pos.x) (coord_ok s.pos.y && coord_ok s.pos.z) p),
    )

module _ (sheet : List ℕ) (shot : Shot) (cs ps : List Float) where
  abbrev run : Settled
  run = (settle_of sheet shot cs ps).settled

  -- the entry of the run under a shot number, for a bay
  abbrev pub entry_of : ℕ → ℕ → Entry
  entry_of k n = record { shot = n; bay = k; termination = run.termination; contacts = run.contacts; x = run.rest.pos.x; z = run.rest.pos.z }

  run_near : run.answer ≡ 0 → (k n : ℕ) → Near (entry_of k n)
  run_near h k n =
      let l = settle_leaves sheet shot cs ps (answered sheet shot cs ps h) in
      spot_about run.rest (subst T (sym l.rest) tt)

  -- 01: "Every run with answer 0 may be entered", whatever the board, the bay and the shot number
  pub may_be_entered : run.answer ≡ 0 → (b : Board) (k n : ℕ) → (enter_of b (entry_of k n)).answer ≡ 10 → ⊥
  may_be_entered h b k n = never_10 b (entry_of k n) (run_near h k n)

  -- and under a new number, on a board that calls made from a new one, for a bay with entries left, it is
  pub is_entered : run.answer ≡ 0 → (px pz : Float) (calls : List Entry) (k n : ℕ) → k ≤ 7
      → holds n (listing (after (empty_board px pz) calls)) ≡ false → used k (accepted (empty_board px pz) calls []) < 32
      → (enter_of (after (empty_board px pz) calls) (entry_of k n)).answer ≡ 0
  is_entered h px pz calls k n = made_taken px pz calls (entry_of k n) (run_near h k n)

  -- what dimple_board_enter is handed for the run: the numbers of its result
  abbrev pub sent_run : ℕ → ℕ → Sent
  sent_run k n =
      record {
        bay = k;
        shot = n;
        termination = termination_number run.termination;
        contacts = run.contacts;
        x = run.rest.pos.x;
        z = run.rest.pos.z;
      }

  -- it takes them as that entry, and 102 never comes
  pub sent_run_lem : run.answer ≡ 0 → (b : Board) (k n : ℕ) → sent_of b (sent_run k n) ≡ enter_of b (entry_of k n)
  unfolding sent_of is_end termination_of termination_number
  sent_run_lem h b k n = go run.termination (finished sheet shot cs ps h)
    where
      sent : Option Termination → Sent
      sent t = record { bay = k; shot = n; termination = termination_number t; contacts = run.contacts; x = run.rest.pos.x; z = run.rest.pos.z }

      entry : Option Termination → Entry
      entry t = record { shot = n; bay = k; termination = t; contacts = run.contacts; x = run.rest.pos.x; z = run.rest.pos.z }

      go : (t : Option Termination) → (t ≡ None → ⊥) → sent_of b (sent t) ≡ enter_of b (entry t)
      go None i = absurd (i refl)
      go (Some Rest) i = refl
      go (Some MaxTime) i = refl
      go (Some MaxImpacts) i = refl
