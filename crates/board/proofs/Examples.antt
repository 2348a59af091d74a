-- Computed: a ball whose spot is a NaN is refused by 10, so that it cannot scramble the listing; six balls that two orders of entering list alike.
-- Assumes nothing.
use Prim.Native.Nat.{ℕ, ◌≤◌}
use native.Mathlib.Omega.{arith}
use mathlib.Core.Path.{◌≡◌, refl}
use mathlib.Core.List.{List, [], ◌∷◌, Permᴰ}
use lib.ListN.{length}
use lib.Ieee.{Float, nan, round, neg, le, lt, eq, add, sub, sum, mul}
use Rattle.number.specs.Ops.{dec}
use Rattle.number.specs.Number.{within_of}
use Rattle.state.specs.declared.Termination.{Termination}
use Rattle.state.specs.declared.Termination.TheVariants.{Rest, MaxTime, MaxImpacts}
use Rattle.std.specs.Prelude.{Some}
use Rattle.board.specs.declared.Entry.{Entry}
use Rattle.board.specs.Rules.{key_of, by_first, moving, is_before, near, used, answer_of, insert}
use Rattle.board.specs.Words.{All, Distinct, sort}
use Rattle.board.proofs.Alike.{Fair, Alike, alike}
use Rattle.board.proofs.Lists.{one_most}
use Rattle.board.specs.Board.{empty_board, enter_of, new_of, shots}

nan_spot : (enter_of (empty_board (dec 0 1) (dec 0 1)) (record { shot = 1; bay = 0; termination = Some Rest; contacts = 1; x = nan; z = dec 0 1 })).answer ≡ 10
unfolding enter_of answer_of near round neg le within_of
nan_spot = refl

nan_pin : (new_of nan (dec 0 1)).answer ≡ 9
unfolding new_of round neg le within_of
nan_pin = refl

far_pin : (new_of (dec 100001 1) (dec 0 1)).answer ≡ 9
unfolding new_of round neg le within_of
far_pin = refl

-- ---- 02, paper 7: its hypotheses are met by these six, with ties at each level: two still moving at one distance, nearer than three at rest at one
-- distance, of which two have as many contacts
abbrev ball : ℕ → ℕ → Termination → ℕ → ℕ → ℕ → Entry
ball n k t c x z = record { shot = n; bay = k; termination = Some t; contacts = c; x = dec x 1; z = dec z 1 }

six : List Entry
six = ball 4 0 Rest 2 3 4 ∷ ball 3 1 Rest 2 4 3 ∷ ball 9 0 Rest 1 5 0 ∷ ball 2 0 MaxImpacts 1 1 0 ∷ ball 1 2 MaxTime 1 0 1 ∷ ball 7 7 Rest 5 0 0 ∷ []

used_all : (k : ℕ) (l : List Entry) → used k l ≤ length l
unfolding used
used_all k [] = omega arith
used_all k (e ∷ l) = omega (arith, used_all k l, one_most k e)

six_fair : Fair six
unfolding six All Distinct round neg le lt eq within_of
six_fair =
    record {
      bays = (omega arith, (omega arith, (omega arith, (omega arith, (omega arith, (omega arith, tt))))));
      near = ((tt, tt), ((tt, tt), ((tt, tt), ((tt, tt), ((tt, tt), ((tt, tt), tt))))));
      distinct = (
        ((λ q. omega arith), ((λ q. omega arith), ((λ q. omega arith), ((λ q. omega arith), ((λ q. omega arith), tt))))),
        (
          ((λ q. omega arith), ((λ q. omega arith), ((λ q. omega arith), ((λ q. omega arith), tt)))),
          (
            ((λ q. omega arith), ((λ q. omega arith), ((λ q. omega arith), tt))),
            (
              ((λ q. omega arith), ((λ q. omega arith), tt)),
              (
                ((λ q. omega arith), tt),
                (tt, tt),
              ),
            ),
          ),
        ),
      );
      share = λ k. omega (arith, used_all k six);
    }

-- so every order of entering them lists alike, whatever the pin
six_alike : (px pz : Float) (others : List Entry) → Permᴰ six others → Alike (new_of px pz).board six others
six_alike px pz others d = alike px pz six others d six_fair

-- by the board's order, with the pin at 0: their shot numbers
six_listed : shots (sort (is_before (dec 0 1) (dec 0 1)) six) ≡ 7 ∷ 9 ∷ 3 ∷ 4 ∷ 1 ∷ 2 ∷ []
unfolding six sort insert is_before by_first moving key_of round neg le lt eq add sub sum mul
six_listed = refl
