-- Statements. The order of entering does not matter (02, paper 7): what was accepted decides the listing, and calls that no test can turn back are all
-- accepted, in any order. Assumes nothing.
use Rattle.std.specs.Prelude.{ℕ, ◌+◌, ◌≤◌, ◌≡◌, refl, Bool, true, false, ◌&&◌, cond, T, length, replicate, Float}
use Rattle.std.proofs.Common.{arith, ap₂, ◌∙◌, sym, subst, ne_eqb, eq-eqb}
use mathlib.Core.List.Permᴰ
use mathlib.Core.List.{List, [], ◌∷◌, ◌++◌, Permᴰ}
use Rattle.std.specs.Float.Ieee.{round, neg, le, lt, eq}
use Rattle.number.specs.Ops.{dec}
use Rattle.number.specs.Number.{about_of, within_of}
use Rattle.board.specs.declared.Entry.{Entry}
use Rattle.board.specs.declared.Board.{Board}
use Rattle.board.specs.Rules.{is_before, holds, one, used}
use Rattle.board.specs.Board.{listing, empty_board, answered, new_of, enter_of}
use Rattle.board.specs.Words.{All, Distinct, Near, after, answers, accepted}
use Rattle.board.specs.Sorting.{sort_alike, sort_permutes, all_perm, distinct_perm}
use Rattle.board.specs.Keys.{Finite, key_order}
use Rattle.board.specs.Bays.{InBay, used_perm}
use Rattle.board.proofs.Listing.{Made, made_new, made_call, made_room, made, listing_sorts, keys_finite}

-- calls that no test can turn back: bays and spots in range, no shot number twice, and no bay with more than 32
pub record Fair (calls : List Entry) : Type 0 where
  pub bays : All InBay calls
  pub near : All Near calls
  pub distinct : Distinct calls
  pub share : (k : ℕ) → used k calls ≤ 32

pub fair_perm : {l m : List Entry} → Permᴰ l m → Fair l → Fair m
fair_perm d f =
    record {
      bays = all_perm InBay d f.bays;
      near = all_perm Near d f.near;
      distinct = distinct_perm d f.distinct;
      share = λ k. subst (λ (n : ℕ). n ≤ 32) (used_perm k d) (f.share k);
    }

-- ---- each of them is taken
all_past : (P : Entry → Type 0) (l m : List Entry) → All P (l ++ m) → All P m
unfolding All
all_past P [] m a = a
all_past P (e ∷ l) m a = all_past P l m a.1

used_past : (k : ℕ) (l m : List Entry) → used k m ≤ used k (l ++ m)
unfolding used
used_past k [] m = omega arith
used_past k (e ∷ l) m = omega (arith, used_past k l m)

unheld : (e : Entry) (l : List Entry) → All (λ (f : Entry). e.shot ≡ f.shot → ⊥) l → holds e.shot l ≡ false
unfolding All holds
unheld e [] a = refl
unheld e (f ∷ l) a = rw (ne_eqb f.shot e.shot (λ q. a.0 (sym q)), unheld e l a.1)

own : (e : Entry) (l : List Entry) → used e.bay (e ∷ l) ≡ 1 + used e.bay l
unfolding used one
own e l = rw (eq-eqb e.bay e.bay refl)

-- the calls, and what was accepted before them, together
pub record Taken (b : Board) (calls l : List Entry) : Type 0 where
  pub zeros : answers b calls ≡ replicate (length calls) 0
  pub all : Permᴰ (accepted b calls l) (calls ++ l)

taken_from : (px pz : Float) (b : Board) (l calls : List Entry) → Made px pz b l → All InBay calls → All Near calls → Distinct (calls ++ l)
    → ((k : ℕ) → used k (calls ++ l) ≤ 32) → Taken b calls l
unfolding answers accepted All Distinct
taken_from px pz b l [] m i n d s = record { zeros = refl; all = Permᴰ.refl l }
taken_from px pz b l (e ∷ calls) m i n d s =
    let z : (enter_of b e).answer ≡ 0 = taken_one in
    let r = taken_from px pz (enter_of b e).board (e ∷ l) calls (rw z at (made_call px pz b l e m)) i.1 n.1
    (distinct_perm (Permᴰ.symm (Permᴰ.middle e calls l)) d) (λ k. subst (λ (x : ℕ). x ≤ 32) (used_perm k (Permᴰ.symm (Permᴰ.middle e calls l))) (s k)) in
    record {
      zeros = ap₂ (λ (x : ℕ) (y : List ℕ). x ∷ y) z r.zeros;
      all = rw z (Permᴰ.trans r.all (Permᴰ.middle e calls l));
    }
  where
    new : holds e.shot (listing b) ≡ false
    new =
        let a = all_past (λ (f : Entry). e.shot ≡ f.shot → ⊥) calls l d.0 in
        unheld e (listing b) (rw m.sorted (all_perm (λ (f : Entry). e.shot ≡ f.shot → ⊥) (Permᴰ.symm (sort_permutes (is_before px pz) l)) a))

    taken_one : (enter_of b e).answer ≡ 0
    taken_one =
        made_room m e n.0 i.0 new (omega (arith, own e (calls ++ l), s e.bay, used_past e.bay calls l))

-- on a new board every one of them is answered by 0
fair_taken : (px pz : Float) (calls : List Entry) → Fair calls → Taken (empty_board px pz) calls []
fair_taken px pz calls f =
    taken_from px pz (empty_board px pz) [] calls (made_new px pz) f.bays f.near (distinct_perm (Permᴰ.symm (Permᴰ.append-nil calls)) f.distinct)
    (λ k. subst (λ (n : ℕ). n ≤ 32) (used_perm k (Permᴰ.symm (Permᴰ.append-nil calls))) (f.share k))

-- ---- from a new board
module _ (px pz : Float) (i : T (about_of (dec 100000 1) px)) (j : T (about_of (dec 100000 1) pz)) where
  -- two boards that hold the same accepted entries list alike, whatever refused calls came between
  pub same_accepted : (calls others : List Entry) → Permᴰ (accepted (empty_board px pz) calls []) (accepted (empty_board px pz) others [])
      → listing (after (empty_board px pz) calls) ≡ listing (after (empty_board px pz) others)
  same_accepted calls others d =
      listing_sorts px pz calls
      ∙ sort_alike (Finite px pz) (is_before px pz) (key_order px pz) d (keys_finite px pz calls i j) (made px pz calls).distinct
      ∙ sym (listing_sorts px pz others)

-- what 02 asks of two orders of entering the same shots: both list alike, entry by entry, and every call is answered by 0
pub record Alike (b : Board) (calls others : List Entry) : Type 0 where
  pub listed : listing (after b calls) ≡ listing (after b others)
  pub zeros : answers b calls ≡ replicate (length calls) 0
  pub others_zeros : answers b others ≡ replicate (length others) 0

alike_from : (px pz : Float) → T (about_of (dec 100000 1) px) → T (about_of (dec 100000 1) pz) → (calls others : List Entry) → Permᴰ calls others
    → Fair calls → Alike (empty_board px pz) calls others
alike_from px pz i j calls others d f =
    let t = fair_taken px pz calls f in
    let u = fair_taken px pz others (fair_perm d f) in
    let p = Permᴰ.trans t.all (Permᴰ.append-nil calls) in
    let q = Permᴰ.trans u.all (Permᴰ.append-nil others) in
    record {
      listed = same_accepted px pz i j calls others (Permᴰ.trans p (Permᴰ.trans d (Permᴰ.symm q)));
      zeros = t.zeros;
      others_zeros = u.zeros;
    }

-- 02, paper 7: "two orders of entering the same accepted shots on new boards with one pin list alike, provided that no bay passes its 32 and no shot
-- number repeats": for any pin, and any two lists of calls of which one permutes the other
pub alike : (px pz : Float) (calls others : List Entry) → Permᴰ calls others → Fair calls → Alike (new_of px pz).board calls others
unfolding new_of round neg le lt eq within_of
alike px pz calls others d f = go (about_of (dec 100000 1) px) (about_of (dec 100000 1) pz) (λ t. t) (λ t. t)
  where
    go : (p q : Bool) → (T p → T (about_of (dec 100000 1) px)) → (T q → T (about_of (dec 100000 1) pz))
        → Alike (cond (p && q) (answered 0 (empty_board px pz)) (answered 9 (empty_board (dec 0 1) (dec 0 1)))).board calls others
    go true true i j = alike_from px pz (i tt) (j tt) calls others d f
    go true false i j = alike_from (dec 0 1) (dec 0 1) tt tt calls others d f
    go false q i j = alike_from (dec 0 1) (dec 0 1) tt tt calls others d f
