-- Laws of a search through landings: one try, how far a loop has come, how it ends, and what the caller sees of it.
use Rattle.std.specs.Prelude.{ℕ, suc, ◌+◌, ◌-◌, ◌≤◌, ◌<◌, ◌&&◌, Bool, eqb, Float, length, Some, None, Result, Ok, Err}
use Rattle.std.specs.Prelude.{if◌then◌else◌}
use Rattle.std.specs.Result.{result_eq}
use denote.Enum.Bare.{sameb}
use Rattle.std.proofs.Common.{arith, ◌∙◌, sym}
use Rattle.std.proofs.Math.Path.{◌≡◌, refl, ap}
use Rattle.std.proofs.Math.Bool.{true, false}
use mathlib.Core.List.{List, [], ◌∷◌, ◌++◌}
use native.Mathlib.Nat.{sub-zero}
use lib.Ieee.{of_bits, round}
use Rattle.std.proofs.lemmas.Bool.{ne_eqb}
use Rattle.state.specs.declared.BallState.{BallState}
use Rattle.state.specs.contracts.Termination.{the_type}
use Rattle.state.specs.declared.Termination.{Termination}
use Rattle.state.specs.declared.Termination.TheVariants.{Rest, MaxTime, MaxImpacts}
use Rattle.refusal.specs.Refusal.{number_of, answer_by}
use Rattle.refusal.specs.declared.Refusal.{Refusal}
use Rattle.refusal.proofs.Numbers.{never_0}
use Rattle.shot.specs.declared.Shot.{Shot}
use Rattle.records.specs.Records.{zeroed}
use Rattle.ground.specs.Tests.{refusal_of}
use Rattle.ground.specs.Settle.{Result as Settle, result_of, settle_of, told_by, ended_by}
use Rattle.ground.specs.declared.Settled.{Settled as Code}
use Rattle.aim.specs.Aim.{with_speeds, row, rows, grid, shot_from, is_rest, fits_of, first_of, aim, no_aim, zeros, aim_refusal, aim_of}
use Rattle.aim.specs.Inner.{fits_from, aimed_by, Seeks}
use Rattle.aim.specs.Passed.{never, any_lists}
use Rattle.aim.specs.declared.Target.{Target}
use Rattle.aim.specs.declared.Aimed.{Aimed}

-- ---- the first of two lists, one after the other
module _ (p : BallState → Bool) (ys : List BallState) where
  first_after : (xs : List BallState) → first_of p xs ≡ None → first_of p (xs ++ ys) ≡ first_of p ys
  unfolding first_of
  first_after [] h = refl
  first_after (x ∷ xs) h = go (p x) (first_after xs) h
    where
      go : (z : Bool) → (first_of p xs ≡ None → first_of p (xs ++ ys) ≡ first_of p ys) → (if z then Some x else first_of p xs) ≡ None
          → (if z then Some x else first_of p (xs ++ ys)) ≡ first_of p ys
      go true f h = absurd (let w : ◌≡◌ {A = ℕ} 0 1 = cc in omega arith)
      go false f h = f h

  first_in : (xs : List BallState) {b : BallState} → first_of p xs ≡ Some b → first_of p (xs ++ ys) ≡ Some b
  unfolding first_of
  first_in [] h = absurd (let w : ◌≡◌ {A = ℕ} 0 1 = cc in omega arith)
  first_in (x ∷ xs) {b} h = go (p x) (first_in xs) h
    where
      go : (z : Bool) → (first_of p xs ≡ Some b → first_of p (xs ++ ys) ≡ Some b) → (if z then Some x else first_of p xs) ≡ Some b
          → (if z then Some x else first_of p (xs ++ ys)) ≡ Some b
      go true f h = h
      go false f h = f h

-- ---- the grid from a place on

module _ (b : BallState) (i d : ℕ) where
  pub row_all : row b i (d + 1 - 1) 1 ≡ row b i d 1
  row_all = ap (λ (n : ℕ). row b i n 1) (omega arith)

  pub row_next : (j : ℕ) {x : BallState} → j ≤ d → x ≡ with_speeds b i j → row b i (d + 1 - j) j ≡ (x ∷ []) ++ row b i (d + 1 - (j + 1)) (j + 1)
  unfolding row
  row_next j h e = let k : d + 1 - j ≡ suc (d + 1 - (j + 1)) = omega arith in rw (k, e)

  pub row_end : (j : ℕ) → d < j → row b i (d + 1 - j) j ≡ []
  unfolding row
  row_end j h = let k : d + 1 - j ≡ 0 = omega arith in rw k

module _ (b : BallState) (m d : ℕ) where
  pub rows_all : rows b m (d + 1 - 1) 1 ≡ rows b m d 1
  rows_all = ap (λ (n : ℕ). rows b m n 1) (omega arith)

  pub rows_next : (i : ℕ) → i ≤ d → rows b m (d + 1 - i) i ≡ row b i m 1 ++ rows b m (d + 1 - (i + 1)) (i + 1)
  unfolding rows
  rows_next i h = let k : d + 1 - i ≡ suc (d + 1 - (i + 1)) = omega arith in rw k

  pub rows_end : (i : ℕ) → d < i → rows b m (d + 1 - i) i ≡ []
  unfolding rows
  rows_end i h = let k : d + 1 - i ≡ 0 = omega arith in rw k

-- ---- one try

-- a call that ended at rest was not refused
pub at_rest : (F : Refusal → Refusal → Bool) (o : Result Termination Refusal)
    → result_eq (sameb the_type) F o (Ok Rest) ≡ eqb (answer_by o) 0 && is_rest (ended_by o)
at_rest F (Ok Rest) = refl
at_rest F (Ok MaxTime) = refl
at_rest F (Ok MaxImpacts) = refl
at_rest F (Err r) = rw (ne_eqb _ 0 (never_0 r))

-- a settle that fits came to rest
came_to_rest : (o : Result Termination Refusal) (b : Bool) → eqb (answer_by o) 0 && is_rest (ended_by o) && b ≡ true → o ≡ Ok Rest
came_to_rest (Ok Rest) b h = refl
came_to_rest (Ok MaxTime) b h = never h
came_to_rest (Ok MaxImpacts) b h = never h
came_to_rest (Err r) b h = never (rw (ne_eqb _ 0 (never_0 r)) at h)

first_holds : (p : BallState → Bool) (l : List BallState) {b : BallState} → first_of p l ≡ Some b → p b ≡ true
unfolding first_of
first_holds p [] h = absurd (let w : ◌≡◌ {A = ℕ} 0 1 = cc in omega arith)
first_holds p (x ∷ l) {b} h = go (p x) refl (first_holds p l) h
  where
    go : (z : Bool) → p x ≡ z → (first_of p l ≡ Some b → p b ≡ true) → (if z then Some x else first_of p l) ≡ Some b → p b ≡ true
    go true e f h = let q : x ≡ b = cc in ap p (sym q) ∙ e
    go false e f h = f h

pub found_rests : (sheet : List ℕ) (shot : Shot) (t : Target) (cs ps : List Float) (l : List BallState) (a : Aimed) {mc mp : List Float}
    → Seeks sheet shot t (length cs) (length ps) l (Some a) mc mp → a.settled.outcome ≡ Ok Rest
unfolding fits_of
found_rests sheet shot t cs ps l a h =
    let s = h cs ps refl refl in
    let f = first_holds (fits_from sheet shot t cs ps) l s.0 in
    came_to_rest a.settled.outcome _ (rw (← ap (λ (r : Settle). r.settled) s.1) at f)

module _ (sheet : List ℕ) (shot : Shot) (t : Target) where
  module _ (b : BallState) {from : Shot} (cs ps : List Float) (s : Code) {mc mp : List Float}
      (h : refusal_of sheet (shot_from shot b) (length cs) (length ps) ≡ 0) (ef : from ≡ shot_from shot b)
      (e : result_of (told_by s) mc mp ≡ settle_of sheet from cs ps) where
    settled_over : (ds qs : List Float) → length ds ≡ length cs → length qs ≡ length ps → result_of (told_by s) mc mp ≡ settle_of sheet (shot_from shot b) ds qs
    settled_over ds qs ec ep = e ∙ ap (λ (x : Shot). settle_of sheet x cs ps) ef ∙ sym (any_lists sheet (shot_from shot b) cs ps ds qs h ec ep)

    tried : (z : Bool) → fits_of t (told_by s) ≡ z → (ds qs : List Float) → length ds ≡ length cs → length qs ≡ length ps → fits_from sheet shot t ds qs b ≡ z
    tried z f ds qs ec ep = ap (λ (w : Settle). fits_of t w.settled) (sym (settled_over ds qs ec ep)) ∙ f

    pub hits : fits_of t (told_by s) ≡ true → Seeks sheet shot t (length cs) (length ps) (b ∷ []) (Some (record { settled = s; landing = b })) mc mp
    unfolding first_of
    hits f ds qs ec ep = (rw (tried true f ds qs ec ep), settled_over ds qs ec ep)

    pub misses : fits_of t (told_by s) ≡ false → Seeks sheet shot t (length cs) (length ps) (b ∷ []) None mc mp
    unfolding first_of
    misses f ds qs ec ep = rw (tried false f ds qs ec ep)

  -- ---- a loop over tries

  -- `left` is left of all the landings, and none before it fits
  pub record Along (nc np : ℕ) (all left : List BallState) : Type 0 where
    pub same : (ds qs : List Float) → length ds ≡ nc → length qs ≡ np
        → first_of (fits_from sheet shot t ds qs) left ≡ first_of (fits_from sheet shot t ds qs) all

module _ {sheet : List ℕ} {shot : Shot} {t : Target} {nc np : ℕ} {all left : List BallState} where
  pub starts : left ≡ all → Along sheet shot t nc np all left
  starts e = record { same = λ ds qs ec ep. ap (first_of (fits_from sheet shot t ds qs)) e }

  module _ (a : Along sheet shot t nc np all left) where
    module _ (xs ys : List BallState) {kc kp : ℕ} (mc mp : List Float) (e : left ≡ xs ++ ys) (ec : kc ≡ nc) (ep : kp ≡ np) where
      pub goes_on : Seeks sheet shot t kc kp xs None mc mp → Along sheet shot t nc np all ys
      goes_on s =
          record {
            same = λ ds qs dc dp.
                sym (ap (first_of (fits_from sheet shot t ds qs)) e ∙ first_after _ ys xs (s ds qs (dc ∙ sym ec) (dp ∙ sym ep))) ∙ a.same ds qs dc dp;
          }

      pub ends_hit : (x : Aimed) → Seeks sheet shot t kc kp xs (Some x) mc mp → Seeks sheet shot t nc np all (Some x) mc mp
      ends_hit x s ds qs dc dp =
          let k = s ds qs (dc ∙ sym ec) (dp ∙ sym ep) in
          (sym (a.same ds qs dc dp) ∙ ap (first_of (fits_from sheet shot t ds qs)) e ∙ first_in _ ys xs k.0, k.1)

    pub ends_missed : left ≡ [] → (mc mp : List Float) → Seeks sheet shot t nc np all None mc mp
    unfolding first_of
    ends_missed e mc mp ds qs dc dp = sym (a.same ds qs dc dp) ∙ ap (first_of (fits_from sheet shot t ds qs)) e

-- ---- what the caller sees

zeroed_zeros : (l : List Float) {n : ℕ} → length l ≡ n → zeroed l 0 ≡ zeros n
unfolding of_bits round
zeroed_zeros l e = rw (sub-zero, e)

module _ (sheet : List ℕ) (shot : Shot) (t : Target) (forward downward : ℕ) (cs ps : List Float) where
  pub turned_back : (r : Refusal) → number_of r ≡ aim_refusal sheet shot t forward downward (length cs) (length ps)
      → aim (no_aim (number_of r)) cs ps ≡ aim_of sheet shot t forward downward cs ps
  unfolding aim_of
  turned_back r e = rw (← e, ne_eqb _ 0 (never_0 r))

  module _ (h : aim_refusal sheet shot t forward downward (length cs) (length ps) ≡ 0) (mc mp : List Float) where
    pub found : (a : Aimed) → Seeks sheet shot t (length cs) (length ps) (grid shot.landing forward downward) (Some a) mc mp
        → aim (aimed_by (Ok (Some a))) mc mp ≡ aim_of sheet shot t forward downward cs ps
    unfolding aim_of
    found a s = let k = s cs ps refl refl in rw (h, k.0, ← k.1)

    pub nothing_found : Seeks sheet shot t (length cs) (length ps) (grid shot.landing forward downward) None mc mp
        → length mc ≡ length cs → length mp ≡ length ps
        → aim (aimed_by (Ok None)) (zeroed mc 0) (zeroed mp 0) ≡ aim_of sheet shot t forward downward cs ps
    unfolding aim_of
    nothing_found s kc kp = let k = s cs ps refl refl in rw (h, k, zeroed_zeros mc kc, zeroed_zeros mp kp)
