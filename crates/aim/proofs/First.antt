-- Statements. What `aim` gives, of every call that passes its tests: the first landing of the grid that fits, with that landing's own settle; or None,
-- exactly where no landing of the grid fits.
use Rattle.std.specs.Prelude.{ℕ, zero, suc, ◌+◌, ◌≤◌, ◌⊎◌, ◌↔◌, Bool, ◌&&◌, eqb, Float, length}
use Rattle.std.proofs.Common.{arith, ◌∙◌, sym, inl, inr, eqb-true}
use Rattle.std.proofs.Math.Path.{◌≡◌, refl, ap}
use Rattle.std.proofs.Math.Bool.{true, false}
use mathlib.Core.List.{List, [], ◌∷◌, ◌++◌, Memᴰ}
use Rattle.std.specs.Prelude.{Option, Some, None}
use Rattle.std.specs.Float.Ieee.{le}
use Rattle.number.specs.Ops.{◌⊕◌, ◌⊖◌, ◌⊗◌}
use Rattle.std.specs.Prelude.{if◌then◌else◌}
use Rattle.state.specs.declared.BallState.{BallState}
use Rattle.state.specs.declared.Termination.{Termination}
use Rattle.state.specs.declared.Termination.TheVariants.{Rest, MaxTime, MaxImpacts}
use Rattle.shot.specs.declared.Shot.{Shot}
use Rattle.ground.specs.Tests.{refusal_of}
use Rattle.ground.specs.Settle.{Settled, no_state, settle_of}
use Rattle.aim.specs.Aim.{Aim, aim, no_aim, aim_at, aim_refusal, aim_of, aim_by, fits_of, first_of, grid, row, rows, with_speeds, shot_from, is_rest, zeros}
use Rattle.aim.specs.Passed.{never, aim_accepted, from_speeds, speed_not_zero}
use Rattle.aim.specs.declared.Target.{Target}

-- ---- a settle that fits: answer 0, at rest, within the distance

pub record Rests (t : Target) (s : Settled) : Type 0 where
  pub finished : s.answer ≡ 0
  pub at_rest : s.termination ≡ Some Rest
  pub near : le ((s.rest.pos.x ⊖ t.x) ⊗ (s.rest.pos.x ⊖ t.x) ⊕ (s.rest.pos.z ⊖ t.z) ⊗ (s.rest.pos.z ⊖ t.z)) (t.distance ⊗ t.distance) ≡ true

rest_only : (w : Option Termination) → is_rest w ≡ true → w ≡ Some Rest
rest_only None e = never e
rest_only (Some Rest) e = refl
rest_only (Some MaxTime) e = never e
rest_only (Some MaxImpacts) e = never e

pub fits_rests : (t : Target) (s : Settled) → fits_of t s ≡ true → Rests t s
unfolding fits_of
fits_rests t s e = go (eqb s.answer 0) (is_rest s.termination) _ refl refl refl e
  where
    go : (a b d : Bool) → eqb s.answer 0 ≡ a → is_rest s.termination ≡ b
        → le ((s.rest.pos.x ⊖ t.x) ⊗ (s.rest.pos.x ⊖ t.x) ⊕ (s.rest.pos.z ⊖ t.z) ⊗ (s.rest.pos.z ⊖ t.z)) (t.distance ⊗ t.distance) ≡ d
        → a && b && d ≡ true → Rests t s
    go true true d x y z e = record { finished = eqb-true _ 0 x; at_rest = rest_only _ y; near = z ∙ e }
    go true false d x y z e = never e
    go false b d x y z e = never e

-- ---- the first of a list

pub record First {A : Type 0} (p : A → Bool) (l : List A) (a : A) : Type 0 where
  pub before : List A
  pub after : List A
  pub in_order : l ≡ before ++ (a ∷ after)
  pub none_earlier : (x : A) → Memᴰ x before → p x ≡ false
  pub itself : p a ≡ true

abbrev pub NoneOf : {A : Type 0} → (A → Bool) → List A → Type 0
NoneOf {A} p l = (x : A) → Memᴰ x l → p x ≡ false

module _ {A : Type 0} (p : A → Bool) where
  none_cons : (a : A) (l : List A) → p a ≡ false → NoneOf p l → NoneOf p (a ∷ l)
  none_cons a l e n x m = go (mathlib.Core.List.Memᴰ.cases_cons m)
    where
      go : (x ≡ a) ⊎ Memᴰ x l → p x ≡ false
      go (inl q) = ap p q ∙ e
      go (inr k) = n x k

  first_some : (l : List A) (a : A) → first_of p l ≡ Some a → First p l a
  unfolding first_of
  first_some [] a h = absurd (let w : ◌≡◌ {A = ℕ} 0 1 = cc in omega arith)
  first_some (b ∷ l) a h = go (p b) refl (first_some l a) h
    where
      go : (z : Bool) → p b ≡ z → (first_of p l ≡ Some a → First p l a) → (if z then Some b else first_of p l) ≡ Some a → First p (b ∷ l) a
      go true e f h =
          let q : b ≡ a = cc in
          record {
            before = [];
            after = l;
            in_order = ap (λ (x : A). x ∷ l) q;
            none_earlier = λ x m. absurd (mathlib.Core.List.Memᴰ.not-nil m);
            itself = ap p (sym q) ∙ e;
          }
      go false e f h =
          let r = f h in
          record {
            before = b ∷ r.before;
            after = r.after;
            in_order = ap (λ (x : List A). b ∷ x) r.in_order;
            none_earlier = none_cons b r.before e r.none_earlier;
            itself = r.itself;
          }

  first_none : (l : List A) → first_of p l ≡ None → NoneOf p l
  unfolding first_of
  first_none [] h = λ x m. absurd (mathlib.Core.List.Memᴰ.not-nil m)
  first_none (b ∷ l) h = go (p b) refl (first_none l) h
    where
      go : (z : Bool) → p b ≡ z → (first_of p l ≡ None → NoneOf p l) → (if z then Some b else first_of p l) ≡ None → NoneOf p (b ∷ l)
      go true e f h = absurd (let w : ◌≡◌ {A = ℕ} 0 1 = cc in omega arith)
      go false e f h = none_cons b l e (f h)

-- ---- the grid

-- the landings of the grid have the whole speeds from 1 to its sides
pub record InGrid (b : BallState) (forward downward : ℕ) (x : BallState) : Type 0 where
  pub i : ℕ
  pub j : ℕ
  pub i_least : 1 ≤ i
  pub i_most : i ≤ forward
  pub j_least : 1 ≤ j
  pub j_most : j ≤ downward
  pub speeds : x ≡ with_speeds b i j

in_row : (b : BallState) (f d i n j : ℕ) (x : BallState) → 1 ≤ i → i ≤ f → 1 ≤ j → n + j ≤ d + 1 → Memᴰ x (row b i n j) → InGrid b f d x
unfolding row
in_row b f d i zero j x a u l h m = absurd (mathlib.Core.List.Memᴰ.not-nil m)
in_row b f d i (suc n) j x a u l h m = go (in_row b f d i n (j + 1) x a u (omega arith) (omega arith)) (mathlib.Core.List.Memᴰ.cases_cons m)
  where
    go : (Memᴰ x (row b i n (j + 1)) → InGrid b f d x) → (x ≡ with_speeds b i j) ⊎ Memᴰ x (row b i n (j + 1)) → InGrid b f d x
    go g (inl q) = record { i = i; j = j; i_least = a; i_most = u; j_least = l; j_most = omega arith; speeds = q }
    go g (inr k) = g k

in_rows : (b : BallState) (f d n i : ℕ) (x : BallState) → 1 ≤ i → n + i ≤ f + 1 → Memᴰ x (rows b d n i) → InGrid b f d x
unfolding rows
in_rows b f d zero i x l h m = absurd (mathlib.Core.List.Memᴰ.not-nil m)
in_rows b f d (suc n) i x l h m = go (in_rows b f d n (i + 1) x (omega arith) (omega arith)) (mathlib.Core.List.Memᴰ.append_cases (row b i d 1) m)
  where
    go : (Memᴰ x (rows b d n (i + 1)) → InGrid b f d x) → Memᴰ x (row b i d 1) ⊎ Memᴰ x (rows b d n (i + 1)) → InGrid b f d x
    go g (inl k) = in_row b f d i d 1 x l (omega arith) (omega arith) (omega arith) k
    go g (inr k) = g k

pub in_grid : (b : BallState) (forward downward : ℕ) (x : BallState) → Memᴰ x (grid b forward downward) → InGrid b forward downward x
in_grid b forward downward x m = in_rows b forward downward forward 1 x (omega arith) (omega arith) m

module _ (sheet : List ℕ) (shot : Shot) (t : Target) (forward downward : ℕ) (cs ps : List Float) where
  abbrev pub landings : List BallState
  landings = grid shot.landing forward downward

  -- whether the shot from a landing settles so that it fits
  abbrev pub fits : BallState → Bool
  fits b = fits_of t (settle_of sheet (shot_from shot b) cs ps).settled

  abbrev pub out : Aim
  out = aim_of sheet shot t forward downward cs ps

  -- what an accepted call gives: the first landing that fits, with the result and the lists of its own settle, over the lists as they were lent; or None,
  -- with +0 in the lists
  pub data Given : Type 0 where
    landing_given : (b : BallState) → First fits landings b → out ≡ aim_at b (settle_of sheet (shot_from shot b) cs ps) → Given
    none_given : NoneOf fits landings → out ≡ aim (no_aim 0) (zeros (length cs)) (zeros (length ps)) → Given

  module _ (h : aim_refusal sheet shot t forward downward (length cs) (length ps) ≡ 0) where
    pub aim_given : Given
    unfolding aim_of
    aim_given = go (first_of fits landings) refl
      where
        by : (o : Option BallState) → first_of fits landings ≡ o → out ≡ aim_by sheet shot t forward downward cs ps o
        by o e = rw (h, e)

        go : (o : Option BallState) → first_of fits landings ≡ o → Given
        go None e = none_given (first_none fits landings e) (by None e)
        go (Some b) e = landing_given b (first_some fits landings b e) (by (Some b) e)

    -- a landing of the grid is never turned back
    pub grid_accepted : (x : BallState) → Memᴰ x landings → refusal_of sheet (shot_from shot x) (length cs) (length ps) ≡ 0
    grid_accepted x m =
        let a = aim_accepted sheet shot t forward downward (length cs) (length ps) h in
        let g = in_grid shot.landing forward downward x m in
        let u : g.i ≤ 32 = omega (arith, g.i_most, a.rows_fit) in
        let v : g.j ≤ 32 = omega (arith, g.j_most, a.columns_fit) in
        rw g.speeds (from_speeds sheet shot (length cs) (length ps) g.i g.j u v a.settles)

    -- nor is it the all-zero landing
    pub grid_moves : (x : BallState) → Memᴰ x landings → x ≡ no_state → ⊥
    unfolding with_speeds
    grid_moves x m z =
        let a = aim_accepted sheet shot t forward downward (length cs) (length ps) h in
        let g = in_grid shot.landing forward downward x m in
        let u : g.i ≤ 32 = omega (arith, g.i_most, a.rows_fit) in
        speed_not_zero g.i g.i_least u (ap (λ (s : BallState). s.vel.x) (sym g.speeds ∙ z))

    -- it says None, by an all-zero landing, exactly where no landing of the grid fits
    pub none_exactly : (out.aimed.landing ≡ no_state) ↔ NoneOf fits landings
    none_exactly = (λ z. says aim_given z, λ n. finds aim_given n)
      where
        says : Given → out.aimed.landing ≡ no_state → NoneOf fits landings
        says (none_given n e) z = n
        says (landing_given b f e) z =
            let m : Memᴰ b landings = rw f.in_order (mathlib.Core.List.Memᴰ.append_right f.before (mathlib.Core.List.Memᴰ.head refl)) in
            absurd (grid_moves b m (ap (λ (a : Aim). a.aimed.landing) (sym e) ∙ z))

        finds : Given → NoneOf fits landings → out.aimed.landing ≡ no_state
        finds (none_given n e) k = ap (λ (a : Aim). a.aimed.landing) e
        finds (landing_given b f e) k =
            let m : Memᴰ b landings = rw f.in_order (mathlib.Core.List.Memᴰ.append_right f.before (mathlib.Core.List.Memᴰ.head refl)) in
            never (sym (k b m) ∙ f.itself)
