-- Lemmas. What a call that passes its tests has passed, and that each landing of its grid passes them too.
use Rattle.std.specs.Prelude.{ℕ, zero, suc, ◌≤◌, ◌<◌, ◌≡◌, ◌⊎◌, Bool, ◌&&◌, ◌||◌, List, T, leb, Float, length}
use Rattle.std.proofs.Common.{eq-or-lt_of_le, le_of_suc-le-suc, not-suc-le-zero, arith, ◌∙◌, sym, inl, inr}
use Rattle.std.proofs.Math.Path.{refl, ap}
use Rattle.std.proofs.Math.Bool.{true, false, not}
use Rattle.std.proofs.Math.Dec.{eqb}
use Rattle.std.specs.Float.Ieee.{le, eq, neg, round, of_int}
use borrow.Author.Tests.{leb-true, eqb-true}
use Rattle.number.specs.Ops.{dec}
use Rattle.std.specs.Prelude.{if◌then◌else◌}
use Rattle.number.specs.Number.{within_of, about_of}
use Rattle.vector.specs.Vec.{vec}
use Rattle.state.specs.declared.BallState.{BallState}
use Rattle.shot.specs.Tests.{vec_about, landing_ok, input_test}
use Rattle.shot.specs.Passed.{Passes}
use Rattle.shot.specs.declared.Shot.{Shot}
use Rattle.course.specs.Sheet.{answer_of}
use Rattle.fields.specs.Fields.{whole_of}
use Rattle.ground.specs.Tests.{wholes, refusal_of}
use Rattle.ground.specs.Passed.{settle_sheet, settle_passes}
use Rattle.ground.specs.Settle.{settle_of}
use Rattle.aim.specs.Aim.{aim_ok, aim_refusal, with_speeds, shot_from}
use Rattle.aim.specs.declared.Target.{Target}

-- ---- whole speeds to 32, by one computed test

abbrev speed_ok : ℕ → Bool
speed_ok k = about_of (dec 200 1) (whole_of k) && about_of (dec 200 1) (neg (whole_of k)) && (eqb k 0 || not (eq (whole_of k) (dec 0 1)))

-- the test at 0 to n - 1
abbrev below : ℕ → Bool
below zero = true
below (suc n) = below n && speed_ok n

to_32 : T (below 33)
unfolding within_of le eq neg round of_int
to_32 = tt

and_true : (a b : Bool) → T (a && b) → (a ≡ true) × (b ≡ true)
and_true true true t = (refl, refl)
and_true true false t = absurd t
and_true false b t = absurd t

below_at : (n k : ℕ) → T (below n) → k < n → speed_ok k ≡ true
below_at zero k t h = absurd (not-suc-le-zero h)
below_at (suc n) k t h = let p = and_true (below n) (speed_ok n) t in go (λ l. below_at n k (rw p.0 tt) l) p.1 (eq-or-lt_of_le (le_of_suc-le-suc h))
  where
    go : (k < n → speed_ok k ≡ true) → speed_ok n ≡ true → (k ≡ n) ⊎ (k < n) → speed_ok k ≡ true
    go f e (inl q) = ap speed_ok q ∙ e
    go f e (inr l) = f l

record Speed (k : ℕ) : Type 0 where
  pub forward : about_of (dec 200 1) (whole_of k) ≡ true
  pub downward : about_of (dec 200 1) (neg (whole_of k)) ≡ true
  pub moves : eqb k 0 || not (eq (whole_of k) (dec 0 1)) ≡ true

speed : (k : ℕ) → k ≤ 32 → Speed k
speed k h =
    parts (about_of (dec 200 1) (whole_of k)) (about_of (dec 200 1) (neg (whole_of k))) (eqb k 0 || not (eq (whole_of k) (dec 0 1))) refl refl refl
    (below_at 33 k to_32 (omega arith))
  where
    parts : (a b d : Bool) → about_of (dec 200 1) (whole_of k) ≡ a → about_of (dec 200 1) (neg (whole_of k)) ≡ b → eqb k 0 || not (eq (whole_of k) (dec 0 1)) ≡ d
        → a && b && d ≡ true → Speed k
    parts true true true x y z e = record { forward = x; downward = y; moves = z }
    parts true true false x y z e = record { forward = x; downward = y; moves = cc }
    parts true false d x y z e = record { forward = x; downward = cc; moves = cc }
    parts false b d x y z e = record { forward = cc; downward = cc; moves = cc }

zero_same : eq (dec 0 1) (dec 0 1) ≡ true
unfolding eq round
zero_same = refl

pub never : {A : Type 0} → false ≡ true → A
never z = absurd (let w : ◌≡◌ {A = ℕ} 0 1 = cc in omega arith)

-- a speed of 1 or more is not 0
pub speed_not_zero : (k : ℕ) → 1 ≤ k → k ≤ 32 → whole_of k ≡ dec 0 1 → ⊥
speed_not_zero k l h e = go (eqb k 0) refl (speed k h).moves
  where
    go : (z : Bool) → eqb k 0 ≡ z → z || not (eq (whole_of k) (dec 0 1)) ≡ true → ⊥
    go true q m = let n = eqb-true k 0 q in omega arith
    go false q m = never (ap not (sym zero_same ∙ sym (ap (λ (x : Float). eq x (dec 0 1)) e)) ∙ m)

-- ---- test 7

still : about_of (dec 200 1) (dec 0 1) ≡ true
unfolding within_of le neg round
still = refl

other : (w p v u s : Bool) → w && p && v && s ≡ true → u ≡ true → w && p && u && s ≡ true
other true true true u s h e = rw e h
other true true false u s h e = cc
other true false v u s h e = h
other false p v u s h e = h

velocity_passes : (i j : ℕ) → i ≤ 32 → j ≤ 32 → vec_about (dec 200 1) (vec (whole_of i) (neg (whole_of j)) (dec 0 1)) ≡ true
unfolding vec_about
velocity_passes i j hi hj = rw ((speed i hi).forward, (speed j hj).downward, still)

speeds_pass : (b : BallState) (i j : ℕ) → i ≤ 32 → j ≤ 32 → landing_ok b ≡ true → landing_ok (with_speeds b i j) ≡ true
unfolding landing_ok with_speeds
speeds_pass b i j hi hj h =
    other (within_of (dec 0 1) (dec 100000 1) b.time) (vec_about (dec 100000 1) b.pos) (vec_about (dec 200 1) b.vel) _ (vec_about (dec 5000 1) b.spin)
    h (velocity_passes i j hi hj)

-- ---- tests of the settle

module _ (s : List ℕ) (shot : Shot) (nc np : ℕ) where
  -- the shot from another landing that passes 7
  from_other : (b : BallState) → landing_ok b ≡ true → refusal_of s shot nc np ≡ 0 → refusal_of s (shot_from shot b) nc np ≡ 0
  unfolding refusal_of input_test
  from_other b l h = go (wholes nc np) h
    where
      p : Passes shot
      p = settle_passes s shot nc np h

      go : (w : Bool) → (if not w then 8 else if not (eqb (answer_of s) 0) then answer_of s else input_test shot) ≡ 0
          → (if not w then 8 else if not (eqb (answer_of s) 0) then answer_of s else input_test (shot_from shot b)) ≡ 0
      go true k = rw (settle_sheet s shot nc np h, p.physics, p.ball, p.density, l)
      go false k = k

  pub from_speeds : (i j : ℕ) → i ≤ 32 → j ≤ 32 → refusal_of s shot nc np ≡ 0 → refusal_of s (shot_from shot (with_speeds shot.landing i j)) nc np ≡ 0
  from_speeds i j hi hj h = from_other (with_speeds shot.landing i j) (speeds_pass shot.landing i j hi hj (settle_passes s shot nc np h).landing) h

-- an accepted settle does not depend on what the lists held, but for their lengths
pub any_lists : (s : List ℕ) (shot : Shot) (cs ps ds qs : List Float) → refusal_of s shot (length cs) (length ps) ≡ 0
    → length ds ≡ length cs → length qs ≡ length ps → settle_of s shot ds qs ≡ settle_of s shot cs ps
unfolding settle_of
any_lists s shot cs ps ds qs h ec ep = rw (ec, ep, h)

-- ---- a call that passes its tests

pub record Accepted (s : List ℕ) (shot : Shot) (forward downward nc np : ℕ) : Type 0 where
  pub settles : refusal_of s shot nc np ≡ 0
  pub rows_fit : forward ≤ 32
  pub columns_fit : downward ≤ 32

module _ (s : List ℕ) (shot : Shot) (t : Target) (forward downward nc np : ℕ) where
  sides : aim_ok t forward downward ≡ true → (forward ≤ 32) × (downward ≤ 32)
  unfolding aim_ok
  sides e =
      let p =
      parts (leb 1 forward) (leb forward 32) (leb 1 downward) (leb downward 32) (within_of (dec 0 1) (dec 10 1) t.distance)
      (about_of (dec 100000 1) t.x) (about_of (dec 100000 1) t.z) e in
      (leb-true forward 32 p.0, leb-true downward 32 p.1)
    where
      parts : (a b d f g h i : Bool) → a && b && d && f && g && h && i ≡ true → (b ≡ true) × (f ≡ true)
      parts true true true true g h i e = (refl, refl)
      parts true true true false g h i e = (refl, e)
      parts true true false f g h i e = (refl, (cc))
      parts true false d f g h i e = (e, (cc))
      parts false b d f g h i e = ((cc), (cc))

  pub aim_accepted : aim_refusal s shot t forward downward nc np ≡ 0 → Accepted s shot forward downward nc np
  unfolding aim_refusal
  aim_accepted e = go (eqb (refusal_of s shot nc np) 0) (aim_ok t forward downward) refl refl e
    where
      go : (z w : Bool) → eqb (refusal_of s shot nc np) 0 ≡ z → aim_ok t forward downward ≡ w
          → (if not z then refusal_of s shot nc np else if not w then 35 else 0) ≡ 0 → Accepted s shot forward downward nc np
      go true true a b e = let p = sides b in record { settles = eqb-true _ 0 a; rows_fit = p.0; columns_fit = p.1 }
      go true false a b e = absurd (omega (arith, e))
      go false w a b e = never (sym a ∙ ap (λ (n : ℕ). eqb n 0) e)
