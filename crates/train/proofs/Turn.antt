-- Lemmas: the train of impacts, up to each place where one turn of it may end.
use Rattle.std.proofs.Common.{ℕ, zero, suc, ◌+◌, ◌-◌, ◌*◌, ◌≤◌, ◌≡◌, refl, ◌∙◌, sym, Bool, true, false, not, List, length, arith, Option, Some, None}
use Rattle.std.proofs.Common.{Result, Ok, Err}
use Rattle.std.specs.Prelude.{Float}
use borrow.Author.Tests.{leb-true, leb-false}
use Prim.Native.Nat.{zero-le}
use Rattle.refusal.specs.declared.Refusal.{Refusal}
use Rattle.refusal.specs.Refusal.{number_of}
use Rattle.state.specs.declared.BallState.{BallState}
use Rattle.state.specs.declared.Phase.TheVariants.{Hop as InHop}
use Rattle.look.specs.Tree.{bind, Oracle, exec}
use Rattle.tally.specs.Language.{M, contact_width, stops, ◌>>=◌, ◌>>◌, push_contact}
use Rattle.std.specs.Prelude.{if◌then◌else◌}
use Rattle.tally.specs.Inner.{Place, place, log_at, first_tally, outcome_by, RunsOn, Reached}
use Rattle.tally.specs.declared.Conditions.{Conditions}
use Rattle.tally.specs.declared.Tally.{Tally}
use Rattle.tally.proofs.Reached.{begun, ended, on, came, said, passes, fails, last}
use Rattle.hop.proofs.Pass.{is_none}
use Rattle.hop.specs.declared.Way.{Way}
use Rattle.hop.specs.declared.Way.TheVariants.{Arrived, Late}
use Rattle.roll.specs.declared.Ending.{Ending}
use Rattle.ground_phase.specs.GroundPhase.{time_up, ground}
use Rattle.ground_phase.specs.Inner.{TimesUp}
use Rattle.strike.specs.Strike.{strike, rebounds, fly_by, fly, drop}
use Rattle.strike.specs.Inner.{Strikes, Flies, Drops}
use Rattle.strike.specs.declared.Struck.{Struck}
use Rattle.train.specs.Train.{last_impact, to_ground, train_from_by, train_from, train}
use Rattle.train.specs.Inner.{LastImpacts, is_last}

-- ---- what is left of the train at each place
abbrev pub to_way : Conditions → ℕ → Way → M Ending
to_way c n = λ way. elim way [ Arrived b ↦ train_from c n b | Late b ↦ time_up b InHop ]

module _ (c : Conditions) (a : BallState) where
  abbrev pub to_contact : ℕ → Struck → Way → M Ending
  to_contact n hit way = push_contact a hit.«at» hit.out >> to_way c n way

  abbrev pub flown_to : ℕ → Struck → Option Way → M Ending
  flown_to n hit = λ flown. elim flown [ None ↦ to_ground c a hit | Some way ↦ to_contact n hit way ]

  pub body_of : Bool → ℕ → Struck → M Ending
  body_of r zero hit = if not r then to_ground c a hit else last_impact a hit
  body_of r (suc n) hit = fly c r a hit >>= flown_to n hit

  train_is : (n : ℕ) → train_from c n a ≡ (strike c a >>= λ hit. body_of (rebounds c hit) n hit)
  unfolding train_from_by body_of
  train_is zero = refl
  train_is (suc n) = refl

  -- where the impact is not the last that max_impacts allows, the rebound is flown, or not
  fly_is : (o : Oracle) (p : Place) (hit : Struck) (hops : Bool) (k max : ℕ) → is_last hops k max ≡ false
      → exec o p.tally.rect ((fly c hops a hit >>= flown_to (max - (k + 1 + 1)) hit) (log_at p)) ≡ exec o p.tally.rect
      (body_of hops (max - (k + 1)) hit (log_at p))
  unfolding body_of fly_by bind ◌>>=◌
  fly_is o p hit hops k max s = go hops (max - (k + 1)) refl s
    where
      go : (r : Bool) (n : ℕ) → n ≡ max - (k + 1) → is_last r k max ≡ false
          → exec o p.tally.rect ((fly c r a hit >>= flown_to (max - (k + 1 + 1)) hit) (log_at p)) ≡ exec o p.tally.rect (body_of r n hit (log_at p))
      go true zero z s = absurd (omega (arith, leb-false max (k + 1) s))
      go true (suc n) z s = let y : max - (k + 1 + 1) ≡ n = omega arith in rw y
      go false zero z s = refl
      go false (suc n) z s = refl

  last_is : (hops : Bool) (hit : Struck) (k max : ℕ) → is_last hops k max ≡ true → body_of hops (max - (k + 1)) hit ≡ last_impact a hit
  unfolding body_of
  last_is true hit k max s = let z : max - (k + 1) ≡ 0 = omega (arith, leb-true max (k + 1) s) in rw z
  last_is false hit k max s = absurd (let z : ◌≡◌ {A = ℕ} 0 1 = cc in omega arith)

-- ---- a turn

-- the run of w from p₀ has come to place p, and m is left of it
abbrev pub At : Oracle → M Ending → Place → M Ending → Place → Type 0
At o w p₀ m p = Reached o w p₀ (p.tally.steps - p₀.tally.steps) m p

module _ (o : Oracle) (c : Conditions) (landing : BallState) (lc lp : List Float) where
  -- what the train's loop keeps
  pub record Along (state : BallState) (p : Place) : Type 0 where
    pub reached : At o (train c landing) (place (first_tally landing) lc lp) (train_from c (c.physics.max_impacts - (p.tally.contacts + 1)) state) p
    pub room : p.tally.contacts * contact_width ≤ length lc

  -- a turn was made, by one contact more
  pub along : (k : ℕ) (b : BallState) {t : Tally} {mc mp : List Float}
      → At o (train c landing) (place (first_tally landing) lc lp) (train_from c (c.physics.max_impacts - (k + 1 + 1)) b) (place t mc mp)
      → t.contacts ≡ k + 1 → t.contacts * contact_width ≤ length lc → Along b (place t mc mp)
  along k b r e h = record { reached = rw (← e) at r; room = h }

  pub starts : {t : Tally} → t ≡ first_tally landing → Along landing (place t lc lp)
  unfolding train
  starts e = rw e (record { reached = begun; room = zero-le })

module _ {o : Oracle} {w : M Ending} {p₀ : Place} (c : Conditions) (state : BallState) {t : Tally} {mc mp : List Float} where
  module _ (n : ℕ) {r : Result Struck Refusal} {t' : Tally} (here : At o w p₀ (train_from c n state) (place t mc mp)) (h : Strikes o c state t r t') where
    -- the look or the impact failed its test
    pub struck_off : {e : Refusal} → r ≡ Err e → RunsOn o w p₀ (stops (number_of e)) (place t' mc mp)
    struck_off v = on (ended (fails (strike c state) (λ hit. body_of c state (rebounds c hit) n hit) (rw (train_is c state n) at here) (h mc mp) v))

    pub struck : {hit : Struck} {hops : Bool} → r ≡ Ok hit → hops ≡ rebounds c hit → At o w p₀ (body_of c state hops n hit) (place t' mc mp)
    struck v e = rw e (came (passes (strike c state) (λ hit. body_of c state (rebounds c hit) n hit) (rw (train_is c state n) at here) (h mc mp) v))

  module _ (k : ℕ) (hit : Struck) (hops : Bool) (here : At o w p₀ (body_of c state hops (c.physics.max_impacts - (k + 1)) hit) (place t mc mp)) where
    -- the last impact that max_impacts allows
    pub ends_last : (x : Result Ending Refusal) {z : Bool} {t' : Tally} {mc' mp' : List Float} → z ≡ is_last hops k c.physics.max_impacts → z ≡ true
        → LastImpacts o state hit t mc mp x t' mc' mp' → RunsOn o w p₀ (outcome_by x) (place t' mc' mp')
    ends_last x e v h = on (last (rw (last_is c state hops hit k _ (sym e ∙ v)) at here) h)

    -- any other
    module _ {z : Bool} (i : z ≡ is_last hops k c.physics.max_impacts) (v : z ≡ false) where
      to_fly : At o w p₀ (fly c hops state hit >>= flown_to c state (c.physics.max_impacts - (k + 1 + 1)) hit) (place t mc mp)
      to_fly = said (body_of c state hops (c.physics.max_impacts - (k + 1)) hit)
          (fly c hops state hit >>= flown_to c state (c.physics.max_impacts - (k + 1 + 1)) hit) here
          (fly_is c state o (place t mc mp) hit hops k c.physics.max_impacts (sym i ∙ v))

      pub ends_flight : {r : Result (Option Way) Refusal} {t' : Tally} {mp' : List Float} {e : Refusal} → Flies o c hops state hit t mp r t' mp' → r ≡ Err e
          → RunsOn o w p₀ (stops (number_of e)) (place t' mc mp')
      ends_flight h e = on (ended (fails _ _ to_fly (h mc) e))

      pub flown : {r : Result (Option Way) Refusal} {t' : Tally} {mp' : List Float} {f : Option Way} → Flies o c hops state hit t mp r t' mp' → r ≡ Ok f
          → At o w p₀ (flown_to c state (c.physics.max_impacts - (k + 1 + 1)) hit f) (place t' mc mp')
      flown h e = came (passes _ _ to_fly (h mc) e)

  -- not flown, or discarded
  module _ (n : ℕ) (hit : Struck) (f : Option Way) (here : At o w p₀ (flown_to c state n hit f) (place t mc mp)) where
    module _ (v : (way : Way) → f ≡ Some way → ⊥) where
      to_drop : At o w p₀ (drop c state hit >>= λ leave. ground c leave hit.«at») (place t mc mp)
      unfolding to_ground
      to_drop = let e = is_none f v in rw e at here

      pub ends_drop : {r : Result BallState Refusal} {t' : Tally} {mc' : List Float} {e : Refusal} → Drops c state hit t mc r t' mc' → r ≡ Err e
          → RunsOn o w p₀ (stops (number_of e)) (place t' mc' mp)
      ends_drop h e = on (ended (fails _ _ to_drop (h o mp) e))

      pub dropped : {r : Result BallState Refusal} {t' : Tally} {mc' : List Float} {leave : BallState} → Drops c state hit t mc r t' mc' → r ≡ Ok leave
          → At o w p₀ (ground c leave hit.«at») (place t' mc' mp)
      dropped h e = came (passes _ _ to_drop (h o mp) e)

    -- flown and kept: the contact is due
    pub kept : {way : Way} → f ≡ Some way → At o w p₀ (to_contact c state n hit way) (place t mc mp)
    kept v = rw v at here

-- where the hop came to
module _ {o : Oracle} {w : M Ending} {p₀ : Place} (c : Conditions) {t : Tally} {mc mp : List Float} (n : ℕ) (way : Way)
    (here : At o w p₀ (to_way c n way) (place t mc mp)) where
  pub arrived : {b : BallState} → way ≡ Arrived b → At o w p₀ (train_from c n b) (place t mc mp)
  arrived v = rw v at here

  pub ends_late : (x : Result Ending Refusal) {b : BallState} {t' : Tally} {mp' : List Float} → way ≡ Late b → TimesUp o b InHop t mp x t' mp'
      → RunsOn o w p₀ (outcome_by x) (place t' mc mp')
  ends_late x v h = on (last (rw v at here) (h mc))
