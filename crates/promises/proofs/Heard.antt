-- Statements. Every run with answer 0 may be listened to (02, paper 14): its contact times never bring 39. dt and the landing's time are doubles, as
-- every f64 is.
-- Assumes nothing.
use Rattle.std.specs.Prelude.{ℕ, zero, suc, ◌≡◌, refl, Bool, true, false, not, ◌&&◌, Float, drop}
use Rattle.std.proofs.Common.{arith, sym, ◌∙◌}
use Rattle.std.proofs.Math.Path.{subst, ap}
use mathlib.Core.List.{List, [], ◌∷◌, map}
use Rattle.std.proofs.Math.Dec.{T}
use Rattle.std.specs.Float.{binary64}
use Rattle.std.specs.Float.Ieee.{fits, round, le, lt}
use Rattle.std.specs.Float.Ieee.Bits.{is_true}
use Rattle.std.specs.Float.Ieee.Fits.{and_l}
use Rattle.std.proofs.Math.ListN.{length}
use Rattle.number.specs.Ops.{dec}
use Rattle.number.specs.Number.{finite_of, within_of, about_of}
use Rattle.number.specs.Order.{le_through, le_self, lt-nle, within_lo, within_hi, within_of_lem, within_finite}
use Rattle.state.specs.declared.BallState.{BallState}
use Rattle.state.specs.State.{coord_ok, vec_ok, state_ok}
use Rattle.course.specs.Sheet.{course_of}
use Rattle.records.specs.Records.{Records, recs}
use Rattle.tally.specs.Language.{contact_width}
use Rattle.shot.specs.declared.Shot.{Shot}
use Rattle.shot.specs.Tests.{vec_about, landing_ok}
use Rattle.ground.specs.Passed.{settle_passes}
use Rattle.ground.specs.Settle.{settle_of}
use Rattle.promises.specs.Terms.{Each, ContactOf}
use Rattle.promises.proofs.Finite.{settle_leaves}
use Rattle.promises.proofs.Promises.{answered}
use Rattle.promises.specs.Table.{time_of, NextFrom, FirstAt, InOrder}
use Rattle.promises.specs.Ordered.{each_long}
use Rattle.promises.proofs.Retold.{contacts_are}
use Rattle.promises.proofs.History.{history}
use Rattle.listen.specs.Listen.{firsts, contact_times, time_ok, in_order, times_ok}

abbrev zero_time : Float
zero_time = dec 0 1

abbrev most_time : Float
most_time = dec 1000000 1

abbrev InTime : List Float → Type 0
InTime r = T (within_of zero_time most_time (time_of r))

0-finite : T (finite_of zero_time)
0-finite = unfold round in tt

finite : (x : Float) → T (within_of zero_time most_time x) → T (finite_of x)
finite x h = within_finite zero_time most_time x 0-finite (unfold round in tt) h

refuted : (b : Bool) → (T b → ⊥) → T (not b)
refuted true h = absurd (h tt)
refuted false h = tt

-- ---- records in order, and their times

-- the time of each record: the first double of each
firsts_are : (n : ℕ) (l : List Float) → Each (λ r. length r ≡ 20) (recs 20 n l) → firsts 20 n l ≡ map time_of (recs 20 n l)
unfolding firsts recs
firsts_are zero l h = refl
firsts_are (suc n) [] h = absurd (let e = h.0 in omega (arith, e))
firsts_are (suc n) (x ∷ l) h = ap (λ (k : List Float). x ∷ k) (firsts_are n (drop 20 (x ∷ l)) h.1)

in_order_lem : (b : Float) (rs : Records) → T (finite_of b) → NextFrom b rs → InOrder rs → Each InTime rs → in_order b (map time_of rs) ≡ true
unfolding in_order time_ok
in_order_lem b [] f n o h = refl
in_order_lem b (r ∷ rs) f n o h =
    let x = time_of r in
    let g = finite x h.0 in
    rw (is_true (within_of zero_time most_time x) h.0, is_true (not (lt x b)) (refuted (lt x b) (λ l. lt-nle x b g f l n)), in_order_lem x rs g o.0 o.1 h.1)

-- from 0 on, and at most 1,000,000
in_time : (b : Float) (rs : Records) → T (le zero_time b) → NextFrom b rs → InOrder rs → Each (λ r. T (le (time_of r) most_time)) rs → Each InTime rs
in_time b [] z n o h = tt
in_time b (r ∷ rs) z n o h =
    let w = le_through zero_time b (time_of r) z n in
    (within_of_lem zero_time most_time (time_of r) w h.0, in_time (time_of r) rs w o.0 o.1 h.1)

each_map : (P Q : List Float → Type 0) → ((r : List Float) → P r → Q r) → (rs : Records) → Each P rs → Each Q rs
each_map P Q f [] h = tt
each_map P Q f (r ∷ rs) h = (f r h.0, each_map P Q f rs h.1)

time_most : (s : BallState) → state_ok s ≡ true → T (le s.time most_time)
unfolding state_ok coord_ok
time_most s h =
    let m = most_time in
    within_hi _ m s.time (and_l (about_of m s.time) (vec_ok s.pos && (vec_ok s.vel && vec_ok s.spin)) (subst T (sym h) tt))

landing_time : (s : BallState) → landing_ok s ≡ true → T (within_of zero_time (dec 100000 1) s.time)
unfolding landing_ok
landing_time s h =
    let w = within_of zero_time (dec 100000 1) s.time in
    let p = vec_about (dec 100000 1) s.pos in
    let v = vec_about (dec 200 1) s.vel in
    and_l w p (and_l (w && p) v (and_l (w && p && v) (vec_about (dec 5000 1) s.spin) (subst T (sym h) tt)))

from_first : (t : Float) (rs : Records) → T (finite_of t) → FirstAt t rs → NextFrom t rs
from_first t [] f h = tt
from_first t (r ∷ rs) f h = subst (λ (x : Float). T (le t x)) (sym h) (le_self t f)

from_0 : (t : Float) (rs : Records) → T (le zero_time t) → NextFrom t rs → NextFrom zero_time rs
from_0 t [] z n = tt
from_0 t (r ∷ rs) z n = le_through zero_time t (time_of r) z n

module _ (sheet : List ℕ) (shot : Shot) (cs ps : List Float) (h : (settle_of sheet shot cs ps).settled.answer ≡ 0) (f : T (fits binary64 shot.physics.dt))
    (k : T (fits binary64 shot.landing.time)) where
  -- 39 never comes of a finished run's own contact times
  pub may_be_heard : times_ok (contact_times (settle_of sheet shot cs ps).settled.contacts (settle_of sheet shot cs ps).contacts) ≡ true
  may_be_heard =
      let l = settle_leaves sheet shot cs ps (answered sheet shot cs ps h) in
      let rs = recs contact_width (settle_of sheet shot cs ps).settled.contacts (settle_of sheet shot cs ps).contacts in
      let told = history sheet shot cs ps h f k in
      let each : Each (ContactOf (course_of sheet)) rs
      = subst (Each (ContactOf (course_of sheet))) (l.logged.0 ∙ sym (contacts_are sheet shot cs ps h f k)) l.each_contact in
      let w = landing_time shot.landing (settle_passes sheet shot (length cs) (length ps) (answered sheet shot cs ps h)).landing in
      let z = within_lo zero_time (dec 100000 1) shot.landing.time w in
      let g = within_finite zero_time (dec 100000 1) shot.landing.time 0-finite (unfold round in tt) w in
      let n = from_first shot.landing.time rs g told.first_time in
      rw (firsts_are _ _ (each_long (ContactOf (course_of sheet)) contact_width (λ r c. ap length c.is) rs each))
      (in_order_lem zero_time rs 0-finite (from_0 shot.landing.time rs z n) told.contact_times_lem
      (in_time shot.landing.time rs z n told.contact_times_lem
      (each_map (ContactOf (course_of sheet)) (λ r. T (le (time_of r) most_time)) (λ r c. subst (λ (q : List Float). T (le (time_of q) most_time)) (sym c.is)
      (time_most c.arrival c.came)) rs each)))
