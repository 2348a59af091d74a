-- Statements. The classical fourth-order Runge-Kutta method, and that both steppers are it at exact arithmetic.
-- Assumes nothing.
use Rattle.std.specs.Prelude.{◌≡◌, refl, Float}
use Rattle.vector.specs.declared.DVec3.{DVec3}
use Rattle.rk4.specs.declared.Motion.{Motion}
use Rattle.rk4.specs.Rk4.{Scalars, Space, moved_in, weighted_in, step_in, step_state_in, doubles, vectors, moved, add_scaled, step_state_of}

-- The classical method for y' = f(y, t): with
--   k1 = f(y, t), k2 = f(y + h/2·k1, t + h/2), k3 = f(y + h/2·k2, t + h/2), k4 = f(y + h·k3, t + h)
-- the next value is y + h/6·(k1 + 2·k2 + 2·k3 + k4).
unfoldable pub classical : {S Y : Type 0} → Scalars S → Space S Y → (Y → S → Y) → Y → S → S → Y
classical sc sp f y t h =
    let half = sc.over h sc.two in
    let k1 = f y t in
    let k2 = f (sp.plus y (sp.scale k1 half)) (sc.plus t half) in
    let k3 = f (sp.plus y (sp.scale k2 half)) (sc.plus t half) in
    let k4 = f (sp.plus y (sp.scale k3 h)) (sc.plus t h) in
    let sum = sp.plus (sp.plus (sp.plus k1 (sp.scale k2 sc.two)) (sp.scale k3 sc.two)) k4 in
    sp.plus y (sp.scale sum (sc.over h sc.six))

-- Exact arithmetic: a field, up to the equivalence `same`, in which 6 is not 0.
pub record Exact {S : Type 0} (sc : Scalars S) : Type 1 where
  pub same : S → S → Type 0
  pub reflexive : (a : S) → same a a
  pub symmetric : {a b : S} → same a b → same b a
  pub transitive : {a b c : S} → same a b → same b c → same a c
  pub zero : S
  pub one : S
  pub negate : S → S
  pub times : S → S → S
  pub plus_same : {a b c d : S} → same a b → same c d → same (sc.plus a c) (sc.plus b d)
  pub times_same : {a b c d : S} → same a b → same c d → same (times a c) (times b d)
  pub plus_assoc : (a b c : S) → same (sc.plus (sc.plus a b) c) (sc.plus a (sc.plus b c))
  pub plus_comm : (a b : S) → same (sc.plus a b) (sc.plus b a)
  pub plus_zero : (a : S) → same (sc.plus a zero) a
  pub plus_negate : (a : S) → same (sc.plus a (negate a)) zero
  pub times_assoc : (a b c : S) → same (times (times a b) c) (times a (times b c))
  pub times_comm : (a b : S) → same (times a b) (times b a)
  pub times_one : (a : S) → same (times a one) a
  pub times-plus : (a b c : S) → same (times (sc.plus a b) c) (sc.plus (times a c) (times b c))
  pub over_is : (a b : S) → same (sc.over a b) (times a (sc.over one b))
  pub inverse : (b : S) → (same b zero → ⊥) → same (times b (sc.over one b)) one
  pub two_is : same sc.two (sc.plus one one)
  pub three_is : same sc.three (sc.plus sc.two one)
  pub six_is : same sc.six (sc.plus sc.three sc.three)
  pub six_not_zero : same sc.six zero → ⊥

-- A vector space over exact arithmetic, up to the equivalence `same`.
pub record Linear {S X : Type 0} {sc : Scalars S} (e : Exact sc) (sp : Space S X) : Type 1 where
  pub same : X → X → Type 0
  pub reflexive : (v : X) → same v v
  pub symmetric : {v w : X} → same v w → same w v
  pub transitive : {u v w : X} → same u v → same v w → same u w
  pub plus_same : {u v w x : X} → same u v → same w x → same (sp.plus u w) (sp.plus v x)
  pub scale_same : {v w : X} {a b : S} → same v w → e.same a b → same (sp.scale v a) (sp.scale w b)
  pub plus_assoc : (u v w : X) → same (sp.plus (sp.plus u v) w) (sp.plus u (sp.plus v w))
  pub plus_comm : (v w : X) → same (sp.plus v w) (sp.plus w v)
  pub scale-plus : (v w : X) (a : S) → same (sp.scale (sp.plus v w) a) (sp.plus (sp.scale v a) (sp.scale w a))
  pub scale-sum : (v : X) (a b : S) → same (sp.scale v (sc.plus a b)) (sp.plus (sp.scale v a) (sp.scale v b))
  pub scale-times : (v : X) (a b : S) → same (sp.scale (sp.scale v a) b) (sp.scale v (e.times a b))
  pub scale_one : (v : X) → same (sp.scale v e.one) v

-- The numbers themselves, as vectors of one component.
abbrev pub line : {S : Type 0} → Scalars S → (S → S → S) → Space S S
line sc times = record { plus = sc.plus; scale = times }

-- Pairs, component by component.
abbrev pub pairs : {S X Y : Type 0} → Space S X → Space S Y → Space S (X × Y)
pairs p q =
    record {
      plus = λ v. λ w. (p.plus v.0 w.0, q.plus v.1 w.1);
      scale = λ v. λ a. (p.scale v.0 a, q.scale v.1 a);
    }

unfoldable pub line_linear : {S : Type 0} {sc : Scalars S} (e : Exact sc) → Linear e (line sc e.times)
line_linear {sc} e =
    record {
      same = e.same;
      reflexive = e.reflexive;
      symmetric = λ p. e.symmetric p;
      transitive = λ p. λ q. e.transitive p q;
      plus_same = λ p. λ q. e.plus_same p q;
      scale_same = λ p. λ q. e.times_same p q;
      plus_assoc = e.plus_assoc;
      plus_comm = e.plus_comm;
      scale-plus = e.times-plus;
      scale-sum = λ v. λ a. λ b.
          e.transitive (e.times_comm v (sc.plus a b))
          (e.transitive (e.times-plus a b v) (e.plus_same (e.times_comm a v) (e.times_comm b v)));
      scale-times = e.times_assoc;
      scale_one = e.times_one;
    }

unfoldable pub pairs_linear :
    {S X Y : Type 0} {sc : Scalars S} {e : Exact sc} {p : Space S X} {q : Space S Y} →
    Linear e p → Linear e q → Linear e (pairs p q)
pairs_linear l m =
    record {
      same = λ v. λ w. (l.same v.0 w.0) × (m.same v.1 w.1);
      reflexive = λ v. (l.reflexive v.0, m.reflexive v.1);
      symmetric = λ h. (l.symmetric h.0, m.symmetric h.1);
      transitive = λ h. λ k. (l.transitive h.0 k.0, m.transitive h.1 k.1);
      plus_same = λ h. λ k. (l.plus_same h.0 k.0, m.plus_same h.1 k.1);
      scale_same = λ h. λ k. (l.scale_same h.0 k, m.scale_same h.1 k);
      plus_assoc = λ u. λ v. λ w. (l.plus_assoc u.0 v.0 w.0, m.plus_assoc u.1 v.1 w.1);
      plus_comm = λ v. λ w. (l.plus_comm v.0 w.0, m.plus_comm v.1 w.1);
      scale-plus = λ v. λ w. λ a. (l.scale-plus v.0 w.0 a, m.scale-plus v.1 w.1 a);
      scale-sum = λ v. λ a. λ b. (l.scale-sum v.0 a b, m.scale-sum v.1 a b);
      scale-times = λ v. λ a. λ b. (l.scale-times v.0 a b, m.scale-times v.1 a b);
      scale_one = λ v. (l.scale_one v.0, m.scale_one v.1);
    }

-- `step` is the classical method for the state (position, velocity), whose derivative is (velocity, acceleration).
-- Its sums are those of the method as they stand, so this needs no law and holds at doubles too.
pub step_is_classical :
    {S X : Type 0} (sc : Scalars S) (sp : Space S X) (a : X → X → S → X) (x v : X) (t h : S) →
    step_in sc sp a x v t h ≡ classical sc (pairs sp sp) (λ y. λ u. (y.1, a y.0 y.1 u)) (x, v) t h
unfolding classical moved_in weighted_in
step_is_classical sc sp a x v t h = refl

module _ {S : Type 0} {sc : Scalars S} (e : Exact sc) where
  chain : {a b c d : S} → e.same a b → e.same b c → e.same c d → e.same a d
  chain p q r = e.transitive p (e.transitive q r)

  three_not_zero : e.same sc.three e.zero → ⊥
  three_not_zero h = e.six_not_zero (chain e.six_is (e.plus_same h h) (e.plus_zero e.zero))

  -- 1·a is a
  one_times : (a : S) → e.same (e.times e.one a) a
  one_times a = e.transitive (e.times_comm e.one a) (e.times_one a)

  -- 2·3 is 6
  two_times_three : e.same (e.times sc.two sc.three) sc.six
  two_times_three =
      let three = sc.three in
      e.transitive
      (chain (e.times_same e.two_is (e.reflexive three)) (e.times-plus e.one e.one three) (e.plus_same (one_times three) (one_times three)))
      (e.symmetric e.six_is)

  -- (1/6·2)·3 is 1
  sixth_by_six : e.same (e.times (e.times (sc.over e.one sc.six) sc.two) sc.three) e.one
  sixth_by_six =
      let sixth = sc.over e.one sc.six in
      e.transitive
      (chain (e.times_assoc sixth sc.two sc.three) (e.times_same (e.reflexive sixth) two_times_three) (e.times_comm sixth sc.six))
      (e.inverse sc.six e.six_not_zero)

  -- 1/6·2 is 1/3: both times 3 are 1
  sixth_twice : e.same (e.times (sc.over e.one sc.six) sc.two) (sc.over e.one sc.three)
  sixth_twice =
      let a = e.times (sc.over e.one sc.six) sc.two in
      let third = sc.over e.one sc.three in
      let unit : e.same e.one (e.times sc.three third) = e.symmetric (e.inverse sc.three three_not_zero) in
      e.transitive
      (chain (e.symmetric (e.times_one a)) (e.times_same (e.reflexive a) unit) (e.symmetric (e.times_assoc a sc.three third)))
      (e.transitive (e.times_same sixth_by_six (e.reflexive third)) (one_times third))

  -- 2·(h/6) is h/3
  twice_sixth : (h : S) → e.same (e.times sc.two (sc.over h sc.six)) (sc.over h sc.three)
  twice_sixth h =
      let sixth = sc.over e.one sc.six in
      e.transitive (e.times_comm sc.two (sc.over h sc.six))
      (e.transitive
      (chain (e.times_same (e.over_is h sc.six) (e.reflexive sc.two)) (e.times_assoc h sixth sc.two) (e.times_same (e.reflexive h) sixth_twice))
      (e.symmetric (e.over_is h sc.three)))

module _ {S X : Type 0} {sc : Scalars S} {e : Exact sc} {sp : Space S X} (l : Linear e sp) where
  -- (k·2)·(h/6) is k·(h/3)
  third :
      (k : X) (h : S) →
      l.same (sp.scale (sp.scale k sc.two) (sc.over h sc.six)) (sp.scale k (sc.over h sc.three))
  third k h =
      l.transitive (l.scale-times k sc.two (sc.over h sc.six)) (l.scale_same (l.reflexive k) (twice_sixth e h))

  -- a sum of two, scaled
  spread :
      (x v : X) {y w : X} (a : S) → l.same (sp.scale x a) y → l.same (sp.scale v a) w →
      l.same (sp.scale (sp.plus x v) a) (sp.plus y w)
  spread x v a p q = l.transitive (l.scale-plus x v a) (l.plus_same p q)

  -- one more addend, taken out of the brackets
  out : (s x v : X) {y : X} → l.same (sp.plus s x) y → l.same (sp.plus s (sp.plus x v)) (sp.plus y v)
  out s x v p = l.transitive (l.symmetric (l.plus_assoc s x v)) (l.plus_same p (l.reflexive v))

  -- the four additions of `step_state` against one addition of the scaled sum
  four : (s k1 k2 k3 k4 : X) (h : S) →
      let sixth = sc.over h sc.six in
      let third = sc.over h sc.three in
      l.same
      (sp.plus s (sp.scale (sp.plus (sp.plus (sp.plus k1 (sp.scale k2 sc.two)) (sp.scale k3 sc.two)) k4) sixth))
      (sp.plus (sp.plus (sp.plus (sp.plus s (sp.scale k1 sixth)) (sp.scale k2 third)) (sp.scale k3 third)) (sp.scale k4 sixth))
  four s k1 k2 k3 k4 h =
      let sixth = sc.over h sc.six in
      let d2 = sp.scale k2 sc.two in
      let d3 = sp.scale k3 sc.two in
      let p1 = sp.scale k1 sixth in
      let p2 = sp.scale k2 (sc.over h sc.three) in
      let p3 = sp.scale k3 (sc.over h sc.three) in
      let p4 = sp.scale k4 sixth in
      let two = spread k1 d2 sixth (l.reflexive p1) (third k2 h) in
      let three = spread (sp.plus k1 d2) d3 sixth two (third k3 h) in
      let all = spread (sp.plus (sp.plus k1 d2) d3) k4 sixth three (l.reflexive p4) in
      l.transitive (l.plus_same (l.reflexive s) all)
      (out s (sp.plus (sp.plus p1 p2) p3) p4 (out s (sp.plus p1 p2) p3 (out s p1 p2 (l.reflexive (sp.plus s p1)))))

  -- `step_state` is the classical method at exact arithmetic, for a state whose add_scaled is s + k · h.
  pub step_state_is_classical :
      (f : X → S → X) (s : X) (t h : S) →
      l.same (step_state_in sc (moved_in sp) f s t h) (classical sc sp f s t h)
  unfolding moved_in classical
  step_state_is_classical f s t h =
      let half = sc.over h sc.two in
      let k1 = f s t in
      let k2 = f (moved_in sp s k1 half) (sc.plus t half) in
      let k3 = f (moved_in sp s k2 half) (sc.plus t half) in
      let k4 = f (moved_in sp s k3 h) (sc.plus t h) in
      l.symmetric (four s k1 k2 k3 k4 h)

-- ---- the stepper in use, on motions of doubles

-- A motion as its position, velocity and spin, and back.
abbrev pub parts_of : Motion → DVec3 × (DVec3 × DVec3)
parts_of m = (m.pos, (m.vel, m.spin))

abbrev pub motion_of : DVec3 × (DVec3 × DVec3) → Motion
motion_of y = record { pos = y.0; vel = y.1.0; spin = y.1.1 }

abbrev pub motions : Space Float (DVec3 × (DVec3 × DVec3))
motions = pairs vectors (pairs vectors vectors)

-- `add_scaled` is s + k · h of all three parts,
pub add_scaled_is_moved : (s rate : Motion) (h : Float) → parts_of (add_scaled s rate h) ≡ moved_in motions (parts_of s) (parts_of rate) h
unfolding add_scaled moved moved_in
add_scaled_is_moved s rate h = refl

-- so the stepper in use is the one that the theorem speaks of, at doubles.
pub step_state_of_is_step_state_in : (f : Motion → Float → Motion) (s : Motion) (t dt : Float)
    → parts_of (step_state_of f s t dt) ≡ step_state_in doubles (moved_in motions) (λ y u. parts_of (f (motion_of y) u)) (parts_of s) t dt
unfolding add_scaled moved moved_in step_state_of
step_state_of_is_step_state_in f s t dt = refl
