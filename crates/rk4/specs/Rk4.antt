-- Definitions. One step of the classical fourth-order Runge-Kutta method, as rk4.rs computes it: `step` sums the stages and then scales,
-- `step_state` adds the scaled stages one by one. Both are written once, over a record of operations.
-- Assumes nothing.
use Rattle.std.specs.Prelude.{◌≡◌, Float}
use Rattle.number.specs.Ops.{◌⊕◌, ◌⊘◌, dec}
use Rattle.vector.specs.Vec.{vadd, vscale}
use Rattle.vector.specs.declared.DVec3.{DVec3}
use Rattle.rk4.specs.declared.State.{State}
use Rattle.rk4.specs.declared.Motion.{Motion}

-- The operations on numbers that a step uses.
pub record Scalars (S : Type 0) : Type 0 where
  pub plus : S → S → S
  pub over : S → S → S
  pub two : S
  pub three : S
  pub six : S

-- The operations on vectors that a step uses: v + w, and v · s.
pub record Space (S X : Type 0) : Type 0 where
  pub plus : X → X → X
  pub scale : X → S → X

-- s + k · h
unfoldable pub moved_in : {S X : Type 0} → Space S X → X → X → S → X
moved_in sp s k h = sp.plus s (sp.scale k h)

-- s + (k1 + 2 · k2 + 2 · k3 + k4) · h
unfoldable pub weighted_in : {S X : Type 0} → Scalars S → Space S X → X → X → X → X → X → S → X
weighted_in sc sp s k1 k2 k3 k4 h =
    sp.plus s (sp.scale (sp.plus (sp.plus (sp.plus k1 (sp.scale k2 sc.two)) (sp.scale k3 sc.two)) k4) h)

-- rk4.rs, fn step: position x and velocity v, with the acceleration a of position, velocity and time.
abbrev pub step_in : {S X : Type 0} → Scalars S → Space S X → (X → X → S → X) → X → X → S → S → X × X
step_in sc sp a x v t dt =
    let half = sc.over dt sc.two in
    let k1v = a x v t in
    let k1x = v in
    let k2v = a (moved_in sp x k1x half) (moved_in sp v k1v half) (sc.plus t half) in
    let k2x = moved_in sp v k1v half in
    let k3v = a (moved_in sp x k2x half) (moved_in sp v k2v half) (sc.plus t half) in
    let k3x = moved_in sp v k2v half in
    let k4v = a (moved_in sp x k3x dt) (moved_in sp v k3v dt) (sc.plus t dt) in
    let k4x = moved_in sp v k3v dt in
    let sixth = sc.over dt sc.six in
    (weighted_in sc sp x k1x k2x k3x k4x sixth, weighted_in sc sp v k1v k2v k3v k4v sixth)

-- rk4.rs, fn step_state: a state s of any kind with its add_scaled, and its derivative f of state and time.
abbrev pub step_state_in : {S M : Type 0} → Scalars S → (M → M → S → M) → (M → S → M) → M → S → S → M
step_state_in sc add_scaled f s t dt =
    let half = sc.over dt sc.two in
    let k1 = f s t in
    let k2 = f (add_scaled s k1 half) (sc.plus t half) in
    let k3 = f (add_scaled s k2 half) (sc.plus t half) in
    let k4 = f (add_scaled s k3 dt) (sc.plus t dt) in
    let sixth = sc.over dt sc.six in
    let third = sc.over dt sc.three in
    add_scaled (add_scaled (add_scaled (add_scaled s k1 sixth) k2 third) k3 third) k4 sixth

-- The operations of doubles.
abbrev pub doubles : Scalars Float
doubles = record { plus = ◌⊕◌; over = ◌⊘◌; two = dec 2 1; three = dec 3 1; six = dec 6 1 }

-- The operations of vectors of doubles.
abbrev pub vectors : Space Float DVec3
vectors = record { plus = vadd; scale = vscale }

-- s + k · h in doubles
unfoldable pub moved : DVec3 → DVec3 → Float → DVec3
moved s k h = moved_in vectors s k h

-- s + (k1 + 2 · k2 + 2 · k3 + k4) · h in doubles
unfoldable pub weighted : DVec3 → DVec3 → DVec3 → DVec3 → DVec3 → Float → DVec3
weighted s k1 k2 k3 k4 h = weighted_in doubles vectors s k1 k2 k3 k4 h

-- rk4.rs, fn step, in doubles
unfoldable pub step_of : (DVec3 → DVec3 → Float → DVec3) → State → Float → Float → State
step_of a s t dt =
    let r = step_in doubles vectors a s.pos s.vel t dt in
    record { pos = r.0; vel = r.1 }

-- ground.rs, Motion::add_scaled
unfoldable pub add_scaled : Motion → Motion → Float → Motion
add_scaled s rate h =
    record { pos = moved s.pos rate.pos h; vel = moved s.vel rate.vel h; spin = moved s.spin rate.spin h }

-- rk4.rs, fn step_state, in doubles
unfoldable pub step_state_of : (Motion → Float → Motion) → Motion → Float → Float → Motion
step_state_of f s t dt = step_state_in doubles add_scaled f s t dt

-- that r is a step of `step_state` from s, where k1 is the derivative at s, and `computes` says what the derivative may give: whatever function g that is,
-- and whatever the time, which g does not use
abbrev pub IsStep : (Motion → Motion → Type 0) → Motion → Motion → Float → Motion → Type 0
IsStep computes s k1 h r =
    (g : Motion → Motion) (t : Float) → k1 ≡ g s → ((x y : Motion) → computes x y → y ≡ g x) → r ≡ step_state_of (λ x _. g x) s t h
