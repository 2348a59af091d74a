-- Definitions. Where a hop step meets the ground: ground.rs, fn clearance, fn first_crossing and fn hop_arrival.
use Rattle.std.specs.Prelude.{ℕ, zero, suc, ◌+◌, cond, eqb, pos, Float, Option, None, Some}
use Rattle.std.specs.Float.Ieee.{lt, le, eq, of_int}
use Rattle.std.specs.Float.{binary64}
use Rattle.number.specs.Ops.{◌⊕◌, ◌⊖◌, ◌⊗◌, ◌⊘◌, dec}
use Rattle.number.specs.Number.{min_of, clamp_of}
use Rattle.vector.specs.Vec.{vec}
use Rattle.vector.specs.declared.DVec3.{DVec3}
use Rattle.state.specs.declared.BallState.{BallState}
use Rattle.rk4.specs.declared.State.{State}
use Rattle.flight.specs.Arc.{hermite_of, parabola_of, drop_time}
use Rattle.search.specs.Search.{find_root}
use Rattle.search.specs.declared.Bracket.{Bracket}
use Rattle.tally.specs.Language.{M, ◌>>=◌, pure, look, evaluate, in_m}
use Rattle.std.specs.Prelude.{if◌then◌else◌}
use Rattle.arrival.specs.declared.Arc.{Arc}

-- ground.rs, fn hop, the closures passed as `arc`: the state tau into the step; with air the Hermite interpolant, without it the parabola
unfoldable pub arc_of : Arc → Float → State
arc_of arc tau = cond (lt (dec 0 1) arc.air_density) (hermite_of arc.a arc.b arc.h tau) (parabola_of arc.a tau)

-- ground.rs, fn clearance: y less the height under it. One look.
unfoldable pub clearance : DVec3 → M Float
clearance p = do
  s ← look p.x p.z
  pure (p.y ⊖ s.height)

-- ground.rs, fn hop_arrival: `|tau| self.clearance(arc(tau).pos)`
unfoldable pub clearance_at : Arc → Float → M Float
clearance_at arc tau = clearance (arc_of arc tau).pos

-- ---- ground.rs, fn first_crossing

-- `lo = hi`, with a new end: the bracket's end becomes its start
unfoldable pub advanced : Bracket → Float → Float → Bracket
advanced b x fx = record { lo = b.hi; f_lo = b.f_hi; hi = x; f_hi = fx }

-- the bracket before the first sub-step: the start on both sides
unfoldable pub at_start : Float → Bracket
at_start f0 = record { lo = dec 0 1; f_lo = f0; hi = dec 0 1; f_hi = f0 }

module _ (f : Float → M Float) (len f_end : Float) where
  -- sub-step i of 8: at the last the end is (len, f_end), with no evaluation
  unfoldable pub sub_step : ℕ → Bracket → M Bracket
  sub_step i b = if eqb i 8 then pure (advanced b len f_end) else do
    let x = len ⊗ of_int binary64 (pos i) ⊘ dec 8 1
    fx ← f x
    pure (advanced b x fx)

  -- n sub-steps left, the next being number i. 01: "accepts the first with value ≤ 0; the value at the start is never tested"
  unfoldable pub crossing_from : ℕ → ℕ → Bracket → M (Option Bracket)
  crossing_from zero i b = pure None
  crossing_from (suc n) i b = do
    next ← sub_step i b
    if le next.f_hi (dec 0 1) then pure (Some next) else crossing_from n (i + 1) next

-- 01: "tries 8 ends in turn"
unfoldable pub first_crossing : (Float → M Float) → Float → Float → Float → M (Option Bracket)
first_crossing f len f0 f_end = crossing_from f len f_end 8 1 (at_start f0)

-- ---- ground.rs, fn hop_arrival

-- `if hi == h { clearance(h).min(0.0) } else { f_hi }`
unfoldable pub end_value : Arc → Bracket → M Float
end_value arc b = if eq b.hi arc.h then (do c ← clearance_at arc arc.h; pure (min_of c (dec 0 1))) else pure b.f_hi

-- `drop_time(a.pos.y - end_height, a.vel.y).clamp(lo.0, hi)`
unfoldable pub guess_in : Arc → Bracket → Float → Float
guess_in arc b end_height = clamp_of (drop_time (arc.a.pos.y ⊖ end_height) arc.a.vel.y) b.lo b.hi

-- the bracket with another value at its end: `(hi, f_hi)`
unfoldable pub ending_at : Bracket → Float → Bracket
ending_at b f_hi = record { lo = b.lo; f_lo = b.f_lo; hi = b.hi; f_hi = f_hi }

-- from `let f_hi` to `let tau`: the time of the crossing in the bracket
unfoldable pub crossing_time : Arc → Bracket → M Float
crossing_time arc b = do
  f_hi ← end_value arc b
  let last = (arc_of arc arc.h).pos
  end ← look last.x last.z
  find_root in_m (evaluate (clearance_at arc)) (ending_at b f_hi) (guess_in arc b end.height)

-- the arrival: the arc's state with its y on the ground
unfoldable pub placed : State → Float → Float → DVec3 → BallState
placed s time height spin = record { time = time; pos = vec s.pos.x height s.pos.z; vel = s.vel; spin = spin }

-- the first crossing in a step that starts at time t, if there is one; `end` is the clearance at the step's end
unfoldable pub hop_arrival : Arc → Float → Float → DVec3 → M (Option BallState)
hop_arrival arc t end spin = do
  f0 ← clearance_at arc (dec 0 1)
  crossing ← first_crossing (clearance_at arc) arc.h f0 end
  elim crossing [
    | None ↦ pure None
    | Some b ↦ do
      tau ← crossing_time arc b
      let arrival = arc_of arc tau
      s ← look arrival.pos.x arrival.pos.z
      pure (Some (placed arrival (t ⊕ tau) s.height spin))
  ]
