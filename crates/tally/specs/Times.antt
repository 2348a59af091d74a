-- Definitions. The tests of time, and when the next sample point is due.
use Rattle.std.specs.Prelude.{Bool, cond, Float}
use Rattle.std.specs.Float.Ieee.{le}
use Rattle.number.specs.Ops.{◌⊕◌, ◌⊖◌, dec}

-- ground.rs, const TIME_EPS
abbrev pub time_eps : Float
time_eps = dec 1 1000000000

-- ground.rs, const SAMPLE_INTERVAL
abbrev pub sample_interval : Float
sample_interval = dec 1 100

-- whether a time has come, within TIME_EPS
unfoldable pub has_come : Float → Float → Bool
has_come t mark = le (mark ⊖ time_eps) t

-- ground.rs, fn hop and fn settle: `t >= t_end - TIME_EPS`
abbrev pub is_late : Float → Float → Bool
is_late t t_end = has_come t t_end

-- ground.rs, fn hop and fn settle: `t >= next_sample - TIME_EPS`
abbrev pub is_due : Float → Float → Bool
is_due t next = has_come t next

-- the next sample time: one interval past `from` if a sample was due, else as before
unfoldable pub next_after : Bool → Float → Float → Float
next_after due next from = cond due (from ⊕ sample_interval) next
