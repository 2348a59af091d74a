-- Statements. The search in a slide gives a time within the step, and makes at most 200 evaluations. Assumes nothing.
use Rattle.std.specs.Prelude.{◌≤◌, Bool, true, false, cond, T, Float}
use Rattle.std.proofs.Common.{arith}
use Rattle.std.specs.Float.Ieee.{binary64, fits, round, lt, le}
use Rattle.std.specs.Float.Ieee.Fits.{cond-fits, div-fits, round-fits}
use Rattle.number.specs.Ops.{◌⊕◌, ◌⊖◌, ◌⊗◌, ◌⊘◌, dec}
use Rattle.number.specs.Number.{max_of}
use Rattle.rk4.specs.declared.Motion.{Motion}
use Rattle.vector.specs.Vec.{zero3, vdivs, vlength, same_vec}
use Rattle.search.proofs.Evaluations.{Within, largest, ends_from_0, answer_within, counted_at_most_200}
use Rattle.slide.specs.declared.Patch.{Patch}
use Rattle.slide.specs.declared.Slid.{Slid}
use Rattle.slide.specs.declared.Turning.{Turning}
use Rattle.slide.specs.Slide.{slip_eps, min_switch_slip, patch_slip, slip_speed, slip_decay, slip_rate, time_to_roll, finish_of, turning, turned_at, above_of}
use Rattle.slide.specs.Slide.{guess_of, time_at_threshold, finish_from, slide_to_threshold, slide_on_slope, slide_of}

-- for a step from 0 to 1,000,000; 01, 4: "dt 0.0001..0.01"
pub slide_time_within : (q : Turning) (dt s₀ threshold s_full : Float)
    → T (fits binary64 dt) → T (le (dec 0 1) dt) → T (le dt largest) → Within (dec 0 1) dt (time_at_threshold q dt s₀ threshold s_full).0
unfolding guess_of
slide_time_within q dt s₀ threshold s_full f h k =
    let over = s₀ ⊖ threshold in
    let rate = slip_rate q.patch q.u_hat0 in
    answer_within (above_of q threshold) _ (guess_of over rate dt)
    (ends_from_0 (record { lo = dec 0 1; f_lo = over; hi = dt; f_hi = s_full ⊖ threshold }) (round-fits binary64 _ 0 1) f (unfold round in unfold le in tt) h k)
    (cond-fits binary64 (lt (dec 0 1) rate) (over ⊘ rate) dt (div-fits binary64 over rate) f)

-- ---- evaluations

either : (P : Slid → Type 0) (c : Bool) {a b : Slid} → P a → P b → P (cond c a b)
either P true p q = p
either P false p q = q

abbrev Few : Slid → Type 0
Few s = s.evaluations ≤ 200

-- a slide makes one search, or none
pub slide_at_most_200 : (p : Patch) (start : Motion) (t dt roll_threshold : Float) → (slide_of p start t dt roll_threshold).evaluations ≤ 200
unfolding slide_of slide_on_slope slide_to_threshold finish_from finish_of
slide_at_most_200 p start t dt roll_threshold =
    let threshold = max_of roll_threshold min_switch_slip in
    let u₀ = patch_slip p start in
    let s₀ = vlength u₀ in
    let q = turning p start t (vdivs u₀ s₀) in
    let finished : Few (finish_of p start t dt) = either Few (le (vlength u₀) slip_eps) (omega arith) (omega arith) in
    either Few (same_vec p.g_t zero3) finished
    (either Few (le s₀ threshold) finished
    (either Few (lt ((slip_decay p ⊕ vlength p.g_t) ⊗ dt) (s₀ ⊖ threshold)) (omega arith)
    (either Few (lt threshold (slip_speed p (turned_at q dt))) (omega arith) (counted_at_most_200 (above_of q threshold) _ _))))
