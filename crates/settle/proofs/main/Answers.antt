use Rattle.std.proofs.Common.{ℕ, List, ◌≡◌, ◌++◌, ◌≤◌, arith, ap, sym, length, drop, length-append, length-take-le}
use Rattle.line.specs.Line.{Wrote, wrote, written_line}
use Rattle.settle.proofs.main.Goals as goal

-- the count of a written line is one of bytes of its array
counts : {r : ℕ} {m : List ℕ} (t l : List ℕ) → wrote r m ≡ written_line t l → r ≤ length m
unfolding written_line
counts {r} {m} t l e =
    let p : r ≡ length t = ap (λ (w : Wrote). w.count) e in
    let q : length m ≡ length (t ++ drop (length t) l) = ap (λ (w : Wrote). length w.bytes) e in
    omega (arith, length-append t (drop (length t) l))

pub slice_bounds-out-end : goal.slice_bounds-out-end
slice_bounds-out-end c = counts _ _ c.write_answer-k.ensures

pub slice_bounds-write_all-end : goal.slice_bounds-write_all-end
slice_bounds-write_all-end c = sym (length-take-le _ _ (counts _ _ c.write_answer-k.ensures))
