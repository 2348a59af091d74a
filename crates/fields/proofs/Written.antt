-- Lemmas. A record written at an index. Assumes nothing.
use Rattle.std.proofs.Common.{◌≡◌, ℕ, ◌+◌, ◌≤◌, List, ◌++◌, length, take, drop, sym, ap, ◌∙◌, append_assoc, arith, length-append, length-drop}
use Rattle.std.proofs.Common.{length-take-le, drop-drop, take_at, drop_at}
use lib.Ieee.{Float}
use lib.Seq.{paste, take-length}
use Rattle.fields.specs.Fields.{written}

module _ (l : List Float) (o : ℕ) (r : List Float) (h : o + length r ≤ length l) where
  head : length (take o l ++ r) ≡ o + length r
  head = length-append (take o l) r ∙ ap (λ (n : ℕ). n + length r) (length-take-le o l (omega arith))

  split : written l o r ≡ (take o l ++ r) ++ drop (o + length r) l
  unfolding written
  split = sym (append_assoc (take o l) r (drop (o + length r) l))

  pub take_written : take (o + length r) (written l o r) ≡ take o l ++ r
  take_written = ap (take (o + length r)) split ∙ take_at (take o l ++ r) (drop (o + length r) l) (o + length r) head

  pub length_written : length (written l o r) ≡ length l
  length_written = ap length split ∙ omega (arith, length-append (take o l ++ r) (drop (o + length r) l), length-drop (o + length r) l, head)

  pub drop_written : drop (o + length r) (written l o r) ≡ drop (o + length r) l
  drop_written = ap (drop (o + length r)) split ∙ drop_at (take o l ++ r) (drop (o + length r) l) (o + length r) head

-- a record copied whole
pub pasted : (l : List Float) (o : ℕ) (r : List Float) → paste l o r (length r) ≡ written l o r
unfolding written
pasted l o r = rw take-length (append_assoc (take o l) r (drop (o + length r) l))

-- one record after another
pub written_on : (l : List Float) (o : ℕ) (r s : List Float) → o + length r + length s ≤ length l
    → written (written l o r) (o + length r) s ≡ written l o (r ++ s)
unfolding written
written_on l o r s h =
    let k : o + length r ≤ length l = omega arith in
    let n : o + length (r ++ s) ≡ o + length r + length s = omega (arith, length-append r s) in
    let d : drop (o + length r + length s) (written l o r) ≡ drop (o + length r + length s) l =
    sym (drop-drop (length s) (o + length r) (written l o r)) ∙ ap (drop (length s)) (drop_written l o r k) ∙ drop-drop (length s) (o + length r) l in
    ap (λ (x : List Float). x ++ (s ++ drop (o + length r + length s) (written l o r))) (take_written l o r k)
    ∙ ap (λ (x : List Float). (take o l ++ r) ++ (s ++ x)) d
    ∙ append_assoc (take o l) r (s ++ drop (o + length r + length s) l)
    ∙ ap (λ (x : List Float). take o l ++ x) (sym (append_assoc r s (drop (o + length r + length s) l)))
    ∙ ap (λ (m : ℕ). take o l ++ ((r ++ s) ++ drop m l)) (sym n)
