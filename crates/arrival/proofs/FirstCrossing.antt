-- Statements. The bracket that `first_crossing` gives is two doubles in order, from 0 to the step's length. Assumes nothing.
use Prim.Native.Nat.{ℕ, zero, suc, ◌+◌, ◌≤◌}
use Rattle.std.proofs.Common.{arith, sym, subst, eqb→eq}
use Rattle.std.specs.Prelude.{◌≡◌, refl, Bool, true, false, eqb, Float, Option, None, Some}
use Rattle.std.proofs.Math.Dec.{T}
use Rattle.std.specs.Float.Ieee.{binary64, fits, round, lt, le}
use Rattle.std.specs.Float.Ieee.Fits.{div-fits, round-fits}
use Rattle.number.specs.Ops.{dec}
use Rattle.number.specs.Order.{le_through}
use Rattle.search.proofs.Evaluations.{Ends, largest, ends_from_0}
use Rattle.search.specs.declared.Bracket.{Bracket}
use Rattle.tally.specs.Language.{M}
use Rattle.std.specs.Prelude.{if◌then◌else◌}
use Rattle.arrival.specs.Arrival.{advanced, at_start, sub_step, crossing_from, first_crossing}
use Rattle.arrival.specs.Eighths.{times_of, eighths_of, Eighths, eighths}
use Rattle.arrival.specs.RootSearch.{Gives, gives_pure, gives_then, gives_bind}

abbrev pub IfSome : {A : Type 0} → (A → Type 0) → Option A → Type 0
IfSome P None = Unit
IfSome P (Some a) = P a

either : {A : Type 0} (P : A → Type 0) (c : Bool) {a b : A} → (T c → P a) → P b → P (if c then a else b)
either P true p q = p tt
either P false p q = q

-- before sub-step i the bracket ends at a double not below 0, and not above the end of sub-step i if there is one
record Before (len : Float) (i : ℕ) (b : Bracket) : Type 0 where
  double : T (fits binary64 b.hi)
  from_0 : T (le (dec 0 1) b.hi)
  below : i ≤ 8 → T (le b.hi (eighths_of len i))

-- two doubles in order, from 0 to the step's length
pub record InStep (len : Float) (b : Bracket) : Type 0 where
  pub ends : Ends b
  pub from_0 : T (le (dec 0 1) b.lo)
  pub to : T (le b.hi len)

record After (len : Float) (i : ℕ) (b : Bracket) : Type 0 where
  in_step : InStep len b
  double : T (fits binary64 b.hi)
  place : b.hi ≡ eighths_of len i

module _ (f : Float → M Float) (len f_end : Float) (double : T (fits binary64 len)) (top : T (le len largest)) (x : Eighths len) where
  stepped : (i : ℕ) (b : Bracket) (y fy : Float) → i ≤ 8 → Before len i b → T (fits binary64 y) → y ≡ eighths_of len i → After len i (advanced b y fy)
  unfolding advanced
  stepped i b y fy h p d e =
      let to : T (le y len) = rw e (subst (λ (z : Float). T (le (eighths_of len i) z)) x.last (x.rising i 8 h (omega arith))) in
      record {
        in_step = record {
          ends = ends_from_0 (advanced b y fy) p.double d p.from_0 (rw e (p.below h)) (le_through y len largest to top);
          from_0 = p.from_0;
          to = to;
        };
        double = d;
        place = e;
      }

  sub_step_lem : (i : ℕ) (b : Bracket) → i ≤ 8 → Before len i b → Gives (After len i) (sub_step f len f_end i b)
  unfolding sub_step
  sub_step_lem i b h p =
      either (Gives (After len i)) (eqb i 8)
      (λ t. gives_pure (After len i) (advanced b len f_end) (stepped i b len f_end h p double (rw (eqb→eq i 8 t) (sym x.last))))
      (gives_bind (After len i) (f (eighths_of len i)) _ (λ fx.
      gives_pure (After len i) (advanced b (eighths_of len i) fx) (stepped i b (eighths_of len i) fx h p (div-fits binary64 (times_of len i) (dec 8 1)) refl)))

  crossing_from_lem : (n i : ℕ) (b : Bracket) → n + i ≤ 9 → Before len i b → Gives (IfSome (InStep len)) (crossing_from f len f_end n i b)
  unfolding crossing_from
  crossing_from_lem zero i b h p = gives_pure (IfSome (InStep len)) None tt
  crossing_from_lem (suc n) i b h p =
      gives_then (After len i) (IfSome (InStep len)) (sub_step f len f_end i b) _ (λ next q.
      either (Gives (IfSome (InStep len))) (le next.f_hi (dec 0 1)) (λ _. gives_pure (IfSome (InStep len)) (Some next) q.in_step)
      (crossing_from_lem n (i + 1) next (omega arith)
      (record { double = q.double; from_0 = rw q.place (x.from_0 i (omega arith)); below = λ k. rw q.place (x.rising i (i + 1) (omega arith) k) })))
      (sub_step_lem i b (omega arith) p)

-- len is the length of a hop step, at most dt. 01, 4: "dt 0.0001..0.01"
pub crossing_ends : (f : Float → M Float) (len f0 f_end : Float) → T (fits binary64 len) → T (lt (dec 0 1) len) → T (le len largest)
    → Gives (IfSome (InStep len)) (first_crossing f len f0 f_end)
unfolding first_crossing at_start
crossing_ends f len f0 f_end d p q =
    let x = eighths len d p q in
    crossing_from_lem f len f_end d q x 8 1 (at_start f0) (omega arith)
    (record { double = round-fits binary64 _ _ _; from_0 = unfold round in unfold le in tt; below = λ k. x.from_0 1 k })
