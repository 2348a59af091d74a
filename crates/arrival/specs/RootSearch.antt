-- Statements. The search in the hop: at most 200 evaluations and as many looks, and a time within its bracket. Assumes nothing.
use Rattle.std.specs.Prelude.{ℕ, suc, ◌+◌, ◌≤◌, cond, [], ◌∷◌, T, Float, length}
use Rattle.std.proofs.Common.{arith, length-append}
use Rattle.std.specs.Float.{binary64}
use Rattle.std.specs.Float.Ieee.{fits, lt}
use Rattle.std.specs.Float.Ieee.Fits.{cond-fits}
use Rattle.number.specs.Ops.{◌⊖◌}
use Rattle.number.specs.Number.{clamp_of}
use Rattle.vector.specs.declared.DVec3.{DVec3}
use Rattle.flight.specs.Arc.{drop_time, drop_fits}
use Rattle.look.specs.Tree.{Oracle, run, looks}
use Rattle.search.specs.Search.{find_root}
use Rattle.search.proofs.Evaluations.{Counts, Every, Ends, Within, every_at_most_200, every_within}
use Rattle.search.specs.declared.Bracket.{Bracket}
use Rattle.tally.specs.Language.{M, Log, Outcome, goes, stops, pure, look, evaluate, in_m, ◌>>=◌}
use Rattle.tally.proofs.Triple.{Past, spot, After, Triple, of_run, of_every_run, t_any, t_after, t_bind, t_pure, t_look, t_evaluation}
use Rattle.arrival.specs.declared.Arc.{Arc}
use Rattle.arrival.specs.Arrival.{clearance, clearance_at, arc_of, end_value, guess_in, ending_at, crossing_time}

-- ---- how many looks, and how many evaluations

module _ (size : Past → ℕ) where
  -- it grows by at most n, on every course and whatever went before
  abbrev pub GrowsBy : {A : Type 0} → ℕ → M A → Type 0
  GrowsBy n m = (o : Oracle) (k : ℕ) → Triple o (λ w. size w ≤ k) m (λ _ w. size w ≤ n + k) (λ _ w. size w ≤ n + k)

  pub grows_pure : {A : Type 0} (n : ℕ) (a : A) → GrowsBy n (pure a)
  grows_pure n a o k = t_pure (λ w h. omega (arith, h))

  pub grows_then : {A B : Type 0} (i n : ℕ) (x : M A) (k : A → M B) → GrowsBy i x → ((a : A) → GrowsBy n (k a)) → GrowsBy (i + n) (x >>= k)
  grows_then i n x k h g o j =
      t_bind (t_after (λ a w p. p) (λ l w p. omega (arith, p)) (h o j)) (λ a. t_after (λ b w p. omega (arith, p)) (λ l w p. omega (arith, p)) (g a o (i + j)))

  -- of find_root's evaluations, each of which adds at most one
  pub grows_next : {A B : Type 0} (n : ℕ) (x : M A) (k : A → M B) → GrowsBy 1 x → ((a : A) → GrowsBy n (k a)) → GrowsBy (suc n) (x >>= k)
  grows_next n x k h g o j =
      t_after (λ b w p. omega (arith, p)) (λ l w p. omega (arith, p)) (grows_then 1 n x k h g o j)

  abbrev pub counts_grown : Counts in_m
  counts_grown = record { at_most = GrowsBy; of_pure = grows_pure; of_bind = grows_next }

-- at most n looks more
abbrev pub LooksAtMost : {A : Type 0} → ℕ → M A → Type 0
LooksAtMost = GrowsBy (λ w. length w.spots)

-- at most n evaluations more
abbrev pub EvaluatesAtMost : {A : Type 0} → ℕ → M A → Type 0
EvaluatesAtMost = GrowsBy (λ w. w.log.evaluations)

-- a look at a spot that fails its test is not made
look_once : (x z : Float) → LooksAtMost 1 (look x z)
look_once x z o k = t_look x z (λ w h _. rw (length-append w.spots (spot x z ∷ [])) (omega (arith, h))) (λ w h _. omega (arith, h))

pub look_evaluates : (x z : Float) → EvaluatesAtMost 0 (look x z)
look_evaluates x z o k = t_look x z (λ w h _. omega (arith, h)) (λ w h _. omega (arith, h))

clearance_once : (p : DVec3) → LooksAtMost 1 (clearance p)
unfolding clearance
clearance_once p = grows_then (λ w. length w.spots) 1 0 (look p.x p.z) _ (look_once p.x p.z) (λ s. grows_pure (λ w. length w.spots) 0 _)

pub clearance_evaluates : (p : DVec3) → EvaluatesAtMost 0 (clearance p)
unfolding clearance
clearance_evaluates p =
    grows_then (λ w. w.log.evaluations) 0 0 (look p.x p.z) _ (look_evaluates p.x p.z) (λ s. grows_pure (λ w. w.log.evaluations) 0 _)

module _ (arc : Arc) where
  -- one evaluation of the hop's search: a look, and one evaluation counted
  evaluated_looks : (tau : Float) → LooksAtMost 1 (evaluate (clearance_at arc) tau)
  unfolding clearance_at
  evaluated_looks tau o k = t_bind (t_evaluation (λ w h. h)) (λ _. clearance_once (arc_of arc tau).pos o k)

  evaluated_counts : (tau : Float) → EvaluatesAtMost 1 (evaluate (clearance_at arc) tau)
  unfolding clearance_at
  evaluated_counts tau o k =
      t_bind (t_evaluation (λ w h. omega (arith, h)))
      (λ _. t_after (λ a w p. omega (arith, p)) (λ i w p. omega (arith, p)) (clearance_evaluates (arc_of arc tau).pos o (1 + k)))

  -- 01: "at most 200 evaluations"; each is one look
  pub at_most_200_looks : (b : Bracket) (guess : Float) (o : Oracle) (l : Log) → length (looks o (find_root in_m (evaluate (clearance_at arc)) b guess l)) ≤ 200
  at_most_200_looks b guess o l =
      let few = every_at_most_200 (counts_grown (λ w. length w.spots)) (evaluate (clearance_at arc)) evaluated_looks b guess o 0 in
      of_every_run o few l (omega arith)

  -- 02, paper 4: "how many evaluations it made, at most 200"
  pub search_at_most_200 : (b : Bracket) (guess : Float) → EvaluatesAtMost 200 (find_root in_m (evaluate (clearance_at arc)) b guess)
  search_at_most_200 = every_at_most_200 (counts_grown (λ w. w.log.evaluations)) (evaluate (clearance_at arc)) evaluated_counts

-- ---- the time

abbrev pub Goes : {A : Type 0} → (A → Type 0) → Outcome A → Type 0
Goes P (goes a) = P a
Goes P (stops n) = Unit

-- P of the value that a part gives, if it gives one, on every course and whatever went before
abbrev pub Gives : {A : Type 0} → (A → Type 0) → M A → Type 0
Gives P m = (o : Oracle) → Triple o (λ _. Unit {0}) m (λ a _. P a) (λ _ _. Unit {0})

-- of the run itself
pub given : {A : Type 0} (P : A → Type 0) (m : M A) → Gives P m → (o : Oracle) (l : Log) → Goes P (run o (m l)).outcome
given {A} P m h o l = go (run o (m l)).outcome _ (of_run o (h o) l tt)
  where
    go : (x : Outcome A) (w : Past) → After (λ a _. P a) (λ _ _. Unit {0}) x w → Goes P x
    go (goes a) w q = q
    go (stops n) w q = tt

pub gives_pure : {A : Type 0} (P : A → Type 0) (a : A) → P a → Gives P (pure a)
gives_pure P a p o = t_pure (λ w _. p)

pub gives_then : {A B : Type 0} (Q : A → Type 0) (P : B → Type 0) (x : M A) (k : A → M B) → ((a : A) → Q a → Gives P (k a)) → Gives Q x → Gives P (x >>= k)
gives_then Q P x k g h o = t_bind (h o) (λ a. record { all = λ w q. (g a q o).all w tt })

gives_any : {A : Type 0} (x : M A) → Gives (λ _. Unit {0}) x
gives_any x o = t_any x

pub gives_bind : {A B : Type 0} (P : B → Type 0) (x : M A) (k : A → M B) → ((a : A) → Gives P (k a)) → Gives P (x >>= k)
gives_bind P x k g = gives_then (λ _. Unit) P x k (λ a _. g a) (gives_any x)

abbrev every_in_m : Every in_m
every_in_m = record { holds = Gives; of_pure = gives_pure; of_bind = gives_bind }

-- 01: "the answer within the bracket"
pub time_within : (arc : Arc) (b : Bracket) (guess : Float) → Ends b → T (fits binary64 guess)
    → Gives (Within b.lo b.hi) (find_root in_m (evaluate (clearance_at arc)) b guess)
time_within arc = every_within every_in_m (evaluate (clearance_at arc))

clamp_fits : (x lo hi : Float) → T (fits binary64 x) → T (fits binary64 lo) → T (fits binary64 hi) → T (fits binary64 (clamp_of x lo hi))
unfolding clamp_of
clamp_fits x lo hi f g h =
    let low = cond (lt x lo) lo x in
    cond-fits binary64 (lt hi low) hi low h (cond-fits binary64 (lt x lo) lo x g f)

-- the time of the crossing in a bracket
pub crossing_time_within : (arc : Arc) (b : Bracket) → Ends b → Gives (Within b.lo b.hi) (crossing_time arc b)
unfolding crossing_time ending_at guess_in
crossing_time_within arc b a =
    gives_bind (Within b.lo b.hi) (end_value arc b) _ (λ f_hi. gives_bind (Within b.lo b.hi) (look _ _) _ (λ end.
    time_within arc (ending_at b f_hi) (guess_in arc b end.height)
    (record { lo_fits = a.lo_fits; hi_fits = a.hi_fits; lo_about = a.lo_about; hi_about = a.hi_about; order = a.order })
    (clamp_fits (drop_time (arc.a.pos.y ⊖ end.height) arc.a.vel.y) b.lo b.hi
    (drop_fits (arc.a.pos.y ⊖ end.height) arc.a.vel.y) a.lo_fits a.hi_fits)))
