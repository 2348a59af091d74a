-- Statements. What holds of the search whatever is evaluated: at most 200 evaluations, and the answer within the bracket. Assumes nothing.
use Prim.Native.Nat.{ℕ, zero, suc, ◌+◌, ◌≤◌}
use Rattle.std.specs.declared.ops.ControlFlow.{ControlFlow}
use Rattle.std.specs.declared.ops.ControlFlow.TheVariants.{Continue, Break}
use Rattle.std.proofs.Common.{arith, ◌∙◌, length-append}
use Rattle.std.specs.Prelude.{◌≡◌, Bool, true, false, cond, List, [], ◌∷◌, ◌++◌, Float, length, T}
use Rattle.std.proofs.Math.Path.{refl, ap}
use Rattle.std.specs.Float.{binary64}
use Rattle.std.specs.Float.Ieee.{round, fits, lt, le, neg}
use Rattle.std.specs.Float.Ieee.Fits.{cond-fits, add-fits, mul-fits}
use Rattle.number.specs.Ops.{◌⊕◌, ◌⊖◌, ◌⊗◌, ◌⊘◌, dec}
use Rattle.number.specs.Number.{abs_of, within_of, about_of}
use Rattle.number.specs.Order.{le_through, le_self, within_lo, within_hi, within_of_lem, within_finite}
use Rattle.number.specs.Rounding.{midpoint}
use Rattle.search.specs.declared.Bracket.{Bracket}
use Rattle.search.specs.declared.Search.{Search}
use Rattle.search.specs.declared.End.{End}
use Rattle.search.specs.declared.End.TheVariants.{Lo, Hi}
use Rattle.search.specs.Search.{Does, root_from, find_root, after_step, plain, Counted, counting, counted, start, middle, tolerance, in_bracket, narrowed}
use Rattle.search.specs.Search.{onward, replaced, inside, chord, next_try}

-- ---- the number of evaluations

-- what holds of a step that goes on and of a step that ends holds of every step
by_step : (P : ControlFlow Float Search → Type 0) → ((s : Search) → P (Continue s)) → ((x : Float) → P (Break x)) → (r : ControlFlow Float Search) → P r
by_step P n f (Continue s) = n s
by_step P n f (Break x) = f x

-- that at most n of something are counted on a way to evaluate: none in a value, and in one part after another those of both
pub record Counts {m : Type 0 → Type 0} (d : Does m) : Type 1 where
  pub at_most : {A : Type 0} → ℕ → m A → Type 0
  pub of_pure : {A : Type 0} (n : ℕ) (a : A) → at_most n (d.pure a)
  pub of_bind : {A B : Type 0} (n : ℕ) (x : m A) (k : A → m B) → at_most 1 x → ((a : A) → at_most n (k a)) → at_most (suc n) (d.bind x k)

module _ {m : Type 0 → Type 0} {d : Does m} (c : Counts d) (f : Float → m Float) (once : (x : Float) → c.at_most 1 (f x)) where
  count_from : (n : ℕ) (s : Search) → c.at_most n (root_from d f n s)
  unfolding root_from
  count_from zero s = c.of_pure 0 s.bracket.hi
  count_from (suc n) s =
      c.of_bind n (f (in_bracket s)) (λ fx. after_step d (root_from d f n) (narrowed s (in_bracket s) fx)) (once (in_bracket s))
      (λ fx. by_step (λ r. c.at_most n (after_step d (root_from d f n) r)) (count_from n) (c.of_pure n) (narrowed s (in_bracket s) fx))

  -- at most 200, where an evaluation counts for at most one
  pub every_at_most_200 : (b : Bracket) (guess : Float) → c.at_most 200 (find_root d f b guess)
  unfolding find_root
  every_at_most_200 b guess = count_from 200 (start b guess)

-- a value with the places evaluated on the way to it, in order
abbrev pub Logged : Type 0 → Type 0
Logged A = A × List Float

abbrev pub logging : Does Logged
logging = record { pure = λ a. (a, []); bind = λ x k. ((k x.0).0, x.1 ++ (k x.0).1) }

-- f, with its place logged
abbrev pub logged : (Float → Float) → Float → Logged Float
logged f x = (f x, x ∷ [])

logged_bind : {A B : Type 0} (n : ℕ) (x : Logged A) (k : A → Logged B) → length x.1 ≤ 1 → ((a : A) → length (k a).1 ≤ n) → length (x.1 ++ (k x.0).1) ≤ suc n
logged_bind n x k h g = let r = g x.0 in simp length-append (omega arith)

abbrev counts_logged : Counts logging
counts_logged = record { at_most = λ n x. length x.1 ≤ n; of_pure = λ n a. omega arith; of_bind = logged_bind }

module _ (f : Float → Float) where
  same_from : (n : ℕ) (s : Search) → (root_from logging (logged f) n s).0 ≡ root_from plain f n s
  unfolding root_from
  same_from zero s = refl
  same_from (suc n) s =
      by_step (λ r. (after_step logging (root_from logging (logged f) n) r).0 ≡ after_step plain (root_from plain f n) r) (same_from n) (λ x. refl)
      (narrowed s (in_bracket s) (f (in_bracket s)))

  -- at most 200 evaluations
  pub at_most_200 : (b : Bracket) (guess : Float) → length (find_root logging (logged f) b guess).1 ≤ 200
  at_most_200 = every_at_most_200 counts_logged (logged f) (λ x. omega arith)

  -- and the answer is the one without the log
  pub same_answer : (b : Bracket) (guess : Float) → (find_root logging (logged f) b guess).0 ≡ find_root plain f b guess
  unfolding find_root
  same_answer b guess = same_from 200 (start b guess)

  abbrev one_more : Counted Float → Counted Float
  one_more r = (r.0, 1 + r.1)

  counted_from : (n : ℕ) (s : Search) → root_from counting (counted f) n s ≡ (root_from plain f n s, length (root_from logging (logged f) n s).1)
  unfolding root_from
  counted_from zero s = refl
  counted_from (suc n) s =
      by_step
      (λ r. one_more (after_step counting (root_from counting (counted f) n) r)
      ≡ (after_step plain (root_from plain f n) r, suc (length (after_step logging (root_from logging (logged f) n) r).1)))
      (λ t. ap one_more (counted_from n t) ∙ ap (λ (k : ℕ). (root_from plain f n t, k)) (omega arith)) (λ x. refl)
      (narrowed s (in_bracket s) (f (in_bracket s)))

  -- the search that counts has the plain search's answer, and its count is the length of the logged list
  pub counted_is_logged : (b : Bracket) (guess : Float)
      → find_root counting (counted f) b guess ≡ (find_root plain f b guess, length (find_root logging (logged f) b guess).1)
  unfolding find_root
  counted_is_logged b guess = counted_from 200 (start b guess)

  pub counted_at_most_200 : (b : Bracket) (guess : Float) → (find_root counting (counted f) b guess).1 ≤ 200
  counted_at_most_200 b guess = rw (counted_is_logged b guess) (at_most_200 b guess)

-- ---- the answer's place

-- by value, ends included
abbrev pub Within : Float → Float → Float → Type 0
Within lo hi x = T (within_of lo hi x)

-- a magnitude of at most 1,000,000
abbrev pub largest : Float
largest = dec 1000000 1

-- the ends in order, and not beyond lo and hi
pub record Ordered (lo hi : Float) (b : Bracket) : Type 0 where
  pub low : T (le lo b.lo)
  pub ends : T (le b.lo b.hi)
  pub high : T (le b.hi hi)
  pub lo_fits : T (fits binary64 b.lo)
  pub hi_fits : T (fits binary64 b.hi)

-- a search whose bracket is in order, and whose next place is a double, a NaN included
abbrev pub Ready : Float → Float → Search → Type 0
Ready lo hi s = Ordered lo hi s.bracket × T (fits binary64 s.x)

-- a step goes on with its bracket in order, or ends with a root within lo and hi
abbrev pub Kept : Float → Float → ControlFlow Float Search → Type 0
Kept lo hi (Continue s) = Ready lo hi s
Kept lo hi (Break x) = Within lo hi x

-- that P holds of each value that may come out of a way to evaluate
pub record Every {m : Type 0 → Type 0} (d : Does m) : Type 1 where
  pub holds : {A : Type 0} → (A → Type 0) → m A → Type 0
  pub of_pure : {A : Type 0} (P : A → Type 0) (a : A) → P a → holds P (d.pure a)
  pub of_bind : {A B : Type 0} (P : B → Type 0) (x : m A) (k : A → m B) → ((a : A) → holds P (k a)) → holds P (d.bind x k)

abbrev pub every_counting : Every counting
every_counting = record { holds = λ P x. P x.0; of_pure = λ P a p. p; of_bind = λ P x k h. h x.0 }

either : {A : Type 0} (P : A → Type 0) (c : Bool) {a b : A} → (T c → P a) → P b → P (cond c a b)
either P true p q = p tt
either P false p q = q

self : (x : Float) → T (about_of largest x) → T (le x x)
unfolding neg round
self x p = le_self x (within_finite (neg largest) largest x tt tt p)

middle_fits : (b : Bracket) → T (fits binary64 (middle b))
middle_fits b = mul-fits binary64 (dec 1 2) (b.lo ⊕ b.hi)

next_fits : (b : Bracket) → T (fits binary64 (next_try b))
unfolding next_try chord
next_fits b =
    let c = cond-fits binary64 (lt b.f_hi b.f_lo) (b.lo ⊕ (b.hi ⊖ b.lo) ⊗ (b.f_lo ⊘ (b.f_lo ⊖ b.f_hi))) (middle b)
    (add-fits binary64 b.lo ((b.hi ⊖ b.lo) ⊗ (b.f_lo ⊘ (b.f_lo ⊖ b.f_hi)))) (middle_fits b) in
    cond-fits binary64 (inside b (chord b)) (chord b) (middle b) c (middle_fits b)

in_bracket_fits : (s : Search) → T (fits binary64 s.x) → T (fits binary64 (in_bracket s))
unfolding in_bracket
in_bracket_fits s x = cond-fits binary64 (within_of s.bracket.lo s.bracket.hi s.x) s.x (middle s.bracket) x (middle_fits s.bracket)

module _ (lo hi : Float) (lo_about : T (about_of largest lo)) (hi_about : T (about_of largest hi)) where
  -- a bracket in order has its ends within lo and hi
  lo_within : (b : Bracket) → Ordered lo hi b → Within lo hi b.lo
  lo_within b o = within_of_lem lo hi b.lo o.low (le_through b.lo b.hi hi o.ends o.high)

  hi_within : (b : Bracket) → Ordered lo hi b → Within lo hi b.hi
  hi_within b o = within_of_lem lo hi b.hi (le_through lo b.lo b.hi o.low o.ends) o.high

  about : (x : Float) → Within lo hi x → T (about_of largest x)
  about x w =
      let m = largest in
      within_of_lem (neg m) m x
      (le_through (neg m) lo x (within_lo (neg m) m lo lo_about) (within_lo lo hi x w))
      (le_through x hi m (within_hi lo hi x w) (within_hi (neg m) m hi hi_about))

  -- each place evaluated lies within the bracket
  pub in_bracket_within : (s : Search) → Ordered lo hi s.bracket → Within s.bracket.lo s.bracket.hi (in_bracket s)
  unfolding in_bracket
  in_bracket_within s o =
      let b = s.bracket in
      either (Within b.lo b.hi) (within_of b.lo b.hi s.x) (λ w. w)
      (midpoint b.lo b.hi o.lo_fits o.hi_fits (about b.lo (lo_within b o)) (about b.hi (hi_within b o)) o.ends)

  ordered_replaced : (s : Search) (x fx : Float) → T (fits binary64 x) → Ordered lo hi s.bracket → Within s.bracket.lo s.bracket.hi x
      → Ordered lo hi (replaced s x fx)
  unfolding replaced
  ordered_replaced s x fx xf o w =
      let b = s.bracket in
      let p = within_lo b.lo b.hi x w in
      let q = within_hi b.lo b.hi x w in
      either (Ordered lo hi) (lt (dec 0 1) fx)
      (λ _. record { low = le_through lo b.lo x o.low p; ends = q; high = o.high; lo_fits = xf; hi_fits = o.hi_fits })
      (record { low = o.low; ends = p; high = le_through x b.hi hi q o.high; lo_fits = o.lo_fits; hi_fits = xf })

  kept_onward : (b : Bracket) (side : End) → Ordered lo hi b → Kept lo hi (onward b side)
  unfolding onward
  kept_onward b side o = either (Kept lo hi) (inside b (middle b)) (λ _. (o, next_fits b)) (hi_within b o)

  -- a step keeps the order
  pub kept_narrowed : (s : Search) (fx : Float) → Ready lo hi s → Kept lo hi (narrowed s (in_bracket s) fx)
  unfolding narrowed
  kept_narrowed s fx r =
      let b = s.bracket in
      let o = r.0 in
      let x = in_bracket s in
      let w = in_bracket_within s o in
      either (Kept lo hi) (le (abs_of fx) tolerance)
      (λ _. within_of_lem lo hi x (le_through lo b.lo x o.low (within_lo b.lo b.hi x w)) (le_through x b.hi hi (within_hi b.lo b.hi x w) o.high))
      (kept_onward (replaced s x fx) (cond (lt (dec 0 1) fx) Lo Hi) (ordered_replaced s x fx (in_bracket_fits s r.1) o w))

  after_within : {m : Type 0 → Type 0} {d : Does m} (e : Every d) (k : Search → m Float)
      → ((s : Search) → Ready lo hi s → e.holds (Within lo hi) (k s))
      → (r : ControlFlow Float Search) → Kept lo hi r → e.holds (Within lo hi) (after_step d k r)
  after_within e k h (Continue s) o = h s o
  after_within e k h (Break x) w = e.of_pure (Within lo hi) x w

  from_within : {m : Type 0 → Type 0} {d : Does m} (e : Every d) (f : Float → m Float) (n : ℕ) (s : Search)
      → Ready lo hi s → e.holds (Within lo hi) (root_from d f n s)
  unfolding root_from
  from_within e f zero s o = e.of_pure (Within lo hi) s.bracket.hi (hi_within s.bracket o.0)
  from_within {d = d} e f (suc n) s o =
      e.of_bind (Within lo hi) (f (in_bracket s)) (λ fx. after_step d (root_from d f n) (narrowed s (in_bracket s) fx))
      (λ fx. after_within e (root_from d f n) (from_within e f n) (narrowed s (in_bracket s) fx) (kept_narrowed s fx o))

-- what the theorem asks of a bracket: two doubles in order, of magnitude at most 1,000,000
pub record Ends (b : Bracket) : Type 0 where
  pub lo_fits : T (fits binary64 b.lo)
  pub hi_fits : T (fits binary64 b.hi)
  pub lo_about : T (about_of largest b.lo)
  pub hi_about : T (about_of largest b.hi)
  pub order : T (le b.lo b.hi)

-- two doubles in order, from 0 to 1,000,000
pub ends_from_0 : (b : Bracket) → T (fits binary64 b.lo) → T (fits binary64 b.hi) → T (le (dec 0 1) b.lo) → T (le b.lo b.hi) → T (le b.hi largest) → Ends b
ends_from_0 b f g p q r =
    let m = largest in
    let n : T (le (neg m) (dec 0 1)) = unfold neg in unfold round in unfold le in tt in
    let from = le_through (neg m) (dec 0 1) b.lo n p in
    record {
      lo_fits = f;
      hi_fits = g;
      lo_about = within_of_lem (neg m) m b.lo from (le_through b.lo b.hi m q r);
      hi_about = within_of_lem (neg m) m b.hi (le_through (neg m) b.lo b.hi from q) r;
      order = q;
    }

-- the answer lies within the bracket, whatever is evaluated, by whatever way, and whatever the guess
pub every_within : {m : Type 0 → Type 0} {d : Does m} (e : Every d) (f : Float → m Float) (b : Bracket) (guess : Float)
    → Ends b → T (fits binary64 guess) → e.holds (Within b.lo b.hi) (find_root d f b guess)
unfolding find_root start
every_within e f b guess a g =
    from_within b.lo b.hi a.lo_about a.hi_about e f 200 (start b guess)
    (record { low = self b.lo a.lo_about; ends = a.order; high = self b.hi a.hi_about; lo_fits = a.lo_fits; hi_fits = a.hi_fits }, g)

pub answer_within : (f : Float → Float) (b : Bracket) (guess : Float) → Ends b → T (fits binary64 guess)
    → Within b.lo b.hi (find_root counting (counted f) b guess).0
answer_within f = every_within every_counting (counted f)
