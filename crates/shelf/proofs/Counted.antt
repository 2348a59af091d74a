-- Statements. The map's number of names kept is that: after every list of calls there is a list of that many different names, and they are the names that
-- the map has a state for. Assumes nothing.
use Rattle.std.specs.Prelude.{ℕ, suc, ◌+◌, ◌-◌, ◌≡◌, refl, Bool, true, not, ◌&&◌, ◌||◌, cond, leb}
use Rattle.std.proofs.Common.{arith, ◌∙◌, sym, subst, inl, inr}
use Rattle.std.proofs.Math.Path.{ap}
use Rattle.std.proofs.Math.Bool.{false}
use mathlib.Core.List.{List, [], ◌∷◌}
use Rattle.std.proofs.Math.Option.{Option, none, some}
use Rattle.std.proofs.Math.ListN.{length}
use Rattle.state.specs.State.{state_ok}
use Rattle.state.specs.declared.BallState.{BallState}
use Rattle.shelf.specs.Map.{name_ok, same, Map, empty_map, update, Call, told, done, with, keep, give, lose, call, map_after}
use Rattle.shelf.proofs.Places.{clash, both, Decided, decide, same_self, same_eq, differ}

unfoldable pub holds : List ℕ → List (List ℕ) → Bool
holds n [] = false
holds n (k ∷ ns) = same k n || holds n ns

-- no name twice
unfoldable pub distinct : List (List ℕ) → Bool
distinct [] = true
distinct (k ∷ ns) = not (holds k ns) && distinct ns

abbrev pub is_kept : Option BallState → Bool
is_kept none = false
is_kept (some b) = true

pub record Counted (m : Map) (ns : List (List ℕ)) : Type 0 where
  pub size : length ns ≡ m.count
  pub once : distinct ns ≡ true
  pub listed : (n : List ℕ) → holds n ns ≡ is_kept (m.state n)

-- ---- a name taken off the list
unfoldable without : List ℕ → List (List ℕ) → List (List ℕ)
without n [] = []
without n (k ∷ ns) = elim (same k n) [ true ↦ ns | false ↦ k ∷ without n ns ]

not_held : (k : List ℕ) (ns : List (List ℕ)) → distinct (k ∷ ns) ≡ true → (holds k ns ≡ false) × (distinct ns ≡ true)
unfolding distinct
not_held k ns e = let h = both (not (holds k ns)) (distinct ns) e in (go (holds k ns) h.0, h.1)
  where
    go : (b : Bool) → not b ≡ true → b ≡ false
    go true e = absurd (clash e refl)
    go false e = refl

without_here : (n k : List ℕ) (ns : List (List ℕ)) → same k n ≡ true → without n (k ∷ ns) ≡ ns
unfolding without
without_here n k ns e = rw (without, e)

without_later : (n k : List ℕ) (ns : List (List ℕ)) → same k n ≡ false → without n (k ∷ ns) ≡ k ∷ without n ns
unfolding without
without_later n k ns e = rw (without, e)

flip : (m n : List ℕ) → same m n ≡ false → same n m ≡ false
flip m n e = differ n m (λ p. clash (ap (same m) p ∙ same_self m) e)

holds_without : (n j : List ℕ) (ns : List (List ℕ)) → distinct ns ≡ true → holds j (without n ns) ≡ cond (same n j) false (holds j ns)
unfolding holds without
holds_without n j [] d = go (same n j)
  where
    go : (b : Bool) → false ≡ cond b false false
    go true = refl
    go false = refl
holds_without n j (k ∷ ns) d = go (holds_without n j ns h.1) (decide (same k n)) (decide (same n j))
  where
    h : (holds k ns ≡ false) × (distinct ns ≡ true)
    h = not_held k ns d

    go : holds j (without n ns) ≡ cond (same n j) false (holds j ns) → Decided (same k n) → Decided (same n j)
        → holds j (without n (k ∷ ns)) ≡ cond (same n j) false (same k j || holds j ns)
    go r (inl e) (inl f) = rw (without_here n k ns e, f) (subst (λ (x : List ℕ). holds x ns ≡ false) (same_eq k n e ∙ same_eq n j f) h.0)
    go r (inl e) (inr f) = rw (without_here n k ns e, f, same_eq k n e, f)
    go r (inr e) (inl f) =
        let g : same k j ≡ false = subst (λ (x : List ℕ). same k x ≡ false) (same_eq n j f) e in
        rw (without_later n k ns e, g, r, f)
    go r (inr e) (inr f) = rw (without_later n k ns e, r, f)

distinct_without : (n : List ℕ) (ns : List (List ℕ)) → distinct ns ≡ true → distinct (without n ns) ≡ true
unfolding distinct without
distinct_without n [] d = refl
distinct_without n (k ∷ ns) d = go (distinct_without n ns h.1) (decide (same k n))
  where
    h : (holds k ns ≡ false) × (distinct ns ≡ true)
    h = not_held k ns d

    go : distinct (without n ns) ≡ true → Decided (same k n) → distinct (without n (k ∷ ns)) ≡ true
    go r (inl e) = rw (without_here n k ns e) h.1
    go r (inr e) = rw (without_later n k ns e, holds_without n k ns h.1, flip k n e, h.0, r)

length_without : (n : List ℕ) (ns : List (List ℕ)) → holds n ns ≡ true → length (without n ns) ≡ length ns - 1
unfolding holds
length_without n [] e = absurd (clash e refl)
length_without n (k ∷ ns) e = go (length_without n ns) (some_left ns) (decide (same k n))
  where
    some_left : (l : List (List ℕ)) → holds n l ≡ true → suc (length l - 1) ≡ length l
    some_left [] f = absurd (clash f refl)
    some_left (x ∷ l) f = omega arith

    go : (holds n ns ≡ true → length (without n ns) ≡ length ns - 1) → (holds n ns ≡ true → suc (length ns - 1) ≡ length ns) → Decided (same k n)
        → length (without n (k ∷ ns)) ≡ suc (length ns) - 1
    go r t (inl f) = rw (without_here n k ns f) (omega arith)
    go r t (inr f) = let i : holds n ns ≡ true = rw f at e in rw (without_later n k ns f, r i, t i) (omega arith)

-- ---- one call
module _ (m : Map) (ns : List (List ℕ)) (c : Counted m ns) where
  stays : (ns' : List (List ℕ)) × Counted m ns'
  stays = (ns, c)

  keep_counted : (n : List ℕ) (b : BallState) (o : Option BallState) → m.state n ≡ o → (ns' : List (List ℕ)) × Counted (keep m n b o).map ns'
  unfolding keep update holds distinct
  keep_counted n b (some old) e = (ns, record { size = c.size; once = c.once; listed = λ k. listed k (decide (same n k)) })
    where
      listed : (k : List ℕ) → Decided (same n k) → holds k ns ≡ is_kept (cond (same n k) (some b) (m.state k))
      listed k (inl f) = rw f (c.listed k ∙ ap is_kept (ap m.state (sym (same_eq n k f)) ∙ e))
      listed k (inr f) = rw f (c.listed k)
  keep_counted n b none e = go (leb 16 m.count)
    where
      fresh : holds n ns ≡ false
      fresh = c.listed n ∙ ap is_kept e

      listed : (k : List ℕ) (x : Bool) → x || holds k ns ≡ is_kept (cond x (some b) (m.state k))
      listed k true = refl
      listed k false = c.listed k

      go : (f : Bool) → (ns' : List (List ℕ)) × Counted (cond f (done (told 33) m) (done (told 0) (with m n (some b) (m.count + 1)))).map ns'
      go true = (ns, c)
      go false = (n ∷ ns, record { size = rw c.size (omega arith); once = rw (fresh, c.once); listed = λ k. listed k (same n k) })

  lose_counted : (n : List ℕ) (o : Option BallState) → m.state n ≡ o → (ns' : List (List ℕ)) × Counted (lose m n o).map ns'
  unfolding lose update
  lose_counted n none e = stays
  lose_counted n (some b) e =
      (without n ns, record { size = size; once = distinct_without n ns c.once; listed = λ k. holds_without n k ns c.once ∙ listed k (same n k) })
    where
      size : length (without n ns) ≡ m.count - 1
      size = length_without n ns (c.listed n ∙ ap is_kept e) ∙ ap (λ (i : ℕ). i - 1) c.size

      listed : (k : List ℕ) (x : Bool) → cond x false (holds k ns) ≡ is_kept (cond x none (m.state k))
      listed k true = refl
      listed k false = c.listed k

call_counted : (m : Map) (ns : List (List ℕ)) → Counted m ns → (c : Call) → (ns' : List (List ℕ)) × Counted (call m c).map ns'
unfolding call give
call_counted m ns c (Call.save n b) = go (name_ok n) (state_ok b)
  where
    go : (x y : Bool) → (ns' : List (List ℕ)) × Counted (cond x (cond y (keep m n b (m.state n)) (done (told 22) m)) (done (told 32) m)).map ns'
    go true true = keep_counted m ns c n b (m.state n) refl
    go true false = stays m ns c
    go false y = stays m ns c
call_counted m ns c (Call.return n) = go (name_ok n) (m.state n)
  where
    go : (x : Bool) (o : Option BallState) → (ns' : List (List ℕ)) × Counted (cond x (give m o) (done (told 32) m)).map ns'
    go true none = stays m ns c
    go true (some b) = stays m ns c
    go false o = stays m ns c
call_counted m ns c (Call.drop n) = go (name_ok n)
  where
    go : (x : Bool) → (ns' : List (List ℕ)) × Counted (cond x (lose m n (m.state n)) (done (told 32) m)).map ns'
    go true = lose_counted m ns c n (m.state n) refl
    go false = stays m ns c

counted_from : (m : Map) (ns : List (List ℕ)) → Counted m ns → (calls : List Call) → (ns' : List (List ℕ)) × Counted (map_after m calls) ns'
unfolding map_after
counted_from m ns c [] = (ns, c)
counted_from m ns c (x ∷ calls) = let d = call_counted m ns c x in counted_from (call m x).map d.0 d.1 calls

-- with `at-most-16`: after every list of calls at most 16 names are kept
pub counted : (calls : List Call) → (ns : List (List ℕ)) × Counted (map_after empty_map calls) ns
unfolding holds distinct
counted calls = counted_from empty_map [] (record { size = refl; once = refl; listed = λ n. refl }) calls
