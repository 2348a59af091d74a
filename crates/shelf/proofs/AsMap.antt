-- Statements. 02's paper 9: for every list of saves, returns and drops from an empty shelf, every answer and every returned state is the plain map's.
-- Assumes nothing.
use Prim.Native.Nat.{ℕ, zero, suc, ◌+◌, ◌-◌}
use Rattle.std.proofs.Common.{arith, ◌∙◌, sym, subst, inl}
use Rattle.std.specs.Prelude.{◌≡◌, ◌⊎◌, Bool, ◌&&◌, ◌||◌, cond, eqb, length, replicate}
use Rattle.std.proofs.Math.Path.{refl}
use Rattle.std.proofs.Math.Logic.{inr}
use Rattle.std.proofs.Math.Bool.{true, false, not}
use mathlib.Core.List.{List, [], ◌∷◌}
use Rattle.std.proofs.Math.Option.{Option, none, some}
use Rattle.std.proofs.Math.Dec.{leb}
use Rattle.state.specs.State.{state_ok}
use Rattle.state.specs.declared.BallState.{BallState}
use Rattle.shelf.specs.declared.Place.{Place}
use Rattle.shelf.specs.declared.Shelf.{Shelf}
use Rattle.shelf.specs.Answers.{Saved}
use Rattle.shelf.specs.Answers.{Returned}
use Rattle.shelf.specs.Map.{name_ok, same, Map, empty_map, update, Call, Out, Done, out, told, done, with, keep, give, lose, call, map_after, map_outs}
use Rattle.shelf.specs.Shelf.{packed, no_name, place, empty_place, shelf, empty_shelf, has, find, put, saved, replaced, kept, given, save_of, return_of}
use Rattle.shelf.specs.Shelf.{drop_of, padded, sound_name, sound_place, sound}
use Rattle.shelf.proofs.Places.{Decided, decide, same_eq, same_packed, packed_sound, packed_length, packed_taken, free_not_packed, has_find, find_later}
use Rattle.shelf.proofs.Places.{Fresh, find_put, find_other, length-put, one, used, used_put, used_room, sound_put, find_dropped, All, all_put}
use Rattle.shelf.proofs.Places.{found_state, fits_empty, one_free, one_packed}

-- ---- the calls, on a shelf
pub record ShelfDone : Type 0 where
  pub out : Out
  pub shelf : Shelf

abbrev pub of_saved : Saved → ShelfDone
of_saved r = record { out = told r.answer; shelf = r.shelf }

abbrev pub of_returned : Returned → Shelf → ShelfDone
of_returned r s = record { out = out r.answer r.state; shelf = s }

unfoldable pub shelf_call : Shelf → Call → ShelfDone
shelf_call s (Call.save n b) = of_saved (save_of s n b)
shelf_call s (Call.return n) = of_returned (return_of s n) s
shelf_call s (Call.drop n) = of_saved (drop_of s n)

unfoldable pub shelf_after : Shelf → List Call → Shelf
shelf_after s [] = s
shelf_after s (c ∷ calls) = shelf_after (shelf_call s c).shelf calls

unfoldable pub shelf_outs : Shelf → List Call → List Out
shelf_outs s [] = []
shelf_outs s (c ∷ calls) = (shelf_call s c).out ∷ shelf_outs (shelf_call s c).shelf calls

-- ---- a shelf that holds what a map holds

-- 13 bytes to a name
abbrev pub Wide : Place → Type 0
Wide p = length p.name ≡ 13

-- what holds of every shelf that calls made
pub record Held (s : Shelf) : Type 0 where
  pub size : length s.places ≡ 16
  pub wide : All Wide s.places
  pub good : sound s.places ≡ true

pub record Same (s : Shelf) (m : Map) : Type 0 where
  pub held : Held s
  pub states : (n : List ℕ) → name_ok n ≡ true → m.state n ≡ find (packed n) s.places
  pub count : m.count ≡ used s.places

all_same : (P : Place → Type 0) (n : ℕ) (p : Place) → P p → All P (replicate n p)
unfolding All
all_same P zero p h = tt
all_same P (suc n) p h = (h, all_same P n p h)

find_same : (k : List ℕ) (p : Place) (n : ℕ) → same p.name k ≡ false → find k (replicate n p) ≡ none
unfolding find
find_same k p zero h = refl
find_same k p (suc n) h = find_later k p (replicate n p) h ∙ find_same k p n h

pub same_empty : Same empty_shelf empty_map
unfolding sound sound_place sound_name padded used one same has
same_empty =
    record {
      held = record { size = refl; wide = all_same Wide 16 empty_place refl; good = refl };
      states = λ n ok. sym (find_same (packed n) empty_place 16 (free_not_packed n ok));
      count = refl;
    }

module _ (s : Shelf) (m : Map) (h : Same s m) (n : List ℕ) (ok : name_ok n ≡ true) where
  -- a state put under the name, into the place of k, the name itself or a free place's
  put_same : (k : List ℕ) (b : BallState) (count : ℕ) → (k ≡ packed n) ⊎ (k ≡ no_name) → state_ok b ≡ true → has k s.places ≡ true
      → Fresh k (packed n) s.places → count + one k ≡ m.count + 1
      → Same (shelf (put k (place (packed n) b) s.places)) (with m n (some b) count)
  unfolding update
  put_same k b count which good there fresh c =
      record {
        held =
            record {
              size = length-put k q s.places ∙ h.held.size;
              wide = all_put Wide k q s.places (packed_length n ok) h.held.wide;
              good = sound_put q k s.places (record { name = packed_sound n ok; kept = inr (good, fresh) }) h.held.good;
            };
        states = λ m' ok'. states m' ok' (decide (same n m'));
        count = counts;
      }
    where
      q : Place
      q = place (packed n) b

      unlike : (m' : List ℕ) → name_ok m' ≡ true → same n m' ≡ false → (k ≡ packed n) ⊎ (k ≡ no_name) → same k (packed m') ≡ false
      unlike m' ok' d (inl e) = rw e (same_packed n m' d)
      unlike m' ok' d (inr e) = rw e (free_not_packed m' ok')

      states : (m' : List ℕ) → name_ok m' ≡ true → Decided (same n m') → update m.state n (some b) m' ≡ find (packed m') (put k q s.places)
      states m' ok' (inl e) =
          rw e (sym (subst (λ (x : List ℕ). find (packed x) (put k q s.places) ≡ some b) (same_eq n m' e) (find_put k q s.places there fresh)))
      states m' ok' (inr e) = rw e (h.states m' ok' ∙ sym (find_other k (packed m') q s.places (same_packed n m' e) (unlike m' ok' e which)))

      counts : count ≡ used (put k q s.places)
      counts = let u = used_put k q s.places there in let e = h.count in let o = one_packed n ok in omega arith

  -- the name's place emptied
  drop_same : has (packed n) s.places ≡ true → Same (shelf (put (packed n) empty_place s.places)) (with m n none (m.count - 1))
  unfolding update
  drop_same there =
      record {
        held =
            record {
              size = length-put k q s.places ∙ h.held.size;
              wide = all_put Wide k q s.places refl h.held.wide;
              good = sound_put q k s.places (fits_empty k s.places) h.held.good;
            };
        states = λ m' ok'. states m' ok' (decide (same n m'));
        count = counts;
      }
    where
      k : List ℕ
      k = packed n

      q : Place
      q = empty_place

      states : (m' : List ℕ) → name_ok m' ≡ true → Decided (same n m') → update m.state n none m' ≡ find (packed m') (put k q s.places)
      states m' ok' (inl e) =
          rw e
          (sym (subst (λ (x : List ℕ). find (packed x) (put k q s.places) ≡ none) (same_eq n m' e)
          (find_dropped k q s.places (packed_taken n ok) (free_not_packed n ok) h.held.good)))
      states m' ok' (inr e) = rw e (h.states m' ok' ∙ sym (find_other k (packed m') q s.places (free_not_packed m' ok') (same_packed n m' e)))

      counts : m.count - 1 ≡ used (put k q s.places)
      counts = let u = used_put k q s.places there in let e = h.count in let o = one_packed n ok in let z = one_free in omega arith

-- ---- one call
pub record Agrees (x : ShelfDone) (y : Done) : Type 0 where
  pub out : x.out ≡ y.out
  pub after : Same x.shelf y.map

module _ (s : Shelf) (m : Map) (h : Same s m) (n : List ℕ) (ok : name_ok n ≡ true) where
  refused : (a : ℕ) → Agrees (of_saved (saved a s)) (done (told a) m)
  refused a = record { out = refl; after = h }

  kept_agrees : (b : BallState) → state_ok b ≡ true → Agrees (of_saved (kept s (packed n) b)) (keep m n b (m.state n))
  unfolding kept replaced keep
  kept_agrees b good = go (decide (has (packed n) s.places)) (decide (has no_name s.places))
    where
      full : leb 16 m.count ≡ not (has no_name s.places)
      full = rw h.count (used_room s.places 16 h.held.size)

      go : Decided (has (packed n) s.places) → Decided (has no_name s.places)
          → Agrees (of_saved (kept s (packed n) b)) (keep m n b (m.state n))
      go (inl e) f =
          rw (e, e, h.states n ok ∙ (found_state (packed n) s.places e).1)
          (record { out = refl; after = put_same s m h n ok (packed n) b m.count (inl refl) good e (inl refl) (let z = one_packed n ok in omega arith) })
      go (inr e) (inl f) =
          rw (e, f, h.states n ok ∙ has_find (packed n) s.places e, full, f)
          (record { out = refl; after = put_same s m h n ok no_name b (m.count + 1) (inr refl) good f (inr e) (let z = one_free in omega arith) })
      go (inr e) (inr f) = rw (e, f, h.states n ok ∙ has_find (packed n) s.places e, full, f) (refused 33)

  given_agrees : Agrees (of_returned (given (find (packed n) s.places)) s) (give m (m.state n))
  unfolding given give
  given_agrees = rw (h.states n ok) (go (find (packed n) s.places))
    where
      go : (o : Option BallState) → Agrees (of_returned (given o) s) (give m o)
      go none = record { out = refl; after = h }
      go (some b) = record { out = refl; after = h }

  dropped_agrees : Agrees (of_saved (replaced s (packed n) empty_place 34)) (lose m n (m.state n))
  unfolding replaced lose
  dropped_agrees = go (decide (has (packed n) s.places))
    where
      go : Decided (has (packed n) s.places) → Agrees (of_saved (replaced s (packed n) empty_place 34)) (lose m n (m.state n))
      go (inl e) = rw (e, h.states n ok ∙ (found_state (packed n) s.places e).1) (record { out = refl; after = drop_same s m h n ok e })
      go (inr e) = rw (e, h.states n ok ∙ has_find (packed n) s.places e) (refused 34)

pub agrees : (s : Shelf) (m : Map) → Same s m → (c : Call) → Agrees (shelf_call s c) (call m c)
unfolding shelf_call call save_of return_of drop_of
agrees s m h (Call.save n b) = go (decide (name_ok n)) (decide (state_ok b))
  where
    go : Decided (name_ok n) → Decided (state_ok b) → Agrees (shelf_call s (Call.save n b)) (call m (Call.save n b))
    go (inl e) (inl f) = rw (e, f) (kept_agrees s m h n e b f)
    go (inl e) (inr f) = rw (e, f) (record { out = refl; after = h })
    go (inr e) f = rw e (record { out = refl; after = h })
agrees s m h (Call.return n) = go (decide (name_ok n))
  where
    go : Decided (name_ok n) → Agrees (shelf_call s (Call.return n)) (call m (Call.return n))
    go (inl e) = rw e (given_agrees s m h n e)
    go (inr e) = rw e (record { out = refl; after = h })
agrees s m h (Call.drop n) = go (decide (name_ok n))
  where
    go : Decided (name_ok n) → Agrees (shelf_call s (Call.drop n)) (call m (Call.drop n))
    go (inl e) = rw e (dropped_agrees s m h n e)
    go (inr e) = rw e (record { out = refl; after = h })

-- ---- every list of calls
module _ where
  outs_from : (s : Shelf) (m : Map) → Same s m → (calls : List Call) → shelf_outs s calls ≡ map_outs m calls
  unfolding shelf_outs map_outs
  outs_from s m h [] = refl
  outs_from s m h (c ∷ calls) = let a = agrees s m h c in rw (a.out, outs_from (shelf_call s c).shelf (call m c).map a.after calls)

  after_from : (s : Shelf) (m : Map) → Same s m → (calls : List Call) → Same (shelf_after s calls) (map_after m calls)
  unfolding shelf_after map_after
  after_from s m h [] = h
  after_from s m h (c ∷ calls) = after_from (shelf_call s c).shelf (call m c).map (agrees s m h c).after calls

-- 02: "Prove it for every list of saves, returns and drops from an empty shelf, against a plain map from names to states"
pub as_map : (calls : List Call) → shelf_outs empty_shelf calls ≡ map_outs empty_map calls
as_map calls = outs_from empty_shelf empty_map same_empty calls

pub after_calls : (calls : List Call) → Same (shelf_after empty_shelf calls) (map_after empty_map calls)
after_calls calls = after_from empty_shelf empty_map same_empty calls

-- ---- "A refused call leaves the shelf unchanged": whatever the shelf
module _ (s : Shelf) where
  replaced_refused : (k : List ℕ) (q : Place) (a : ℕ) → ((replaced s k q a).answer ≡ 0 → ⊥) → (replaced s k q a).shelf ≡ s
  unfolding replaced
  replaced_refused k q a = go (has k s.places)
    where
      go : (b : Bool) → ((cond b (saved 0 (shelf (put k q s.places))) (saved a s)).answer ≡ 0 → ⊥)
          → (cond b (saved 0 (shelf (put k q s.places))) (saved a s)).shelf ≡ s
      go true f = absurd (f refl)
      go false f = refl

  pub save_refused : (n : List ℕ) (b : BallState) → ((save_of s n b).answer ≡ 0 → ⊥) → (save_of s n b).shelf ≡ s
  unfolding save_of kept
  save_refused n b = go (name_ok n) (state_ok b)
    where
      r : Saved
      r = kept s (packed n) b

      go : (x y : Bool) → ((cond x (cond y r (saved 22 s)) (saved 32 s)).answer ≡ 0 → ⊥) → (cond x (cond y r (saved 22 s)) (saved 32 s)).shelf ≡ s
      go true true f = replaced_refused (cond (has (packed n) s.places) (packed n) no_name) (place (packed n) b) 33 f
      go true false f = refl
      go false y f = refl

  pub drop_refused : (n : List ℕ) → ((drop_of s n).answer ≡ 0 → ⊥) → (drop_of s n).shelf ≡ s
  unfolding drop_of
  drop_refused n = go (name_ok n)
    where
      go : (x : Bool) → ((cond x (replaced s (packed n) empty_place 34) (saved 32 s)).answer ≡ 0 → ⊥)
          → (cond x (replaced s (packed n) empty_place 34) (saved 32 s)).shelf ≡ s
      go true f = replaced_refused (packed n) empty_place 34 f
      go false f = refl

-- ---- which answers there are
unfoldable pub known : ℕ → Bool
known a = eqb a 0 || eqb a 22 || eqb a 32 || eqb a 33 || eqb a 34

unfoldable pub all_known : List Out → Bool
all_known [] = true
all_known (o ∷ l) = known o.answer && all_known l

call_known : (m : Map) (c : Call) → known (call m c).out.answer ≡ true
unfolding call keep give lose known
call_known m (Call.save n b) = go (name_ok n) (state_ok b) (m.state n)
  where
    kept_known : (o : Option BallState) → known (keep m n b o).out.answer ≡ true
    kept_known (some x) = refl
    kept_known none = full (leb 16 m.count)
      where
        full : (g : Bool) → known (cond g (done (told 33) m) (done (told 0) (with m n (some b) (m.count + 1)))).out.answer ≡ true
        full true = refl
        full false = refl

    go : (x y : Bool) (o : Option BallState) → known (cond x (cond y (keep m n b o) (done (told 22) m)) (done (told 32) m)).out.answer ≡ true
    go true true o = kept_known o
    go true false o = refl
    go false y o = refl
call_known m (Call.return n) = go (name_ok n) (m.state n)
  where
    go : (x : Bool) (o : Option BallState) → known (cond x (give m o) (done (told 32) m)).out.answer ≡ true
    go true none = refl
    go true (some b) = refl
    go false o = refl
call_known m (Call.drop n) = go (name_ok n) (m.state n)
  where
    go : (x : Bool) (o : Option BallState) → known (cond x (lose m n o) (done (told 32) m)).out.answer ≡ true
    go true none = refl
    go true (some b) = refl
    go false o = refl

pub map_known : (m : Map) (calls : List Call) → all_known (map_outs m calls) ≡ true
unfolding all_known map_outs
map_known m [] = refl
map_known m (c ∷ calls) = rw (call_known m c, map_known (call m c).map calls)
