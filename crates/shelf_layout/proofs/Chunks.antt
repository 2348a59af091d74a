-- Lemmas. A place among the chunks of a shelf's doubles is the place that begins there.
use Rattle.std.specs.Prelude.{ℕ, zero, suc, ◌+◌, ◌*◌, ◌<◌, ◌≤◌, ◌≡◌, refl, length, take, drop, Float}
use Rattle.std.proofs.Common.{arith, ap, ◌∙◌, get_or, sym}
use Rattle.std.proofs.lemmas.List.{get_or-take, drop-drop}
use Rattle.std.specs.List.{list_all}
use denote.Param.Members.{Mut}
use Rattle.std.specs.Fn.{Called}
use Rattle.std.specs.Array.{IsFromFnResultFrom, IsFromFnResult, MapsFrom, IsMapOf}
use Rattle.std.proofs.Math.Path.{subst}
use Rattle.shelf.specs.declared.Place.{Place}
use Rattle.shelf.specs.Shelf.{empty_place}
use Rattle.std.specs.Simd.{first_chunks}
use mathlib.Core.List.{List, [], ◌∷◌, map}
use Rattle.std.specs.Float.Ieee.{nan}
use Rattle.fields.specs.Fields.{vec_at, state_at}
use Rattle.shelf_layout.specs.Layout.{place_at, places_at, are_bytes, names_ok}

chunks_length : (k : ℕ) (xs : List Float) → length (first_chunks 23 k xs) ≡ k
chunks_length zero xs = refl
chunks_length (suc k) xs = ap suc (chunks_length k (drop 23 xs))

chunk_at : (k i : ℕ) (xs : List Float) → i < k → get_or (first_chunks 23 k xs) i [] ≡ take 23 (drop (23 * i) xs)
chunk_at zero i xs h = absurd (omega arith)
chunk_at (suc k) zero xs h = refl
chunk_at (suc k) (suc i) xs h =
    let e : 23 + 23 * i ≡ 23 * suc i = omega arith in
    chunk_at k i (drop 23 xs) (omega arith) ∙ ap (take 23) (drop-drop (23 * i) 23 xs ∙ ap (λ (m : ℕ). drop m xs) e)

shorter : (m n : ℕ) (xs : List Float) → m ≤ n → take m (take n xs) ≡ take m xs
shorter zero n xs h = refl
shorter (suc m) zero xs h = absurd (omega arith)
shorter (suc m) (suc n) [] h = refl
shorter (suc m) (suc n) (x ∷ xs) h = ap (λ (l : List Float). x ∷ l) (shorter m n xs (omega arith))

state_alone : (l : List Float) → state_at (take 23 l) 13 ≡ state_at l 13
unfolding state_at vec_at
state_alone l =
    rw (
      get_or-take 23 l 13 nan (omega arith),
      get_or-take 23 l 14 nan (omega arith),
      get_or-take 23 l 15 nan (omega arith),
      get_or-take 23 l 16 nan (omega arith),
      get_or-take 23 l 17 nan (omega arith),
      get_or-take 23 l 18 nan (omega arith),
      get_or-take 23 l 19 nan (omega arith),
      get_or-take 23 l 20 nan (omega arith),
      get_or-take 23 l 21 nan (omega arith),
      get_or-take 23 l 22 nan (omega arith),
    )

place_alone : (l : List Float) → place_at (take 23 l) ≡ place_at l
unfolding place_at
place_alone l = rw (shorter 13 23 l (omega arith), state_alone l)

names_each : (n : ℕ) (l : List Float) → list_all (λ (c : List Float). are_bytes (take 13 c)) (first_chunks 23 n l) ≡ names_ok n l
unfolding names_ok
names_each zero l = refl
names_each (suc n) l = rw (shorter 13 23 l (omega arith), names_each n (drop 23 l))

module _ (l : List Float) (held : List (List Float)) (k : ℕ) (e : held ≡ first_chunks 23 k l) where
  pub place_in : (i : ℕ) → i < length held → place_at (get_or held i []) ≡ place_at (drop (23 * i) l)
  place_in i h =
      let n = chunks_length k l in
      let m = ap length e in
      let j : i < k = omega arith in
      rw (e, chunk_at k i l j) (place_alone (drop (23 * i) l))

  pub names_in : length held ≡ 16 → list_all (λ (c : List Float). are_bytes (take 13 c)) held ≡ names_ok 16 l
  names_in h =
      let n = chunks_length k l in
      let m = ap length e in
      let j : k ≡ 16 = omega arith in
      rw (e, j) (names_each 16 l)

-- ---- what `from_fn` and `map` make, by a closure that changes nothing

module _ {F : Type 0} {g : Mut F (ℕ × Unit {0}) Place} (f : F) (h : ℕ → Place) (ys : List Place)
    (pure : (i : ℕ) (y : Place) (q : F) → Called g f (i, tt) y q → (q ≡ f) × (y ≡ h i)) where
  made_from : (n i : ℕ) → IsFromFnResultFrom g f ys i n → (k j : ℕ) → j ≡ i + k → k < n → get_or ys j empty_place ≡ h j
  made_from zero i m k j e l = absurd (omega arith)
  made_from (suc n) i m zero j e l =
      let p : i ≡ j = omega arith in
      subst (λ (a : ℕ). get_or ys a empty_place ≡ h a) p (m.2.1 empty_place ∙ (pure i m.1 m.0 m.3).1)
  made_from (suc n) i m (suc k) j e l =
      made_from n (i + 1) (subst (λ (a : F). IsFromFnResultFrom g a ys (i + 1) n) (pure i m.1 m.0 m.3).0 m.4) k j (omega arith) (omega arith)

places_from : (n : ℕ) (l : List Float) (ys : List Place) → length ys ≡ n → ((k : ℕ) → k < n → get_or ys k empty_place ≡ place_at (drop (23 * k) l))
    → ys ≡ places_at n l
unfolding places_at
places_from zero l [] m h = refl
places_from zero l (y ∷ ys) m h = absurd (omega arith)
places_from (suc n) l [] m h = absurd (omega arith)
places_from (suc n) l (y ∷ ys) m h =
    let a : y ≡ place_at l = h 0 (omega arith) in
    let b : ys ≡ places_at n (drop 23 l) = places_from n (drop 23 l) ys (omega arith)
    (λ k i. h (suc k) (omega arith) ∙ ap place_at
    (let e : 23 * suc k ≡ 23 + 23 * k = omega arith in ap (λ (m : ℕ). drop m l) e ∙ sym (drop-drop (23 * k) 23 l))) in
    cc

pub places_made : {F : Type 0} {g : Mut F (ℕ × Unit {0}) Place} (l : List Float) (held : List (List Float)) (k : ℕ) → held ≡ first_chunks 23 k l
    → length held ≡ 16
    → (f : F) (ys : List Place)
    → ((i : ℕ) (y : Place) (q : F) → Called g f (i, tt) y q → (q ≡ f) × (y ≡ place_at (get_or held i [])))
    → IsFromFnResult g f ys 16
    → ys ≡ places_at 16 l
places_made l held k e m f ys pure made =
    places_from 16 l ys made.long
    (λ i a. made_from f (λ j. place_at (get_or held j [])) ys pure 16 0 made.each i i (omega arith) a ∙ place_in l held k e i (omega arith))

module _ {F : Type 0} {g : Mut F (ℕ × Unit {0}) Float} (f : F) (h : ℕ → Float) (xs : List ℕ) (ys : List Float)
    (pure : (x : ℕ) (y : Float) (q : F) → Called g f (x, tt) y q → (q ≡ f) × (y ≡ h x)) where
  mapped_from : (n i : ℕ) → MapsFrom g f xs ys i n → (k j : ℕ) → j ≡ i + k → k < n → get_or ys j nan ≡ h (get_or xs j 0)
  mapped_from zero i m k j e l = absurd (omega arith)
  mapped_from (suc n) i m zero j e l =
      let p : i ≡ j = omega arith in
      subst (λ (a : ℕ). get_or ys a nan ≡ h (get_or xs a 0)) p (m.4.1 nan ∙ (pure m.1 m.2 m.0 m.5).1 ∙ ap h (sym (m.3.1 0)))
  mapped_from (suc n) i m (suc k) j e l =
      mapped_from n (i + 1) (subst (λ (a : F). MapsFrom g a xs ys (i + 1) n) (pure m.1 m.2 m.0 m.5).0 m.6) k j (omega arith) (omega arith)

numbers_from : (h : ℕ → Float) (xs : List ℕ) (ys : List Float) → length ys ≡ length xs
    → ((k : ℕ) → k < length xs → get_or ys k nan ≡ h (get_or xs k 0)) → ys ≡ map h xs
numbers_from h [] [] m e = refl
numbers_from h [] (y ∷ ys) m e = absurd (omega arith)
numbers_from h (x ∷ xs) [] m e = absurd (omega arith)
numbers_from h (x ∷ xs) (y ∷ ys) m e =
    let a : y ≡ h x = e 0 (omega arith) in
    let b : ys ≡ map h xs = numbers_from h xs ys (omega arith) (λ k i. e (suc k) (omega arith)) in
    cc

pub numbers_made : {F : Type 0} {g : Mut F (ℕ × Unit {0}) Float} (h : ℕ → Float) (f : F) (xs : List ℕ) (ys : List Float) (n : ℕ) → length xs ≡ n
    → ((x : ℕ) (y : Float) (q : F) → Called g f (x, tt) y q → (q ≡ f) × (y ≡ h x))
    → IsMapOf g f xs ys n
    → ys ≡ map h xs
numbers_made h f xs ys n m pure made =
    numbers_from h xs ys (made.long ∙ sym m) (λ i a. mapped_from f h xs ys pure n 0 made.each i i (omega arith) (omega arith))
