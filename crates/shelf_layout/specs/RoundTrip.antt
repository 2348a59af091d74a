-- Statements. A shelf as 368 doubles is read back as it was, for every shelf that the functions of crates/shelf make. Assumes nothing.
use Rattle.std.specs.Prelude.{ℕ, zero, suc, ◌*◌, ◌≤◌, ◌≡◌, refl, true, leb, eqb, length, take, drop, Float}
use Rattle.std.proofs.Common.{arith, ap, ◌∙◌, sym, take_at, drop_at, get_or-drop, leb-true, eqb-true, le-leb}
use Rattle.std.proofs.Math.Path.{subst}
use mathlib.Core.List.{List, [], ◌∷◌, ◌++◌, map, append_assoc}
use Rattle.std.proofs.Math.ListN.{length-append}
use Rattle.std.proofs.lemmas.List.{length-map}
use Rattle.fields.specs.Fields.{whole_of, vec_at, state_at, state_fields}
use Rattle.fields.specs.WholeBack.{nat_whole, whole_is_whole}
use Rattle.state.specs.declared.BallState.{BallState}
use Rattle.shelf.specs.Map.{is_letter}
use Rattle.shelf.specs.Shelf.{padded, sound_name, sound}
use Rattle.shelf.proofs.Places.{both, All, sound_read}
use Rattle.shelf.proofs.AsMap.{Wide, Held}
use Rattle.shelf.specs.declared.Place.{Place}
use Rattle.shelf.specs.declared.Shelf.{Shelf}
use Rattle.shelf_layout.specs.Layout.{byte_of, place_at, places_at, shelf_at, are_bytes, names_ok, shelf_ok, place_fields, places_fields, shelf_fields}

-- ---- bytes
unfoldable Bytes : List ℕ → Type 0
Bytes [] = Unit
Bytes (b ∷ l) = (b ≤ 255) × Bytes l

padded_bytes : (n : ℕ) (l : List ℕ) → padded n l ≡ true → Bytes l
unfolding padded Bytes is_letter
padded_bytes n [] e = tt
padded_bytes zero (b ∷ l) e = let h = both (eqb b 0) (padded 0 l) e in let i = eqb-true b 0 h.0 in (omega arith, padded_bytes 0 l h.1)
padded_bytes (suc n) (b ∷ l) e =
    let h = both (is_letter b) (padded n l) e in
    let i = leb-true b 90 (both (leb 65 b) (leb b 90) h.0).1 in
    (omega arith, padded_bytes n l h.1)

sound_bytes : (k : List ℕ) → sound_name k ≡ true → Bytes k
unfolding sound_name Bytes
sound_bytes [] e = tt
sound_bytes (n ∷ l) e = let h = both (leb n 12) (padded n l) e in let i = leb-true n 12 h.0 in (omega arith, padded_bytes n l h.1)

bytes_back : (k : List ℕ) → Bytes k → map byte_of (map whole_of k) ≡ k
unfolding Bytes byte_of
bytes_back [] h = refl
bytes_back (b ∷ k) h =
    let i = h.0 in
    let e = nat_whole b (omega arith) in
    rw (e, le-leb b 255 h.0, bytes_back k h.1)

bytes_pass : (k : List ℕ) → Bytes k → are_bytes (map whole_of k) ≡ true
unfolding Bytes are_bytes
bytes_pass [] h = refl
bytes_pass (b ∷ k) h = let i = h.0 in rw (whole_is_whole b (omega arith) 0 255 (omega arith) h.0, bytes_pass k h.1)

-- ---- a place, and what follows it
state_back : (s : BallState) (l : List Float) → state_at (state_fields s ++ l) 0 ≡ s
unfolding state_at vec_at
state_back s l = refl

state_further : (l : List Float) → state_at l 13 ≡ state_at (drop 13 l) 0
unfolding state_at vec_at
state_further l = simp get_or-drop

module _ (p : Place) (w : Wide p) (rest : List Float) where
  name_length : length (map whole_of p.name) ≡ 13
  name_length = length-map p.name whole_of ∙ w

  pub place_length : length (place_fields p) ≡ 23
  unfolding place_fields
  place_length = let n = name_length in omega (arith, length-append (map whole_of p.name) (state_fields p.state))

  split : place_fields p ++ rest ≡ map whole_of p.name ++ (state_fields p.state ++ rest)
  unfolding place_fields
  split = append_assoc (map whole_of p.name) (state_fields p.state) rest

  name_part : take 13 (place_fields p ++ rest) ≡ map whole_of p.name
  name_part = ap (take 13) split ∙ take_at (map whole_of p.name) (state_fields p.state ++ rest) 13 name_length

  state_part : state_at (place_fields p ++ rest) 13 ≡ p.state
  state_part =
      state_further (place_fields p ++ rest)
      ∙ ap (λ (l : List Float). state_at l 0) (ap (drop 13) split ∙ drop_at (map whole_of p.name) (state_fields p.state ++ rest) 13 name_length)
      ∙ state_back p.state rest

  place_back : Bytes p.name → place_at (place_fields p ++ rest) ≡ p
  unfolding place_at
  place_back b = rw (name_part, bytes_back p.name b, state_part)

  beyond : drop 23 (place_fields p ++ rest) ≡ rest
  beyond = drop_at (place_fields p) rest 23 place_length

-- ---- places
places_length : (l : List Place) → All Wide l → length (places_fields l) ≡ 23 * length l
unfolding All places_fields
places_length [] a = refl
places_length (p ∷ l) a = let e = places_length l a.1 in let f = place_length p a.0 [] in omega (arith, length-append (place_fields p) (places_fields l))

places_back : (l : List Place) → All Wide l → sound l ≡ true → places_at (length l) (places_fields l) ≡ l
unfolding All places_fields places_at
places_back [] a s = refl
places_back (p ∷ l) a s =
    let r = sound_read p l s in
    rw (place_back p a.0 (places_fields l) (sound_bytes p.name r.0.name), beyond p a.0 (places_fields l), places_back l a.1 r.1)

names_pass : (l : List Place) → All Wide l → sound l ≡ true → names_ok (length l) (places_fields l) ≡ true
unfolding All places_fields names_ok
names_pass [] a s = refl
names_pass (p ∷ l) a s =
    let r = sound_read p l s in
    let b = bytes_pass p.name (sound_bytes p.name r.0.name) in
    rw (name_part p a.0 (places_fields l), b, beyond p a.0 (places_fields l), names_pass l a.1 r.1)

-- ---- shelves
module _ (s : Shelf) (h : Held s) where
  pub written_length : length (shelf_fields s) ≡ 368
  written_length = let e = h.size in omega (arith, places_length s.places h.wide)

  back : places_at 16 (shelf_fields s) ≡ s.places
  back = rw (sym h.size) (places_back s.places h.wide h.good)

  -- the doubles of such a shelf are a shelf's
  pub written_ok : shelf_ok (shelf_fields s) ≡ true
  unfolding shelf_ok
  written_ok = rw (back, h.good, subst (λ (n : ℕ). names_ok n (shelf_fields s) ≡ true) h.size (names_pass s.places h.wide h.good))

  -- and it is read back as it was
  pub written_back : shelf_at (shelf_fields s) ≡ s
  written_back = rw back
