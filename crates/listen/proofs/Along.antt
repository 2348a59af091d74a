-- The laws of the walk's loop: where it stands, and what each turn makes of that. Assumes nothing.
use Prim.Native.Nat.{ℕ, suc, ◌+◌, ◌-◌, ◌*◌, ◌≤◌, ◌<◌}
use native.Mathlib.Nat.{zero-add, add-zero, add-suc}
use native.Mathlib.Numerals.{add-one}
use native.Mathlib.Omega.{arith}
use mathlib.Core.Path.{◌≡◌, refl, ap, ◌∙◌, sym, subst}
use mathlib.Core.Logic.{◌⊎◌, inl, inr}
use mathlib.Core.Bool.{Bool, true, false}
use mathlib.Core.List.{List, [], ◌∷◌}
use lib.ListN.{length, drop, get_or, set, replicate, length-drop, length-set, drop_of_length-le}
use lib.Seq.{sets, set_comm, drop-cons}
use lib.Ieee.{Float, nan, lt}
use Rattle.std.specs.Prelude.{if◌then◌else◌}
use Rattle.listen.specs.Listen.{near, walk, heard_marks, contact_marks, count}
use Rattle.listen.specs.Inner.{front_of, Walked}
use Rattle.listen.proofs.Walking.{walking, heard_length}
use Rattle.listen.specs.declared.Mark.{Mark}
use Rattle.listen.specs.declared.Mark.TheVariants.{Paired, HeardOnly, ComputedOnly}

-- ---- a turn, by what is marked; hs' and cs' are the lists behind their fronts
abbrev turn : Float → List Float → List Float → List Float → List Float → Mark → List Mark
turn t hs cs hs' cs' Paired = Paired ∷ walk t hs' cs'
turn t hs cs hs' cs' HeardOnly = HeardOnly ∷ walk t hs' cs
turn t hs cs hs' cs' ComputedOnly = ComputedOnly ∷ walk t hs cs'

front_turn : (t h c : Float) (hs cs : List Float) → walk t (h ∷ hs) (c ∷ cs) ≡ turn t (h ∷ hs) (c ∷ cs) hs cs (front_of t h c)
unfolding front_of walk
front_turn t h c hs cs = go (near t h c) (lt h c)
  where
    go : (a b : Bool) → (if a then Paired ∷ walk t hs cs else if b then HeardOnly ∷ walk t hs (c ∷ cs) else ComputedOnly ∷ walk t (h ∷ hs) cs)
        ≡ turn t (h ∷ hs) (c ∷ cs) hs cs (if a then Paired else if b then HeardOnly else ComputedOnly)
    go true b = refl
    go false true = refl
    go false false = refl

turns : (t h c : Float) (hs cs hs' cs' : List Float) (k : Mark) → hs ≡ h ∷ hs' → cs ≡ c ∷ cs' → front_of t h c ≡ k
    → walk t hs cs ≡ turn t hs cs hs' cs' k
turns t h c hs cs hs' cs' k p q e = rw (p, q, ← e) (front_turn t h c hs' cs')

-- ---- a store past a run of stores may come first
pub set_sets : (l : List ℕ) (i : ℕ) (vs : List ℕ) (k v : ℕ) → i + length vs ≤ k → set (sets l i vs) k v ≡ sets (set l k v) i vs
set_sets l i [] k v h = refl
set_sets l i (a ∷ vs) k v h =
    set_sets (set l i a) (suc i) vs k v (omega arith) ∙ ap (λ (m : List ℕ). sets m (suc i) vs) (set_comm l i k a v (λ e. omega arith))

-- ---- where the loop stands: i heard times and j contacts are marked, and r of them are pairs
pub record Along (t : Float) (hs cs : List Float) (l : List ℕ) (i j r : ℕ) (m : List ℕ) : Type 0 where
  pub heard : i ≤ length hs
  pub contacts : j ≤ length cs
  pub few : r ≤ i
  pub long : length m ≡ length l
  pub pairs : r + count 0 (heard_marks (walk t (drop i hs) (drop j cs))) ≡ count 0 (heard_marks (walk t hs cs))
  pub stored :
      sets (sets m i (heard_marks (walk t (drop i hs) (drop j cs)))) (length hs + j) (contact_marks (walk t (drop i hs) (drop j cs)))
      ≡ sets (sets l 0 (heard_marks (walk t hs cs))) (length hs) (contact_marks (walk t hs cs))

pub starts : (t : Float) (hs cs : List Float) (l : List ℕ) → Along t hs cs l 0 0 0 l
starts t hs cs l =
    record { heard = omega arith; contacts = omega arith; few = omega arith; long = refl; pairs = zero-add _; stored = rw add-zero }

module _ {t : Float} {hs cs : List Float} {l m : List ℕ} {i j r : ℕ} (a : Along t hs cs l i j r m) (h c : Float)
    (p : i < length hs) (q : j < length cs) (x : get_or hs i nan ≡ h) (y : get_or cs j nan ≡ c) where
  -- what is left of the walk, by what this turn marks
  left : (k : Mark) → front_of t h c ≡ k → walk t (drop i hs) (drop j cs) ≡ turn t (drop i hs) (drop j cs) (drop (suc i) hs) (drop (suc j) cs) k
  left k e =
      turns t h c (drop i hs) (drop j cs) (drop (suc i) hs) (drop (suc j) cs) k (rw (drop-cons hs i nan p, x)) (rw (drop-cons cs j nan q, y)) e

  -- the heard times that are left have their marks before those of the contacts
  marks_left : (hs' cs' : List Float) (k : ℕ) → length hs' ≡ length hs - k → k ≤ length hs → k + length (heard_marks (walk t hs' cs')) ≤ length hs + j
  marks_left hs' cs' k e f = omega (arith, heard_length (walking t hs' cs'))

  pub turn_paired : front_of t h c ≡ Paired → Along t hs cs l (i + 1) (j + 1) (r + 1) (set (set m i 0) (length hs + j) 0)
  unfolding heard_marks contact_marks count
  turn_paired e =
      let w = left Paired e in
      let v = walk t (drop (suc i) hs) (drop (suc j) cs) in
      record {
        heard = omega arith;
        contacts = omega arith;
        few = omega (arith, a.few);
        long = simp length-set a.long;
        pairs = let f = rw w at a.pairs in simp add-one (omega arith);
        stored = let f = rw w at a.stored in
            simp add-one
            (rw (← set_sets (set m i 0) (suc i) (heard_marks v) (length hs + j) 0 (marks_left _ _ (suc i) (length-drop (suc i) hs) (omega arith)), add-suc) f);
      }

  pub turn_heard : front_of t h c ≡ HeardOnly → Along t hs cs l (i + 1) j r (set m i 1)
  unfolding heard_marks contact_marks count
  turn_heard e =
      let w = left HeardOnly e in
      record {
        heard = omega arith;
        contacts = omega arith;
        few = omega (arith, a.few);
        long = simp length-set a.long;
        pairs = simp add-one (rw w at a.pairs);
        stored = simp add-one (rw w at a.stored);
      }

  pub turn_computed : front_of t h c ≡ ComputedOnly → Along t hs cs l i (j + 1) r (set m (length hs + j) 2)
  unfolding heard_marks contact_marks count
  turn_computed e =
      let w = left ComputedOnly e in
      let v = walk t (drop i hs) (drop (suc j) cs) in
      record {
        heard = omega arith;
        contacts = omega arith;
        few = omega (arith, a.few);
        long = simp length-set a.long;
        pairs = simp add-one (rw w at a.pairs);
        stored = let f = rw w at a.stored in
            simp add-one (rw (← set_sets m i (heard_marks v) (length hs + j) 2 (marks_left _ _ i (length-drop i hs) (omega arith)), add-suc) f);
      }

-- ---- the end: what is left over of one list
heard_over : (t : Float) (hs : List Float)
    → (heard_marks (walk t hs []) ≡ replicate (length hs) 1) × (contact_marks (walk t hs []) ≡ []) × (count 0 (heard_marks (walk t hs [])) ≡ 0)
unfolding walk heard_marks contact_marks count
heard_over t [] = (refl, refl, refl)
heard_over t (h ∷ hs) = let k = heard_over t hs in (ap (λ (m : List ℕ). 1 ∷ m) k.0, k.1, k.2)

computed_over : (t : Float) (cs : List Float) → (heard_marks (walk t [] cs) ≡ []) × (contact_marks (walk t [] cs) ≡ replicate (length cs) 2)
unfolding walk heard_marks contact_marks
computed_over t [] = (refl, refl)
computed_over t (c ∷ cs) = let k = computed_over t cs in (k.0, ap (λ (m : List ℕ). 2 ∷ m) k.1)

record Over (t : Float) (hs cs : List Float) : Type 0 where
  heard : heard_marks (walk t hs cs) ≡ replicate (length hs) 1
  computed : contact_marks (walk t hs cs) ≡ replicate (length cs) 2
  none : count 0 (heard_marks (walk t hs cs)) ≡ 0

over : (t : Float) (hs cs : List Float) (i j : ℕ) → (length hs ≤ i) ⊎ (length cs ≤ j) → Over t (drop i hs) (drop j cs)
unfolding count
over t hs cs i j (inl h) =
    let k = computed_over t (drop j cs) in
    rw (drop_of_length-le hs {i = i} h) (record { heard = k.0; computed = k.1; none = rw k.0 })
over t hs cs i j (inr h) =
    let k = heard_over t (drop i hs) in
    rw (drop_of_length-le cs {i = j} h) (record { heard = k.0; computed = k.1; none = k.2 })

pub ends : {t : Float} {hs cs : List Float} {l m : List ℕ} {i j r : ℕ} (n : ℕ) (m' m'' : List ℕ) → Along t hs cs l i j r m → length cs ≡ n
    → (length hs ≤ i) ⊎ (n ≤ j) → m' ≡ sets m i (replicate (length hs - i) 1)
    → m'' ≡ sets m' (length hs + j) (replicate (length hs + n - (length hs + j)) 2) → Walked t hs cs l r m''
ends {t} {hs} {cs} {l} {m} {i} {j} {r} n m' m'' a z o p q =
    let k = over t hs cs i j (subst (λ (x : ℕ). (length hs ≤ i) ⊎ (x ≤ j)) (sym z) o) in
    let x : length (drop i hs) ≡ length hs - i = length-drop i hs in
    let y : length (drop j cs) ≡ length hs + n - (length hs + j) = length-drop j cs ∙ (omega arith) in
    record {
      pairs = let f = k.none in omega (arith, a.pairs);
      stored = q ∙ rw (p, ← x, ← y, ← k.heard, ← k.computed) a.stored;
    }

-- ---- a turn's room: there is a heard time and a contact, and a mark for each
pub record Room (behind n contacts marks i j : ℕ) : Type 0 where
  pub heard : i < behind
  pub contact : j < n
  pub held : n * 20 ≤ contacts
  pub lent : behind + n ≤ marks

-- and its room at the end
pub record Rest (behind n marks i j : ℕ) : Type 0 where
  pub heard : i ≤ behind
  pub contacts : j ≤ n
  pub lent : behind + n ≤ marks
