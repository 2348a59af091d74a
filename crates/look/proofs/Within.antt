-- Statements. The rectangle holds every spot looked at, and lies within every other that does; so two courses that agree within it give the same run.
use Rattle.std.specs.Prelude.{◌≡◌, refl, List, [], ◌∷◌, Bool, not, ◌&&◌, cond, Float}
use Rattle.std.proofs.Math.Path.{sym, ap, subst}
use Rattle.std.proofs.Math.Bool.{true, false}
use Rattle.std.proofs.Math.Dec.{T}
use Rattle.std.specs.Float.{nan, inf, fin}
use Rattle.std.specs.Float.Ieee.{lt, le, neg, round}
use Rattle.look.specs.Rect.{Rect, widen, widen_if, lesser, greater, is_double, spot_ok, no_rect}
use Rattle.state.specs.State.{coord_ok}
use Rattle.number.specs.Number.{within_of, finite_of}
use Rattle.number.specs.Order.{le_through, le_self, lt-le, nlt-le}
use Rattle.look.specs.Tree.{Tree, done, look, step, Oracle, Spot, looks, exec, seen, note}
use Rattle.look.specs.Agree.{All, AgreeOn, rect_from}
use Rattle.look.proofs.Agree.{same_run, exec_is}

-- a spot is within a rectangle: by value, ends included
abbrev pub Within : Rect → Float → Float → Type 0
Within r x z = T (le r.x_lo x) × T (le x r.x_hi) × T (le r.z_lo z) × T (le z r.z_hi)

-- P of each edge; of a spot's x and z
abbrev pub Edges : (Float → Type 0) → Rect → Type 0
Edges P r = P r.x_lo × P r.x_hi × P r.z_lo × P r.z_hi

abbrev Both : (Float → Type 0) → Spot → Type 0
Both P s = P s.x × P s.z

abbrev Fin : Float → Type 0
Fin x = T (finite_of x)

abbrev Finite : Rect → Type 0
Finite r = Edges Fin r

abbrev FinSpot : Spot → Type 0
FinSpot s = Both Fin s

-- ---- a spot that passed its test is finite
pub and_parts : (a b : Bool) → T (a && b) → T a × T b
and_parts true b t = (tt, t)
and_parts false b t = absurd t

pub coord_fin : (x : Float) → T (coord_ok x) → T (finite_of x)
unfolding coord_ok within_of le neg round
coord_fin nan t = t
coord_fin (inf true) t = t
coord_fin (inf false) t = t
coord_fin (fin s m e) t = tt

note_all : (P : Spot → Type 0) (b : Bool) (s : Spot) (l : List Spot) → (T b → P s) → All P l → All P (note b s l)
note_all P true s l f h = (f tt, h)
note_all P false s l f h = h

all_map : (P Q : Spot → Type 0) (l : List Spot) → ((s : Spot) → P s → Q s) → All P l → All Q l
all_map P Q [] f h = tt
all_map P Q (s ∷ l) f h = (f s h.0, all_map P Q l f h.1)

abbrev Ok : Float → Type 0
Ok x = T (coord_ok x)

abbrev Double : Float → Type 0
Double x = T (is_double x)

-- each spot looked at passed its test
looks_pass : {A : Type 0} (o : Oracle) (t : Tree A) → All (λ s. T (spot_ok s.x s.z)) (looks o t)
unfolding looks
looks_pass o (done a) = tt
looks_pass o (look x z c) = note_all (λ s. T (spot_ok s.x s.z)) (spot_ok x z) (record { x = x; z = z }) _ (λ h. h) (looks_pass o (c (seen o x z)))
looks_pass o (step m t) = looks_pass o t

pass_parts : (s : Spot) → T (spot_ok s.x s.z) → Both Double s × Both Ok s
unfolding spot_ok
pass_parts s h =
    let p = and_parts (is_double s.x && is_double s.z) (coord_ok s.x && coord_ok s.z) h in
    (and_parts (is_double s.x) (is_double s.z) p.0, and_parts (coord_ok s.x) (coord_ok s.z) p.1)

looks_ok : {A : Type 0} (o : Oracle) (t : Tree A) → All (Both Ok) (looks o t)
looks_ok o t = all_map (λ s. T (spot_ok s.x s.z)) (Both Ok) (looks o t) (λ s h. (pass_parts s h).1) (looks_pass o t)

-- every look is at doubles
pub looks_double : {A : Type 0} (o : Oracle) (t : Tree A) → All (λ s. T (is_double s.x) × T (is_double s.z)) (looks o t)
looks_double o t = all_map (λ s. T (spot_ok s.x s.z)) (Both Double) (looks o t) (λ s h. (pass_parts s h).0) (looks_pass o t)

looks_fin : {A : Type 0} (o : Oracle) (t : Tree A) → All FinSpot (looks o t)
looks_fin o t = all_map (Both Ok) FinSpot (looks o t) (λ s h. (coord_fin s.x h.0, coord_fin s.z h.1)) (looks_ok o t)

-- ---- the lesser and the greater of two
module _ (P : Float → Type 0) (a x : Float) (i : P a) (j : P x) where
  lesser_has : P (lesser a x)
  unfolding lesser
  lesser_has = go (lt x a)
    where
      go : (b : Bool) → P (cond b x a)
      go true = j
      go false = i

  greater_has : P (greater a x)
  unfolding greater
  greater_has = go (lt a x)
    where
      go : (b : Bool) → P (cond b x a)
      go true = j
      go false = i

module _ (a x : Float) (i : T (finite_of a)) (j : T (finite_of x)) where
  lesser_le : T (le (lesser a x) a) × T (le (lesser a x) x)
  unfolding lesser
  lesser_le = go (lt x a) (lt-le x a) (nlt-le x a j i)
    where
      go : (b : Bool) → (T b → T (le x a)) → (T (not b) → T (le a x)) → T (le (cond b x a) a) × T (le (cond b x a) x)
      go true f g = (f tt, le_self x j)
      go false f g = (le_self a i, g tt)

  greater_le : T (le a (greater a x)) × T (le x (greater a x))
  unfolding greater
  greater_le = go (lt a x) (lt-le a x) (nlt-le a x i j)
    where
      go : (b : Bool) → (T b → T (le a x)) → (T (not b) → T (le x a)) → T (le a (cond b x a)) × T (le x (cond b x a))
      go true f g = (f tt, le_self x j)
      go false f g = (le_self a i, g tt)

-- ---- a rectangle that has been looked at once, widened
step_has : (P : Float → Type 0) (r : Rect) (s : Spot) → Edges P r → Both P s → Edges P (widen_if true r s.x s.z)
step_has P r s f g =
    (lesser_has P _ s.x f.0 g.0, greater_has P _ s.x f.1 g.0, lesser_has P _ s.z f.2 g.1, greater_has P _ s.z f.3 g.1)

step_new : (r : Rect) (s : Spot) → Finite r → FinSpot s → Within (widen_if true r s.x s.z) s.x s.z
step_new r s f g =
    ((lesser_le _ s.x f.0 g.0).1, (greater_le _ s.x f.1 g.0).1, (lesser_le _ s.z f.2 g.1).1, (greater_le _ s.z f.3 g.1).1)

step_old : (r : Rect) (s q : Spot) → Finite r → FinSpot s → Within r q.x q.z → Within (widen_if true r s.x s.z) q.x q.z
step_old r s q f g w = (
  le_through _ _ _ (lesser_le _ s.x f.0 g.0).0 w.0,
  le_through _ _ _ w.1 (greater_le _ s.x f.1 g.0).0,
  le_through _ _ _ (lesser_le _ s.z f.2 g.1).0 w.2,
  le_through _ _ _ w.3 (greater_le _ s.z f.3 g.1).0,
)

kept : (r : Rect) (l : List Spot) (q : Spot) → r.seen ≡ true → Finite r → All FinSpot l → Within r q.x q.z → Within (rect_from r l) q.x q.z
unfolding rect_from widen
kept r [] q e f h w = w
kept r (s ∷ l) q e f h w = rw e (kept (widen_if true r s.x s.z) l q refl (step_has Fin r s f h.0) h.1 (step_old r s q f h.0 w))

all_in : (r : Rect) (l : List Spot) → r.seen ≡ true → Finite r → All FinSpot l → All (λ s. Within (rect_from r l) s.x s.z) l
unfolding rect_from widen
all_in r [] e f h = tt
all_in r (s ∷ l) e f h =
    let n = step_has Fin r s f h.0 in
    subst (λ (q : Rect). All (λ (p : Spot). Within q p.x p.z) (s ∷ l)) (ap (λ (b : Bool). rect_from (widen_if b r s.x s.z) l) (sym e))
    (kept (widen_if true r s.x s.z) l s refl n h.1 (step_new r s f h.0), all_in (widen_if true r s.x s.z) l refl n h.1)

point : Spot → Rect
point s = record { seen = true; x_lo = s.x; x_hi = s.x; z_lo = s.z; z_hi = s.z }

-- from a rectangle of no look, each spot of the list is within the last
spots_within : (r : Rect) (l : List Spot) → r.seen ≡ false → All FinSpot l → All (λ s. Within (rect_from r l) s.x s.z) l
unfolding rect_from widen point
spots_within r [] e h = tt
spots_within r (s ∷ l) e h =
    let f : Finite (point s) = (h.0.0, h.0.0, h.0.1, h.0.1) in
    let w : Within (point s) s.x s.z = (le_self _ h.0.0, le_self _ h.0.0, le_self _ h.0.1, le_self _ h.0.1) in
    subst (λ (q : Rect). All (λ (p : Spot). Within q p.x p.z) (s ∷ l)) (ap (λ (b : Bool). rect_from (widen_if b r s.x s.z) l) (sym e))
    (kept (point s) l s refl f h.1 w, all_in (point s) l refl f h.1)

-- what holds of a rectangle's edges and of every x and z of the list holds of the last one's edges
edges_have : (P : Float → Type 0) (r : Rect) (l : List Spot) → Edges P r → All (Both P) l → Edges P (rect_from r l)
unfolding rect_from widen
edges_have P r [] f h = f
edges_have P r (s ∷ l) f h = edges_have P (widen r s.x s.z) l (go r.seen) h.1
  where
    go : (b : Bool) → Edges P (widen_if b r s.x s.z)
    go true = step_has P r s f h.0
    go false = (h.0.0, h.0.0, h.0.1, h.0.1)

-- ---- two courses that agree within the rectangle that the first run reports: at each spot of doubles there
abbrev pub AgreeIn : Oracle → Oracle → Rect → Type 0
AgreeIn o p r = (x z : Float) → T (is_double x) → T (is_double z) → Within r x z → p x z ≡ o x z

agree_on : (o p : Oracle) (r : Rect) (l : List Spot) → AgreeIn o p r → All (Both Double) l → All (λ s. Within r s.x s.z) l → AgreeOn o p l
agree_on o p r [] a d h = tt
agree_on o p r (s ∷ l) a d h = (a s.x s.z d.0.0 d.0.1 h.0, agree_on o p r l a d.1 h.1)

pub non_interference : {A : Type 0} (o p : Oracle) (r : Rect) (t : Tree A) → r.seen ≡ false → AgreeIn o p (exec o r t).rect
    → (exec p r t ≡ exec o r t) × (looks p t ≡ looks o t)
non_interference o p r t e a =
    let q = rect_from r (looks o t) in
    let in_q : AgreeIn o p q = rw (exec_is o r t) at a in
    same_run o p r t (agree_on o p q (looks o t) in_q (looks_double o t) (spots_within r (looks o t) e (looks_fin o t)))

-- ---- no rectangle that holds every spot is smaller
abbrev pub Inside : Rect → Rect → Type 0
Inside r q = T (le q.x_lo r.x_lo) × T (le r.x_hi q.x_hi) × T (le q.z_lo r.z_lo) × T (le r.z_hi q.z_hi)

lower : (q a x : Float) → T (le q a) → T (le q x) → T (le q (lesser a x))
unfolding lesser
lower q a x i j = go (lt x a)
  where
    go : (b : Bool) → T (le q (cond b x a))
    go true = j
    go false = i

upper : (q a x : Float) → T (le a q) → T (le x q) → T (le (greater a x) q)
unfolding greater
upper q a x i j = go (lt a x)
  where
    go : (b : Bool) → T (le (cond b x a) q)
    go true = j
    go false = i

inside : (r q : Rect) (l : List Spot) → r.seen ≡ true → Inside r q → All (λ s. Within q s.x s.z) l → Inside (rect_from r l) q
unfolding rect_from widen
inside r q [] e i h = i
inside r q (s ∷ l) e i h =
    rw e
    (inside (widen_if true r s.x s.z) q l refl
    (lower _ _ s.x i.0 h.0.0, upper _ _ s.x i.1 h.0.1, lower _ _ s.z i.2 h.0.2, upper _ _ s.z i.3 h.0.3) h.1)

least : (r q : Rect) (s : Spot) (l : List Spot) → r.seen ≡ false → All (λ s. Within q s.x s.z) (s ∷ l) → Inside (rect_from r (s ∷ l)) q
unfolding rect_from widen point
least r q s l e h = rw e (inside (point s) q l refl h.0 h.1)

-- ---- the theorems of a run that begins with no look made

unseen : no_rect.seen ≡ false
unfolding no_rect
unseen = refl

pub no_rect_ok : Edges (λ x. T (coord_ok x)) no_rect
unfolding no_rect coord_ok within_of le neg round
no_rect_ok = (tt, tt, tt, tt)

-- the rectangle is the one reckoned from the list of looks
pub rect_of_looks : {A : Type 0} (o : Oracle) (t : Tree A) → (exec o no_rect t).rect ≡ rect_from no_rect (looks o t)
rect_of_looks o t = rw (exec_is o no_rect t)

-- it holds every spot looked at
pub holds_every_look : {A : Type 0} (o : Oracle) (t : Tree A) → All (λ s. Within (exec o no_rect t).rect s.x s.z) (looks o t)
holds_every_look o t = rw (rect_of_looks o t) (spots_within no_rect (looks o t) unseen (looks_fin o t))

-- it lies within every rectangle that holds every spot looked at, where there was a look
pub least_rectangle : {A : Type 0} (o : Oracle) (t : Tree A) (q : Rect) {s : Spot} {l : List Spot} → looks o t ≡ s ∷ l
    → All (λ s. Within q s.x s.z) (looks o t) → Inside (exec o no_rect t).rect q
least_rectangle o t q {s} {l} e h = rw (rect_of_looks o t, e) (least no_rect q s l unseen (rw e at h))

-- with no look it is all +0
pub no_look_zero : {A : Type 0} (o : Oracle) (t : Tree A) → looks o t ≡ [] → (exec o no_rect t).rect ≡ no_rect
unfolding rect_from
no_look_zero o t e = rw (rect_of_looks o t, e)

-- each edge passes the test of a spot: finite, of magnitude at most 1,000,000
pub edges_ok_lem : {A : Type 0} (o : Oracle) (t : Tree A) → Edges (λ x. T (coord_ok x)) (exec o no_rect t).rect
edges_ok_lem o t = rw (rect_of_looks o t) (edges_have Ok no_rect (looks o t) no_rect_ok (looks_ok o t))

-- a second course that agrees with the first at every spot of doubles within the rectangle that the first run reports gives the same run
pub agree_within : {A : Type 0} (o p : Oracle) (t : Tree A) → AgreeIn o p (exec o no_rect t).rect
    → (exec p no_rect t ≡ exec o no_rect t) × (looks p t ≡ looks o t)
agree_within o p t a = non_interference o p no_rect t unseen a
