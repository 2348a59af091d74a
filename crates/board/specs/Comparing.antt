-- Lemmas. Lawful comparisons, one after another, make a strict order that is total where one of them tells two entries apart.
use Rattle.std.specs.Prelude.{ℕ, ◌≤◌, ◌≡◌, ◌⊎◌, Bool, true, false, not, ◌&&◌, ◌||◌, ltb, eqb}
use Rattle.std.proofs.Common.{arith, ltb→lt, lt→ltb, nltb→le, eqb→eq}
use Rattle.std.proofs.Math.Logic.{inl, inr}
use mathlib.Core.List.{List, [], ◌∷◌}
use Rattle.std.proofs.Math.Dec.{T}
use Rattle.std.specs.Float.Ieee.Fits.{eq→eqb}
use Rattle.board.specs.declared.Entry.{Entry}
use Rattle.board.specs.Rules.{Comparison, by_first, lower}

-- a comparison by some rank, of the entries of which Q holds
pub record Lawful (Q : Entry → Type 0) (c : Comparison) : Type 0 where
  pub asym : (e f : Entry) → Q e → Q f → T (c.less e f) → T (c.less f e) → ⊥
  pub apart : (e f : Entry) → Q e → Q f → T (c.less e f) → T (c.level f e) → ⊥
  pub less_less : (e f g : Entry) → Q e → Q f → Q g → T (c.less e f) → T (c.less f g) → T (c.less e g)
  pub less_level : (e f g : Entry) → Q e → Q f → Q g → T (c.less e f) → T (c.level f g) → T (c.less e g)
  pub level_less : (e f g : Entry) → Q e → Q f → Q g → T (c.level e f) → T (c.less f g) → T (c.less e g)
  pub level_level : (e f g : Entry) → Q e → Q f → Q g → T (c.level e f) → T (c.level f g) → T (c.level e g)
  pub total : (e f : Entry) → Q e → Q f → T (c.less e f) ⊎ (T (c.less f e) ⊎ (T (c.level e f) × T (c.level f e)))

-- the lower of two whole numbers first
pub lower_lawful : (Q : Entry → Type 0) (n : Entry → ℕ) → Lawful Q (lower n)
lower_lawful Q n =
    record {
      asym = λ e f i j h k. let a = ltb→lt (n e) (n f) h in let b = ltb→lt (n f) (n e) k in omega arith;
      apart = λ e f i j h k. let a = ltb→lt (n e) (n f) h in let b = eqb→eq (n f) (n e) k in omega arith;
      less_less = λ e f g i j k h l. let a = ltb→lt (n e) (n f) h in let b = ltb→lt (n f) (n g) l in lt→ltb (n e) (n g) (omega arith);
      less_level = λ e f g i j k h l. let a = ltb→lt (n e) (n f) h in let b = eqb→eq (n f) (n g) l in lt→ltb (n e) (n g) (omega arith);
      level_less = λ e f g i j k h l. let a = eqb→eq (n e) (n f) h in let b = ltb→lt (n f) (n g) l in lt→ltb (n e) (n g) (omega arith);
      level_level = λ e f g i j k h l. let a = eqb→eq (n e) (n f) h in let b = eqb→eq (n f) (n g) l in let c : n e ≡ n g = omega arith in eq→eqb c;
      total = λ e f i j. which (n e) (n f);
    }
  where
    which : (a b : ℕ) → T (ltb a b) ⊎ (T (ltb b a) ⊎ (T (eqb a b) × T (eqb b a)))
    which a b = go (ltb a b) (λ t. t) (nltb→le a b) (ltb b a) (λ t. t) (nltb→le b a)
      where
        go : (s : Bool) → (T s → T (ltb a b)) → (T (not s) → b ≤ a) → (t : Bool) → (T t → T (ltb b a)) → (T (not t) → a ≤ b)
            → T (ltb a b) ⊎ (T (ltb b a) ⊎ (T (eqb a b) × T (eqb b a)))
        go true f u t g v = inl (f tt)
        go false f u true g v = inr (inl (g tt))
        go false f u false g v =
            let p : b ≤ a = u tt in
            let q : a ≤ b = v tt in
            let r : a ≡ b = omega arith in
            let s : b ≡ a = omega arith in
            inr (inr (eq→eqb r, eq→eqb s))

-- ---- one comparison after another
read : (p q r : Bool) → T (p || (q && r)) → T p ⊎ (T q × T r)
read true q r h = inl tt
read false true r h = inr (tt, h)
read false false r h = absurd h

write : (p q r : Bool) → T p ⊎ (T q × T r) → T (p || (q && r))
write true q r h = tt
write false q r (inl h) = absurd h
write false true r (inr h) = h.1
write false false r (inr h) = absurd h.0

module _ (Q : Entry → Type 0) where
  unfoldable pub Laws : List Comparison → Type 0
  Laws [] = Unit
  Laws (c ∷ cs) = Lawful Q c × Laws cs

-- level by each comparison
unfoldable pub Level : List Comparison → Entry → Entry → Type 0
Level [] e f = Unit
Level (c ∷ cs) e f = T (c.level e f) × Level cs e f

module _ (Q : Entry → Type 0) where
  pub first_asym : (cs : List Comparison) → Laws Q cs → (e f : Entry) → Q e → Q f → T (by_first cs e f) → T (by_first cs f e) → ⊥
  unfolding by_first Laws
  first_asym [] l e f i j h k = h
  first_asym (c ∷ cs) l e f i j h k =
      go (first_asym cs l.1 e f i j) (read (c.less e f) (c.level e f) (by_first cs e f) h) (read (c.less f e) (c.level f e) (by_first cs f e) k)
    where
      go : (T (by_first cs e f) → T (by_first cs f e) → ⊥) → T (c.less e f) ⊎ (T (c.level e f) × T (by_first cs e f))
          → T (c.less f e) ⊎ (T (c.level f e) × T (by_first cs f e)) → ⊥
      go r (inl a) (inl b) = l.0.asym e f i j a b
      go r (inl a) (inr b) = l.0.apart e f i j a b.0
      go r (inr a) (inl b) = l.0.apart f e j i b a.0
      go r (inr a) (inr b) = r a.1 b.1

  pub first_trans : (cs : List Comparison) → Laws Q cs → (e f g : Entry) → Q e → Q f → Q g → T (by_first cs e f) → T (by_first cs f g) → T (by_first cs e g)
  unfolding by_first Laws
  first_trans [] l e f g i j k h m = h
  first_trans (c ∷ cs) l e f g i j k h m =
      write (c.less e g) (c.level e g) (by_first cs e g)
      (go (first_trans cs l.1 e f g i j k) (read (c.less e f) (c.level e f) (by_first cs e f) h) (read (c.less f g) (c.level f g) (by_first cs f g) m))
    where
      go : (T (by_first cs e f) → T (by_first cs f g) → T (by_first cs e g)) → T (c.less e f) ⊎ (T (c.level e f) × T (by_first cs e f))
          → T (c.less f g) ⊎ (T (c.level f g) × T (by_first cs f g)) → T (c.less e g) ⊎ (T (c.level e g) × T (by_first cs e g))
      go r (inl a) (inl b) = inl (l.0.less_less e f g i j k a b)
      go r (inl a) (inr b) = inl (l.0.less_level e f g i j k a b.0)
      go r (inr a) (inl b) = inl (l.0.level_less e f g i j k a.0 b)
      go r (inr a) (inr b) = inr (l.0.level_level e f g i j k a.0 b.0, r a.1 b.1)

  pub first_total : (cs : List Comparison) → Laws Q cs → (e f : Entry) → Q e → Q f → T (by_first cs e f) ⊎ (T (by_first cs f e) ⊎ Level cs e f)
  unfolding by_first Laws Level
  first_total [] l e f i j = inr (inr tt)
  first_total (c ∷ cs) l e f i j = go (l.0.total e f i j) (first_total cs l.1 e f i j)
    where
      go : T (c.less e f) ⊎ (T (c.less f e) ⊎ (T (c.level e f) × T (c.level f e))) → T (by_first cs e f) ⊎ (T (by_first cs f e) ⊎ Level cs e f)
          → T (c.less e f || (c.level e f && by_first cs e f)) ⊎ (T (c.less f e || (c.level f e && by_first cs f e)) ⊎ (T (c.level e f) × Level cs e f))
      go (inl a) r = inl (write (c.less e f) (c.level e f) (by_first cs e f) (inl a))
      go (inr (inl a)) r = inr (inl (write (c.less f e) (c.level f e) (by_first cs f e) (inl a)))
      go (inr (inr a)) (inl r) = inl (write (c.less e f) (c.level e f) (by_first cs e f) (inr (a.0, r)))
      go (inr (inr a)) (inr (inl r)) = inr (inl (write (c.less f e) (c.level f e) (by_first cs f e) (inr (a.1, r))))
      go (inr (inr a)) (inr (inr r)) = inr (inr (a.0, r))
