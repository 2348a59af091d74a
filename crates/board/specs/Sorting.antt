-- Lemmas. Insertion sort over any order of the entries of which Q holds that tells distinct shot numbers apart.
use Rattle.std.specs.Prelude.{suc, ◌≡◌, ◌⊎◌, Bool, T, length}
use Rattle.std.proofs.Math.Path.{refl, ap, ap₂}
use Rattle.std.proofs.Common.{◌∙◌, sym, subst, inl, inr}
use Rattle.std.proofs.Math.Bool.{true, false}
use mathlib.Core.List.Permᴰ
use mathlib.Core.List.{List, [], ◌∷◌, Permᴰ}
use Rattle.board.specs.declared.Entry.{Entry}
use Rattle.board.specs.Rules.{insert}
use Rattle.board.specs.Words.{All, Sorted, Distinct, sort}

-- a strict order of the entries of which Q holds, total on those of distinct shot numbers
pub record Order (Q : Entry → Type 0) (p : Entry → Entry → Bool) : Type 0 where
  pub asym : (e f : Entry) → Q e → Q f → p e f ≡ true → p f e ≡ false
  pub trans : (e f g : Entry) → Q e → Q f → Q g → p e f ≡ true → p f g ≡ true → p e g ≡ true
  pub total : (e f : Entry) → Q e → Q f → (e.shot ≡ f.shot → ⊥) → p e f ≡ false → p f e ≡ true

-- ---- a permutation
insert-perm : (q : Entry → Bool) (e : Entry) (l : List Entry) → Permᴰ (insert q e l) (e ∷ l)
unfolding insert
insert-perm q e [] = Permᴰ.refl (e ∷ [])
insert-perm q e (f ∷ l) = go (q f) (insert-perm q e l)
  where
    go : (b : Bool) → Permᴰ (insert q e l) (e ∷ l) → Permᴰ (elim b [ true ↦ e ∷ f ∷ l | false ↦ f ∷ insert q e l ]) (e ∷ f ∷ l)
    go true h = Permᴰ.refl (e ∷ f ∷ l)
    go false h = Permᴰ.trans (Permᴰ.cons refl h) (Permᴰ.swap refl refl)

pub sort_permutes : (p : Entry → Entry → Bool) (l : List Entry) → Permᴰ (sort p l) l
unfolding sort
sort_permutes p [] = Permᴰ.nil
sort_permutes p (e ∷ l) = Permᴰ.trans (insert-perm (p e) e (sort p l)) (Permᴰ.cons refl (sort_permutes p l))

pub insert-length : (q : Entry → Bool) (e : Entry) (l : List Entry) → length (insert q e l) ≡ suc (length l)
unfolding insert
insert-length q e [] = refl
insert-length q e (f ∷ l) = go (q f) (insert-length q e l)
  where
    go : (b : Bool) → length (insert q e l) ≡ suc (length l)
        → length {A = Entry} (elim b [ true ↦ e ∷ f ∷ l | false ↦ f ∷ insert q e l ]) ≡ suc (suc (length l))
    go true h = refl
    go false h = ap suc h

pub length-perm : {l m : List Entry} → Permᴰ l m → length l ≡ length m
length-perm Permᴰ.nil = refl
length-perm (Permᴰ.cons e d) = ap suc (length-perm d)
length-perm (Permᴰ.swap e f) = refl
length-perm (Permᴰ.trans d e) = length-perm d ∙ length-perm e

-- ---- of each entry
module _ (P : Entry → Type 0) where
  pub all_insert : (q : Entry → Bool) (e : Entry) (l : List Entry) → P e → All P l → All P (insert q e l)
  unfolding insert All
  all_insert q e [] h a = (h, tt)
  all_insert q e (f ∷ l) h a = go (q f) (all_insert q e l h a.1)
    where
      go : (b : Bool) → All P (insert q e l) → All P (elim b [ true ↦ e ∷ f ∷ l | false ↦ f ∷ insert q e l ])
      go true k = (h, (a.0, a.1))
      go false k = (a.0, k)

  pub all_map : (R : Entry → Type 0) (l : List Entry) → ((e : Entry) → P e → R e) → All P l → All R l
  unfolding All
  all_map R [] f a = tt
  all_map R (e ∷ l) f a = (f e a.0, all_map R l f a.1)

  all_both : (R : Entry → Type 0) (l : List Entry) → All P l → All R l → All (λ (e : Entry). P e × R e) l
  unfolding All
  all_both R [] a b = tt
  all_both R (e ∷ l) a b = ((a.0, b.0), all_both R l a.1 b.1)

  pub all_perm : {l m : List Entry} → Permᴰ l m → All P l → All P m
  unfolding All
  all_perm Permᴰ.nil a = a
  all_perm (Permᴰ.cons e d) a = (subst P e a.0, all_perm d a.1)
  all_perm (Permᴰ.swap e f) a = (subst P f a.1.0, (subst P e a.0, a.1.1))
  all_perm (Permᴰ.trans d e) a = all_perm e (all_perm d a)

differ : false ≡ true → ⊥
differ h = subst T (sym h) tt

abbrev Other : Entry → Entry → Type 0
Other e f = e.shot ≡ f.shot → ⊥

pub distinct_perm : {l m : List Entry} → Permᴰ l m → Distinct l → Distinct m
unfolding Distinct All
distinct_perm Permᴰ.nil h = h
distinct_perm (Permᴰ.cons {b = b} {l₁ = l} e d) h = (all_perm (Other b) d (subst (λ (x : Entry). All (Other x) l) e h.0), distinct_perm d h.1)
distinct_perm (Permᴰ.swap {l = l} e f) h = (
  (λ q. h.0.0 (ap (λ (x : Entry). x.shot) e ∙ sym q ∙ ap (λ (x : Entry). x.shot) (sym f)), subst (λ (x : Entry). All (Other x) l) f h.1.0),
  (subst (λ (x : Entry). All (Other x) l) e h.0.1, h.1.1),
)
distinct_perm (Permᴰ.trans d e) h = distinct_perm e (distinct_perm d h)

-- where an entry is put
module _ (q : Entry → Bool) (e : Entry) where
  alone : insert q e [] ≡ e ∷ []
  unfolding insert
  alone = refl

  put : (f : Entry) (l : List Entry) → q f ≡ true → insert q e (f ∷ l) ≡ e ∷ f ∷ l
  unfolding insert
  put f l h = ap (λ (b : Bool). elim b [ true ↦ e ∷ f ∷ l | false ↦ f ∷ insert q e l ]) h

  pass : (f : Entry) (l : List Entry) → q f ≡ false → insert q e (f ∷ l) ≡ f ∷ insert q e l
  unfolding insert
  pass f l h = ap (λ (b : Bool). elim b [ true ↦ e ∷ f ∷ l | false ↦ f ∷ insert q e l ]) h

module _ (Q : Entry → Type 0) (p : Entry → Entry → Bool) (o : Order Q p) where
  -- ---- sorted

  -- before f, and so before all that come after f
  far : (e f g : Entry) → Q e → Q f → Q g → p e f ≡ true → p g f ≡ false → p g e ≡ false
  far e f g qe qf qg h k = go (p g e) refl
    where
      go : (b : Bool) → p g e ≡ b → b ≡ false
      go false i = refl
      go true i = sym (sym k ∙ o.trans g e f qg qe qf i h)

  insert_sorted : (e : Entry) (l : List Entry) → Q e → All Q l → Sorted p l → Sorted p (insert (p e) e l)
  unfolding insert Sorted All
  insert_sorted e [] q a s = (tt, tt)
  insert_sorted e (f ∷ l) q a s = go (p e f) refl (insert_sorted e l q a.1 s.1)
    where
      after : p e f ≡ true → All (λ (g : Entry). p g e ≡ false) l
      after h =
          all_map (λ (g : Entry). Q g × (p g f ≡ false)) (λ (g : Entry). p g e ≡ false) l (λ g w. far e f g q a.0 w.0 h w.1)
          (all_both Q (λ (g : Entry). p g f ≡ false) l a.1 s.0)

      go : (b : Bool) → p e f ≡ b → Sorted p (insert (p e) e l) → Sorted p (elim b [ true ↦ e ∷ f ∷ l | false ↦ f ∷ insert (p e) e l ])
      go true h k = ((o.asym e f q a.0 h, after h), s)
      go false h k = (all_insert (λ (g : Entry). p g f ≡ false) (p e) e l h s.0, k)

  pub sort_sorts : (l : List Entry) → All Q l → Sorted p (sort p l)
  unfolding sort Sorted All
  sort_sorts [] a = tt
  sort_sorts (e ∷ l) a =
      insert_sorted e (sort p l) a.0 (all_perm Q (Permᴰ.symm (sort_permutes p l)) a.1) (sort_sorts l a.1)

  -- ---- lists that permute each other sort alike

  either : (e f : Entry) → Q e → Q f → Other e f → ((p e f ≡ true) × (p f e ≡ false)) ⊎ ((p e f ≡ false) × (p f e ≡ true))
  either e f i j d = go (p e f) refl
    where
      go : (b : Bool) → p e f ≡ b → ((p e f ≡ true) × (p f e ≡ false)) ⊎ ((p e f ≡ false) × (p f e ≡ true))
      go true h = inl (h, o.asym e f i j h)
      go false h = inr (h, o.total e f i j d h)

  insert_swap : (e f : Entry) → Q e → Q f → Other e f → (l : List Entry) → All Q l → insert (p e) e (insert (p f) f l) ≡ insert (p f) f (insert (p e) e l)
  unfolding All
  insert_swap e f i j d [] a = go (either e f i j d)
    where
      go : ((p e f ≡ true) × (p f e ≡ false)) ⊎ ((p e f ≡ false) × (p f e ≡ true)) → insert (p e) e (insert (p f) f []) ≡ insert (p f) f (insert (p e) e [])
      go (inl h) = rw (alone (p f) f, alone (p e) e, put (p e) e f [] h.0, pass (p f) f e [] h.1, alone (p f) f)
      go (inr h) = rw (alone (p f) f, alone (p e) e, pass (p e) e f [] h.0, alone (p e) e, put (p f) f e [] h.1)
  insert_swap e f i j d (g ∷ l) a = go (either e f i j d) (p e g) refl (p f g) refl (insert_swap e f i j d l a.1)
    where
      go : ((p e f ≡ true) × (p f e ≡ false)) ⊎ ((p e f ≡ false) × (p f e ≡ true)) → (s : Bool) → p e g ≡ s → (t : Bool) → p f g ≡ t
          → insert (p e) e (insert (p f) f l) ≡ insert (p f) f (insert (p e) e l)
          → insert (p e) e (insert (p f) f (g ∷ l)) ≡ insert (p f) f (insert (p e) e (g ∷ l))
      go (inl h) true s true t r = rw (put (p f) f g l t, put (p e) e g l s, put (p e) e f (g ∷ l) h.0, pass (p f) f e (g ∷ l) h.1, put (p f) f g l t)
      go (inr h) true s true t r = rw (put (p f) f g l t, put (p e) e g l s, pass (p e) e f (g ∷ l) h.0, put (p e) e g l s, put (p f) f e (g ∷ l) h.1)
      go (inl h) true s false t r =
          rw (pass (p f) f g l t, put (p e) e g l s, put (p e) e g (insert (p f) f l) s, pass (p f) f e (g ∷ l) h.1, pass (p f) f g l t)
      go (inr h) true s false t r = absurd (differ (sym t ∙ o.trans f e g j i a.0 h.1 s))
      go (inl h) false s true t r = absurd (differ (sym s ∙ o.trans e f g i j a.0 h.0 t))
      go (inr h) false s true t r =
          rw (put (p f) f g l t, pass (p e) e g l s, pass (p e) e f (g ∷ l) h.0, pass (p e) e g l s, put (p f) f g (insert (p e) e l) t)
      go w false s false t r =
          rw (pass (p f) f g l t, pass (p e) e g l s, pass (p e) e g (insert (p f) f l) s, pass (p f) f g (insert (p e) e l) t, r)

  pub sort_alike : {l m : List Entry} → Permᴰ l m → All Q l → Distinct l → sort p l ≡ sort p m
  unfolding sort All Distinct
  sort_alike Permᴰ.nil a d = refl
  sort_alike (Permᴰ.cons e r) a d = ap₂ (λ (x : Entry) (s : List Entry). insert (p x) x s) e (sort_alike r a.1 d.1)
  sort_alike (Permᴰ.swap {a = x} {b = y} {l = l} e f) a d =
      insert_swap x y a.0 a.1.0 d.0.0 (sort p l) (all_perm Q (Permᴰ.symm (sort_permutes p l)) a.1.1)
      ∙ ap₂ (λ (u v : Entry). insert (p u) u (insert (p v) v (sort p l))) f e
  sort_alike (Permᴰ.trans r s) a d = sort_alike r a d ∙ sort_alike s (all_perm Q r a) (distinct_perm r d)
