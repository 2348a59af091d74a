-- Lemmas. Words written one after another. Assumes nothing.
use Rattle.std.specs.Prelude.{ℕ, ◌+◌, ◌-◌, ◌≤◌, ◌≡◌, refl, List, ◌++◌, length, take, drop}
use Rattle.std.proofs.Common.{arith, ap, ◌∙◌, sym, append_assoc, length-append, length-take-le, take_at, drop_at, drop-drop}
use Rattle.std.proofs.Math.Seq.{paste, take-length}
use Rattle.std.proofs.lemmas.List.Edits.{length-paste}
use Rattle.text.specs.Text.{Adds, Puts, Fills, blanks, right_of}

-- one word
pub adds : (l : List ℕ) (o : ℕ) (t : List ℕ) → o + length t ≤ length l → Adds l o t (o + length t) (paste l o t (length t))
adds l o t h =
    record {
      next = refl;
      same = rw take-length (append_assoc (take o l) t (drop (o + length t) l));
      fits = h;
      long = length-paste l o t (length t) h (omega arith);
    }

module _ {l m t : List ℕ} {a b : ℕ} (x : Adds l a t b m) where
  head : length (take a l ++ t) ≡ b
  head = length-append (take a l) t ∙ (let n = x.next in let f = x.fits in let k : a ≤ length l = omega arith in omega (arith, length-take-le a l k))

  split : m ≡ (take a l ++ t) ++ drop b l
  split = x.same ∙ sym (append_assoc (take a l) t (drop b l))

  -- what stands up to the end of a word, and past it
  pub up_to : take b m ≡ take a l ++ t
  up_to = ap (take b) split ∙ take_at (take a l ++ t) (drop b l) b head

  past : (c k : ℕ) → c ≡ b + k → drop c m ≡ drop c l
  past c k e =
      ap (λ (n : ℕ). drop n m) e
      ∙ sym (drop-drop k b m)
      ∙ ap (drop k) (ap (drop b) split ∙ drop_at (take a l ++ t) (drop b l) b head)
      ∙ drop-drop k b l
      ∙ ap (λ (n : ℕ). drop n l) (sym e)

-- a word, then another
pub then : {l m n t u : List ℕ} {a b c : ℕ} → Adds l a t b m → Adds m b u c n → Adds l a (t ++ u) c n
then {l} {m} {n} {t} {u} {a} {b} {c} x y =
    record {
      next = y.next ∙ ap (λ (k : ℕ). k + length u) x.next ∙ (omega (arith, length-append t u));
      same = y.same ∙ ap (λ (z : List ℕ). z ++ (u ++ drop c m)) (up_to x)
          ∙ ap (λ (z : List ℕ). (take a l ++ t) ++ (u ++ z)) (past x c (length u) y.next) ∙ simp append_assoc;
      fits = let f = y.fits in let k = x.long in omega arith;
      long = y.long ∙ x.long;
    }

pub wide : {v w : ℕ} {l t m : List ℕ} {o r : ℕ} → w ≤ v → Puts w l o t r m → Puts v l o t r m
wide h x = record { adds = x.adds; most = let k = x.most in omega arith }

-- a word, then text of at most w bytes
pub before : {w : ℕ} {l m n t u : List ℕ} {a b c : ℕ} → Adds l a t b m → Puts w m b u c n → Puts (length t + w) l a (t ++ u) c n
before {t = t} {u = u} x y = record { adds = then x y.adds; most = let k = y.most in omega (arith, length-append t u) }

-- text of at most w bytes, then a word
pub after : {w : ℕ} {l m n t u : List ℕ} {a b c : ℕ} → Puts w l a t b m → Adds m b u c n → Puts (w + length u) l a (t ++ u) c n
after {t = t} {u = u} x y = record { adds = then x.adds y; most = let k = x.most in omega (arith, length-append t u) }

pub both : {v w : ℕ} {l m n t u : List ℕ} {a b c : ℕ} → Puts w l a t b m → Puts v m b u c n → Puts (w + v) l a (t ++ u) c n
both {t = t} {u = u} x y = record { adds = then x.adds y.adds; most = let k = x.most in let j = y.most in omega (arith, length-append t u) }

-- columns of v and w bytes
pub fills : {v w : ℕ} {l m n t u : List ℕ} {a b c : ℕ} → Fills v l a t b m → Fills w m b u c n → Fills (v + w) l a (t ++ u) c n
fills {t = t} {u = u} x y = record { adds = then x.adds y.adds; wide = let k = x.wide in let j = y.wide in omega (arith, length-append t u) }

-- a column of w bytes ends w places on
pub next : {w : ℕ} {l t m : List ℕ} {o r : ℕ} → Fills w l o t r m → r ≡ o + w
next x = let k = x.wide in let j = x.adds.next in omega arith

-- text at the start
pub starts : {l t m : List ℕ} {r : ℕ} → Adds l 0 t r m → take r m ≡ t
starts x = up_to x

-- spaces, then a word: right-aligned
pub right : {w : ℕ} {l m n t : List ℕ} {a b c : ℕ} → length t ≤ w → Fills (w - length t) l a (blanks (w - length t)) b m
    → Adds m b t c n → Fills w l a (right_of w t) c n
unfolding right_of
right {w} {t = t} h x y = record { adds = then x.adds y; wide = let k = x.wide in omega (arith, length-append (blanks (w - length t)) t) }
