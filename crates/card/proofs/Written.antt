-- What the parts of a line give, over plain values. Assumes nothing.
use Prim.Native.Nat.{ℕ, ◌+◌, ◌-◌, ◌*◌, ◌≤◌}
use native.Mathlib.Omega.{arith}
use native.Mathlib.Numerals.{add-one}
use mathlib.Core.Path.{◌≡◌, refl, ◌∙◌, sym, subst}
use mathlib.Core.Bool.{◌&&◌, false}
use mathlib.Core.List.{List, ◌++◌}
use lib.Dec.{ltb}
use lib.ListN.{length, length-append, take-append-drop}
use lib.Ieee.{Float, lt, of_bits, round, binary64}
use Rattle.number.specs.Ops.{dec}
use Rattle.std.specs.Prelude.{Option}
use Rattle.state.specs.declared.Termination.{Termination}
use Rattle.fields.specs.Fields.{double_at}
use Rattle.rounding.specs.Rounded.{rounded_of}
use Rattle.text.specs.Text.{Adds, Puts, Fills, blanks, signed_of, right_of, word_of}
use Rattle.text.specs.Laws.{then, fills}
use Rattle.card.specs.Card.{value_of, place_at, line_end, heading_line, contact_at, lines_of}

-- ---- a value

zero : of_bits binary64 0 ≡ dec 0 1
unfolding of_bits round
zero = refl

pub value_is : (k : ℕ) (x : Float) {n : ℕ} → n ≡ rounded_of k x → signed_of (lt x (of_bits binary64 0) && ltb 0 n) n ≡ value_of k x
unfolding value_of
value_is k x e = rw (e, zero)

pub value_put : (k : ℕ) (x : Float) {n w o r : ℕ} {l m : List ℕ} → n ≡ rounded_of k x
    → Fills w l o (right_of w (signed_of (lt x (of_bits binary64 0) && ltb 0 n) n)) r m → Fills w l o (right_of w (value_of k x)) r m
value_put k x {w = w} {o} {r} {l} {m} e f = subst (λ (t : List ℕ). Fills w l o (right_of w t) r m) (value_is k x e) f

-- ---- lines

pub heading_put : (t : Option Termination) {l m n p : List ℕ} {k j r : ℕ} → Puts 7 l 0 (word_of t) k m → Fills (59 - k) m k (blanks (59 - k)) j n
    → Adds n j line_end r p
    → Fills 60 l 0 (heading_line t) r p
unfolding heading_line
heading_put t {l} {m} {n} {p} {k} {j} {r} x y z =
    let e : k ≡ length (word_of t) = let i = x.adds.next in omega arith in
    let h = x.most in
    let w = y.wide in
    let a : Adds l 0 ((word_of t ++ blanks (59 - k)) ++ line_end) r p = then (then x.adds y.adds) z in
    let u : length ((word_of t ++ blanks (59 - k)) ++ line_end) ≡ 60 =
    omega (arith, length-append (word_of t ++ blanks (59 - k)) line_end, length-append (word_of t) (blanks (59 - k))) in
    subst (λ (q : ℕ). Fills 60 l 0 ((word_of t ++ blanks (59 - q)) ++ line_end) r p) e (record { adds = a; wide = u })

pub place_put : (cs : List Float) (o : ℕ) {l m n p : List ℕ} {a b c d : ℕ} → Fills 14 l a (right_of 14 (value_of 100 (double_at cs (o + 1)))) b m
    → Fills 14 m b (right_of 14 (value_of 100 (double_at cs (o + 2)))) c n → Fills 14 n c (right_of 14 (value_of 100 (double_at cs (o + 3)))) d p
    → Fills 42 l a (place_at cs o) d p
unfolding place_at
place_put cs o x y z = fills (fills x y) z

pub contact_put : (cs : List Float) (i : ℕ) {l m n p q : List ℕ} {a b c d e : ℕ} → Fills 4 l a (right_of 4 (signed_of false (i + 1))) b m
    → Fills 11 m b (right_of 11 (value_of 1000 (double_at cs (20 * i)))) c n → Fills 42 n c (place_at cs (20 * i)) d p → Adds p d (blanks 2 ++ line_end) e q
    → Fills 60 l a (contact_at cs i) e q
unfolding contact_at signed_of
contact_put cs i x y z w = fills (fills (fills x y) z) (record { adds = w; wide = refl })

pub lines_none : (cs : List Float) (l : List ℕ) (o : ℕ) → o ≤ length l → Fills (60 * 0) l o (lines_of cs 0) o l
unfolding lines_of
lines_none cs l o h = record { adds = record { next = omega arith; same = sym (take-append-drop o l); fits = h; long = refl }; wide = refl }

pub lines_more : (cs : List Float) (i : ℕ) {l m n : List ℕ} {a b c : ℕ} → Fills (60 * i) l a (lines_of cs i) b m → Fills 60 m b (contact_at cs i) c n
    → Fills (60 * (i + 1)) l a (lines_of cs (i + 1)) c n
unfolding lines_of
lines_more cs i {l} {m} {n} {a} {b} {c} x y =
    let e : 60 * i + 60 ≡ 60 * (i + 1) = omega arith in
    rw add-one (subst (λ (w : ℕ). Fills w l a (lines_of cs i ++ contact_at cs i) c n) (e ∙ rw add-one) (fills x y))
