-- Words, doubles and sums one after another. Assumes nothing.
use Rattle.std.proofs.Common.{◌≡◌, ℕ, zero, suc, ◌+◌, ◌*◌, ◌%◌, ◌^◌, ◌<◌, ◌≤◌, Bool, true, false, not, ◌&&◌, eqb, List, [], ◌∷◌, ◌++◌, map, length, get_or}
use Rattle.std.proofs.Common.{take, drop, replicate, sym, refl, ap, ◌∙◌, le_of_suc-le-suc, not-suc-le-zero, add-zero, add_assoc, add-one, arith, drop-cons}
use mathlib.Core.Bool.{and_assoc}
use lib.Ieee.{Float, nan, is_nan}
use Rattle.ground.specs.Settle.{Result, Settled, result_of}
use Rattle.input.specs.Input.{whole_at}
use Rattle.input.proofs.Head.{whole_of_head}
use Rattle.replaying.specs.declared.Sums.{Sums}
use Rattle.replaying.specs.Replaying.{bits_of, sums_of, count_words, doubles_of, sum_words, words_of, holds, no_nan, same_of}

-- ---- tests in another order

exchange : (a b c d : Bool) → (a && b) && (c && d) ≡ (a && c) && (b && d)
exchange true true c d = refl
exchange true false true d = refl
exchange true false false d = refl
exchange false b c d = refl

gather : (c n m l : Bool) → (c && (n && m)) && l ≡ n && (c && (m && l))
gather true true m l = refl
gather true false m l = refl
gather false true m l = refl
gather false false m l = refl

-- ---- words

pub holds_next : (e : List ℕ) (i : ℕ) (ws : List ℕ) (k : ℕ) → k < length ws
    → holds e (i + k) (drop k ws) ≡ eqb (get_or ws k 0) (whole_at e (i + k)) && holds e (i + (k + 1)) (drop (k + 1) ws)
unfolding holds
holds_next e i ws k h = rw (drop-cons ws k 0 h, add_assoc i k 1, add-one k)

holds_append : (e : List ℕ) (i : ℕ) (xs ys : List ℕ) → holds e i (xs ++ ys) ≡ holds e i xs && holds e (i + length xs) ys
unfolding holds
holds_append e i [] ys = rw add-zero
holds_append e i (x ∷ xs) ys =
    let n : i + 1 + length xs ≡ i + suc (length xs) = omega arith in
    rw (holds_append e (i + 1) xs ys, n) (sym (and_assoc (eqb x (whole_at e i)) (holds e (i + 1) xs) (holds e (i + suc (length xs)) ys)))

-- words that stand in the first bytes of an entry
holds_of_head : (h : ℕ) (e : List ℕ) (i : ℕ) (ws : List ℕ) → 8 * (i + length ws) ≤ h → holds (take h e) i ws ≡ holds e i ws
unfolding holds
holds_of_head h e i [] l = refl
holds_of_head h e i (w ∷ ws) l = rw (whole_of_head h i e (omega arith), holds_of_head h e (i + 1) ws (omega arith))

pub same_of_head : (e : List ℕ) (r : Result) → same_of (take 200 e) r ≡ same_of e r
unfolding same_of words_of
same_of_head e r = rw (holds_of_head 200 e 3 (words_of r) (omega arith))

-- ---- doubles

abbrev pub Agrees : List ℕ → ℕ → List Float → Bool
Agrees e i vs = no_nan vs && holds e i (map bits_of vs)

pub agrees_next : (e : List ℕ) (i : ℕ) (vs : List Float) (k : ℕ) → k < length vs
    → Agrees e (i + k) (drop k vs) ≡ (not (is_nan (get_or vs k nan)) && eqb (bits_of (get_or vs k nan)) (whole_at e (i + k))) && Agrees e (i + (k + 1))
    (drop (k + 1) vs)
unfolding holds no_nan
agrees_next e i vs k h =
    rw (drop-cons vs k nan h, add_assoc i k 1, add-one k)
    (exchange (not (is_nan (get_or vs k nan))) (no_nan (drop (suc k) vs)) (eqb (bits_of (get_or vs k nan)) (whole_at e (i + k)))
    (holds e (i + suc k) (map bits_of (drop (suc k) vs))))

pub agrees_append : (e : List ℕ) (i : ℕ) (xs ys : List Float) → Agrees e i (xs ++ ys) ≡ Agrees e i xs && Agrees e (i + length xs) ys
unfolding holds no_nan
agrees_append e i [] ys = rw add-zero
agrees_append e i (x ∷ xs) ys =
    let n : i + 1 + length xs ≡ i + suc (length xs) = omega arith in
    let a = not (is_nan x) in
    let b = eqb (bits_of x) (whole_at e i) in
    exchange a (no_nan (xs ++ ys)) b (holds e (i + 1) (map bits_of (xs ++ ys)))
    ∙ ap (λ (t : Bool). (a && b) && t) (agrees_append e (i + 1) xs ys ∙ ap (λ (k : ℕ). Agrees e (i + 1) xs && Agrees e k ys) n)
    ∙ sym (and_assoc (a && b) (Agrees e (i + 1) xs) (Agrees e (i + suc (length xs)) ys))
    ∙ ap (λ (t : Bool). t && Agrees e (i + suc (length xs)) ys) (sym (exchange a (no_nan xs) b (holds e (i + 1) (map bits_of xs))))

-- ---- sums

pub sums_next : (s : Sums) (vs : List Float) (k : ℕ) {a b : ℕ} → k < length vs → a ≡ (s.a + bits_of (get_or vs k nan)) % 2 ^ 64 → b ≡ (s.b + a) % 2 ^ 64
    → sums_of s (drop k vs) ≡ sums_of (record { a = a; b = b }) (drop (k + 1) vs)
unfolding sums_of
sums_next s vs k h p q = rw (drop-cons vs k nan h, add-one k, q, p)

pub sums-append : (s : Sums) (xs ys : List Float) → sums_of s (xs ++ ys) ≡ sums_of (sums_of s xs) ys
unfolding sums_of
sums-append s [] ys = refl
sums-append s (x ∷ xs) ys =
    sums-append (record { a = (s.a + bits_of x) % 2 ^ 64; b = (s.b + (s.a + bits_of x) % 2 ^ 64) % 2 ^ 64 }) xs ys

-- ---- the three parts of the comparison are the whole

pub joined : (e : List ℕ) (s : Settled) (cs ps : List Float)
    → (holds e 3 (count_words s) && Agrees e 9 (doubles_of s)) && holds e 23 (sum_words cs ps) ≡ same_of e (result_of s cs ps)
unfolding same_of words_of
joined e s cs ps =
    gather (holds e 3 (count_words s)) (no_nan (doubles_of s)) (holds e 9 (map bits_of (doubles_of s))) (holds e 23 (sum_words cs ps))
    ∙ ap (λ (b : Bool). no_nan (doubles_of s) && b)
    (sym (holds_append e 3 (count_words s) (map bits_of (doubles_of s) ++ sum_words cs ps)
    ∙ ap (λ (b : Bool). holds e 3 (count_words s) && b) (holds_append e 9 (map bits_of (doubles_of s)) (sum_words cs ps))))

-- ---- a part of a list of one value

pub take_replicate : {A : Type 0} (k n : ℕ) (a : A) → k ≤ n → take k (replicate n a) ≡ replicate k a
take_replicate zero n a h = refl
take_replicate (suc k) zero a h = absurd (not-suc-le-zero h)
take_replicate {A} (suc k) (suc n) a h = ap {B = List A} (λ r. a ∷ r) (take_replicate k n a (le_of_suc-le-suc h))
