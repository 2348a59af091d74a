-- Contracts of inner functions. The guess of a root, as `guess` makes and tests it. No root depends on it: what fails the test is worked out digit by digit.
use Rattle.std.specs.Prelude.{ℕ, ◌+◌, ◌-◌, ◌*◌, ◌/◌, ◌%◌, ◌^◌, Bool, false, ◌&&◌, cond, leb, ltb, eqb, Float}
use Rattle.std.specs.Float.{binary64}
use Rattle.std.specs.Float.Ieee.{ne, of_bits, to_bits}
use Rattle.number.specs.Ops.{◌⊕◌, ◌⊖◌, ◌⊗◌, dec}

-- s without its last 27 digits
unfoldable pub cut_of : Float → Float
cut_of s = of_bits binary64 (to_bits binary64 s / 134217728 * 134217728)

-- a better estimate of the root of x, from a first one, s = 2 hf q, and y, near 1 / (2 root x)
unfoldable pub bettered : Float → Float → Float → Float → Float → Float
bettered x s hf q y = let sh = cut_of s in sh ⊕ (sh ⊗ sh ⊖ x) ⊗ y ⊗ ((hf ⊗ q ⊗ y ⊖ dec 175 100) ⊕ sh ⊗ y)

-- the estimate of the root of x, of which b are the bits
unfoldable pub estimate_of : Float → ℕ → Float
estimate_of x b =
    let y0 = of_bits binary64 ((13823763871841648640 - b) / 2) in
    let t = x ⊗ dec 3149496573049748 10000000000000000 ⊗ y0 ⊗ y0 in
    let f = dec 1260772897610097 1000000000000000 ⊖ t in
    let q = t ⊗ (t ⊖ dec 8359733378808787 10000000000000000) ⊕ dec 6896020179381465 10000000000000000 in
    let hf = x ⊗ y0 ⊗ f in
    let s = (hf ⊕ hf) ⊗ q in
    cond (ne s s) s (bettered x s hf q (y0 ⊗ f ⊗ q))

-- the test that r is the whole number nearest the root of m * 2 ^ 52
unfoldable pub is_near : ℕ → ℕ → Bool
is_near m r =
    let a = r / 2097152 in
    let n = m * 1024 + 1024 in
    let h = (n - a * a) * 2097152 in
    let l = r % 2097152 * 2 + 1 in
    let p = a * l + l * l / 8388608 + 2147483648 in
    cond (ltb n (a * a)) false (cond (leb (a * 4) (n - a * a)) false (cond (ltb p h) false (ltb (p - h) (a * 2))))

-- the test that w are the bits of the root of the double with the bits b
unfoldable pub is_sure : ℕ → ℕ → Bool
is_sure b w =
    let v = b + 4607182418800017408 in
    let m = (4503599627370496 + v % 4503599627370496) * 2 ^ (v / 4503599627370496 % 2) in
    eqb (w / 4503599627370496) (v / 9007199254740992) && is_near m (w % 4503599627370496 + 4503599627370496)

-- the bits of the estimate where x is a normal double above 0 and they pass their test, else 0
unfoldable pub guess_of : Float → ℕ
guess_of x =
    let b = to_bits binary64 x in
    let w = estimate_of x b in
    cond (ne x x) 0 (cond (ltb b 4503599627370496) 0 (cond (leb 9218868437227405312 b) 0 (cond (ne w w) 0 (cond (is_sure b (to_bits binary64 w)) (to_bits binary64 w) 0))))
