-- Numbers from bytes.
use Prim.Native.Nat.{ℕ, ◌+◌, ◌*◌}
use native.Mathlib.Nat.{add-zero, add_assoc}
use native.Mathlib.Omega.{arith}
use mathlib.Core.Path.{◌≡◌}
use mathlib.Core.List.{List}
use lib.ListN.{get_or}
use Rattle.octets.specs.Octets.{little}

pub half_of : (s : List ℕ) (o : ℕ) → little 4 s o ≡ (get_or s o 0 + 256 * get_or s (o + 1) 0) + 65536 * (get_or s (o + 2) 0 + 256 * get_or s (o + 3) 0)
unfolding little
half_of s o = simp add-zero (omega arith)

pub word_of : (s : List ℕ) (o : ℕ)
    → little 8 s o ≡ (little 4 s o + 4294967296 * (get_or s (o + 4) 0 + 256 * get_or s (o + 5) 0)) + 281474976710656 * (get_or s
    (o + 6) 0 + 256 * get_or s (o + 7) 0)
unfolding little
word_of s o = simp (add_assoc, add-zero) (omega arith)
