-- Lemmas. A test of each number of a range, by `all`.
use Rattle.std.specs.Prelude.{ℕ, zero, suc, ◌+◌, ◌≡◌, refl, Bool, ◌&&◌}
use Rattle.std.proofs.Math.Path.{ap}
use Rattle.std.specs.List.{range_with_len, list_all}
use Rattle.sheet.specs.Sheet.{all}

pub all_range : (p : ℕ → Bool) (n i : ℕ) → list_all p (range_with_len i n) ≡ all p n i
unfolding all
all_range p zero i = refl
all_range p (suc n) i = ap (λ (b : Bool). p i && b) (all_range p n (i + 1))
