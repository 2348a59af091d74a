use Rattle.std.proofs.Common.{ℕ, ◌≡◌, ◌≤◌, ◌∙◌, List, length, take, subst, arith}
use Rattle.io.specs.Digits.{last_digits, IsDigitCount}
use Rattle.text.specs.Text.{Adds, Puts, decimal_of}
use Rattle.text.proofs.Digits.{fewest, few}
use Rattle.text.proofs.put_number.Goals as goal

number : (xs : List ℕ) (k n : ℕ) {l m : List ℕ} {o r : ℕ} → Adds l o
    (take k xs) r m → take k xs ≡ last_digits 10 k n → IsDigitCount 10 1 n k → k ≤ 20 → k ≡ length (take k xs) → Puts 20 l o (decimal_of n) r m
unfolding decimal_of
number xs k n {l} {m} {o} {r} x e w h s =
    let d = e ∙ fewest 20 k n h w in
    record { adds = subst (λ (t : List ℕ). Adds l o t r m) d x; most = subst (λ (t : List ℕ). length t ≤ 20) d (omega arith) }

pub put-requires : goal.put-requires
put-requires c =
    let d = c.decimal-k in
    let k = few c.args.n d.result c.ranges.n.fits d.ensures.len in
    omega arith

pub returns : goal.returns
returns c =
    let d = c.decimal-k in
    let k = few c.args.n d.result c.ranges.n.fits d.ensures.len in
    number _ d.result c.args.n c.put.ensures d.ensures.digits d.ensures.len k (omega arith)
