use Rattle.std.proofs.Common.{arith, ◌≡◌, ℕ, ◌+◌, ◌*◌, ◌-◌, ◌≤◌, Bool, cond, List, length, take, drop, replicate, sym, refl, ap, ◌∙◌, ap₂, eq-eqb, ne_eqb}
use Rattle.std.proofs.Common.{le-leb}
use lib.Ieee.{Float, binary64, of_bits, round}
use borrow.Author.Tests.{lt-leb}
use Rattle.number.specs.Ops.{dec}
use Rattle.input.specs.Input.{whole_at, settle_input_of}
use Rattle.replaying.specs.declared.Replayed.TheVariants.{Same, Differs}
use Rattle.replaying.specs.Replaying.{same_of, intact, replayed_of}
use Rattle.input.proofs.Head.{whole_of_head}
use Rattle.replaying.proofs.Laws.{same_of_head, take_replicate}
use Rattle.replaying.proofs.replay_entry.Goals.{then-c-gt1300-via-then-c-gt1300, then-c-gt1300-via-else-c-gt1300+then-p-gt7692}
use Rattle.replaying.proofs.replay_entry.Goals as goal

is_one : of_bits binary64 4607182418800017408 ≡ dec 1 1
unfolding of_bits round
is_one = refl

-- a word of the first 200 bytes
read : (e : List ℕ) {h : List ℕ} {n : ℕ} (i : ℕ) → h ≡ take 200 e → 8 * i + 8 ≤ 200 → n ≡ whole_at h i → n ≡ whole_at e i
read e i p l k = k ∙ rw p (whole_of_head 200 i e l)

module _ (e : List ℕ) (c p : ℕ) where
  abbrev outcome : List Float → List Float → Bool
  outcome cs ps = same_of e (settle_input_of (drop 200 e) cs ps)

  -- the parts of longer lists are lent
  replays : {b : Bool} (rc rp : ℕ) → 200 ≤ length e → whole_at e 0 ≡ length e - 200 → c ≡ whole_at e 1 → p ≡ whole_at e 2 → c ≤ rc → p ≤ rp
      → c ≤ 1300 → p ≤ 7692
      → b ≡ outcome (take c (replicate rc (of_bits binary64 4607182418800017408))) (take p (replicate rp (of_bits binary64 4607182418800017408)))
      → cond b Same Differs ≡ replayed_of e
  unfolding replayed_of intact
  replays {b} rc rp h z x y k l i j t =
      let u : b ≡ outcome (replicate c (dec 1 1)) (replicate p (dec 1 1)) =
      t ∙ ap₂ outcome (take_replicate c rc _ k ∙ ap (replicate c) is_one) (take_replicate p rp _ l ∙ ap (replicate p) is_one) in
      rw (le-leb 200 _ h, eq-eqb _ _ z, ← x, ← y, le-leb c 1300 i, le-leb p 7692 j, u)

pub returns-in_default : goal.returns-in_default
unfolding replayed_of intact
returns-in_default c = rw (lt-leb 200 _ (c.in_default.ensures.cases))

pub returns-then-whole-input : goal.returns-then-whole-input
unfolding replayed_of intact
returns-then-whole-input c =
    let e = c.args.entry.now in
    let p = c.in-Some.ensures.cases in
    let z : c.whole.result ≡ whole_at e 0 = read e 0 p.0 (omega arith) c.whole.ensures in
    rw (le-leb 200 (length e) (omega arith), ← z, ne_eqb c.whole.result (length e - 200) (λ q. c.if-whole-input.true (omega arith)))

pub returns-then-c-gt1300 : goal.returns-then-c-gt1300
unfolding replayed_of intact
returns-then-c-gt1300 c =
    let e = c.args.entry.now in
    let p = c.in-Some.ensures.cases in
    let z : c.whole.result ≡ whole_at e 0 = read e 0 p.0 (omega arith) c.whole.ensures in
    let x : c.whole-c.result ≡ whole_at e 1 = read e 1 p.0 (omega arith) c.whole-c.ensures in
    let y : c.whole-p.result ≡ whole_at e 2 = read e 2 p.0 (omega arith) c.whole-p.ensures in
    rw (le-leb 200 (length e) (omega arith), ← z, eq-eqb c.whole.result (length e - 200) (omega arith), ← x, ← y)
    (elim c.then-c-gt1300.branch [
      | then-c-gt1300-via-then-c-gt1300 w ↦ rw (lt-leb _ 1300 w.if-c-gt1300.true)
      | then-c-gt1300-via-else-c-gt1300+then-p-gt7692 w ↦ rw (le-leb _ 1300 w.if-c-gt1300.false, lt-leb _ 7692 w.if-p-gt7692.true)
    ])

pub returns-then-gives_same : goal.returns-then-gives_same
returns-then-gives_same c =
    let e = c.args.entry.now in
    let p = c.in-Some.ensures.cases in
    let z : c.whole.result ≡ whole_at e 0 = read e 0 p.0 (omega arith) c.whole.ensures in
    let x : c.whole-c.result ≡ whole_at e 1 = read e 1 p.0 (omega arith) c.whole-c.ensures in
    let y : c.whole-p.result ≡ whole_at e 2 = read e 2 p.0 (omega arith) c.whole-p.ensures in
    let i = c.if-c-gt1300.false in
    let j = c.if-p-gt7692.false in
    ap (λ (b : Bool). cond b Same Differs) (sym c.if-gives_same.true)
    ∙ replays e _ _ 1300 7692 (omega arith) (omega arith) x y i j i j (rw (p.0, p.1, same_of_head) at c.gives_same.ensures)

pub returns-else-gives_same : goal.returns-else-gives_same
returns-else-gives_same c =
    let e = c.args.entry.now in
    let p = c.in-Some.ensures.cases in
    let z : c.whole.result ≡ whole_at e 0 = read e 0 p.0 (omega arith) c.whole.ensures in
    let x : c.whole-c.result ≡ whole_at e 1 = read e 1 p.0 (omega arith) c.whole-c.ensures in
    let y : c.whole-p.result ≡ whole_at e 2 = read e 2 p.0 (omega arith) c.whole-p.ensures in
    let i = c.if-c-gt1300.false in
    let j = c.if-p-gt7692.false in
    ap (λ (b : Bool). cond b Same Differs) (sym c.if-gives_same.false)
    ∙ replays e _ _ 1300 7692 (omega arith) (omega arith) x y i j i j (rw (p.0, p.1, same_of_head) at c.gives_same.ensures)
