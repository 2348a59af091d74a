-- Statements. What 01 promises of a refused call. What it promises of every settle stands in proofs/Promises.
use Rattle.std.specs.Prelude.{ℕ, ◌≤◌, ◌≡◌, List, Float, length, None}
use Rattle.std.proofs.Common.{arith}
use Rattle.std.proofs.Math.Path.{refl}
use borrow.Author.Tests.{ne_eqb}
use Rattle.look.specs.Rect.{no_rect}
use Rattle.shot.specs.declared.Shot.{Shot}
use Rattle.ground.specs.Tests.{refusal_of}
use Rattle.ground.specs.Passed.{refused_by}
use Rattle.ground.specs.Settle.{Result, no_state, settle_of}

module _ (sheet : List ℕ) (shot : Shot) (cs ps : List Float) where
  -- what the call gives; the number of the first test that it fails, or 0
  abbrev pub got : Result
  got = settle_of sheet shot cs ps

  abbrev pub number : ℕ
  number = refusal_of sheet shot (length cs) (length ps)

  -- 01, "Numbers for what was handed in": a refused call answers 1 to 8, and has no termination
  pub refused_answer : (number ≡ 0 → ⊥) → (1 ≤ got.settled.answer) × (got.settled.answer ≤ 8) × (got.settled.termination ≡ None)
  unfolding settle_of
  refused_answer h = let b = refused_by sheet shot (length cs) (length ps) in rw (ne_eqb number 0 h) (omega (arith, h), b, refl)

  -- 01: "zero counts, all-zero (+0) final state and rectangle; lists untouched"
  pub record Refused : Type 0 where
    pub answer : got.settled.answer ≡ number
    pub counts : (got.settled.contacts ≡ 0) × (got.settled.points ≡ 0) × (got.settled.steps ≡ 0) × (got.settled.evaluations ≡ 0)
    pub state : got.settled.rest ≡ no_state
    pub rect : got.settled.rect ≡ no_rect
    pub lists : (got.contacts ≡ cs) × (got.points ≡ ps)

  pub refused_result : (number ≡ 0 → ⊥) → Refused
  unfolding settle_of
  refused_result h =
      let e = ne_eqb number 0 h in
      record { answer = rw e; counts = (rw e, rw e, rw e, rw e); state = rw e; rect = rw e; lists = (rw e, rw e) }
