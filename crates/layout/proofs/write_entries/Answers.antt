use Rattle.std.proofs.Common.{ℕ, List, arith, add-one, sym, ap, subst, length, take, take_all, append-nil, append_assoc, ◌+◌, ◌≡◌, ◌≤◌, ◌++◌, ◌∙◌}
use lib.Ieee.{Float}
use lib.ListN.{get_or}
use Rattle.board.specs.declared.Entry.{Entry}
use Rattle.board.specs.Inner.{none}
use Rattle.fields.specs.Fields.{written}
use Rattle.fields.proofs.Written.{take_written, length_written}
use Rattle.layout.specs.Layout.{width, start, board_length, entry_fields, entries_fields}
use Rattle.layout.proofs.write_entries.Goals as goal

-- one entry more
next : (l₀ l m : List Float) (es : List Entry) (i : ℕ) → i + 1 ≤ 256 → length l ≡ board_length → take (start i) l ≡ take 3 l₀ ++ entries_fields es i
    → m ≡ written l (start i) (entry_fields (get_or es i none))
    → (length m ≡ board_length) × (take (start (i + 1)) m ≡ take 3 l₀ ++ entries_fields es (i + 1))
unfolding entries_fields
next l₀ l m es i b h t e =
    let r = entry_fields (get_or es i none) in
    let f : start i + width ≤ length l = omega arith in
    let k : start (i + 1) ≡ start i + width = omega arith in (
      ap length e ∙ length_written l (start i) r f ∙ h,
      ap (take (start (i + 1))) e ∙ ap (λ (n : ℕ). take n (written l (start i) r)) k ∙ take_written l (start i) r f
          ∙ ap (λ (x : List Float). x ++ r) t ∙ append_assoc (take 3 l₀) (entries_fields es i) r ∙ rw add-one,
    )

pub loop-i-init : goal.loop-i-init
unfolding entries_fields
loop-i-init c = (c.told-out, sym (append-nil _))

pub loop-i-preserved : goal.loop-i-preserved
loop-i-preserved c =
    let b : c.loop-i.i + 1 ≤ 256 = omega arith in
    next c.args.out.now _ _ c.args.entries.now _ b c.loop-i.invariant.0 c.loop-i.invariant.1 (rw (c.put.ensures, c.entry_numbers.ensures))

pub returns : goal.returns
returns c =
    let e : c.loop-i.i ≡ 256 = omega arith in
    let h : length c.loop-i.out ≤ board_length = omega arith in
    sym (take_all board_length _ h)
    ∙ subst (λ (n : ℕ). take (start n) c.loop-i.out ≡ take 3 c.args.out.now ++ entries_fields c.args.entries.now n) e c.loop-i.invariant.1
