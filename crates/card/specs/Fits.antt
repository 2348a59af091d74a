-- Statements. Of every finished run the card's lines are 60 bytes long: times and places are of magnitude at most 1,000,000 and there are at most 64 contacts
-- (crate promises), so that no text is wider than its column.
use Prim.Native.Nat.{ℕ, zero, suc, ◌+◌, ◌*◌, ◌≤◌, ◌<◌}
use Rattle.std.proofs.Common.{arith, zero-add, ap, ◌∙◌, sym, get_or-append-add}
use Rattle.std.specs.Prelude.{◌≡◌, Bool, ◌&&◌, T, Float}
use Rattle.std.proofs.Math.Path.{refl, subst}
use Rattle.std.proofs.Math.Bool.{true, false}
use mathlib.Core.List.{List, [], ◌∷◌, ◌++◌, append_assoc}
use Rattle.std.proofs.Math.Dec.{leb}
use Rattle.std.specs.Float.{nan}
use Rattle.std.specs.Float.Ieee.Fits.{and_l, and_r}
use Rattle.std.proofs.Math.ListN.{length, length-append, get_or-append}
use Rattle.number.specs.Ops.{dec}
use Rattle.number.specs.Number.{about_of}
use Rattle.state.specs.State.{coord_ok, vec_ok, state_ok}
use Rattle.state.specs.declared.BallState.{BallState}
use Rattle.look.specs.Tree.{Oracle}
use Rattle.course.specs.Sheet.{course_of}
use Rattle.tally.specs.Language.{contact_width, contact_of}
use Rattle.records.specs.Records.{Records, flat, shown}
use Rattle.ground.specs.Settle.{Result, settle_of}
use Rattle.promises.specs.Terms.{Each, ContactOf}
use Rattle.promises.proofs.Finite.{Leaves, settle_leaves}
use Rattle.promises.proofs.Promises.{answered, most_contacts}
use Rattle.fields.specs.Fields.{double_at}
use Rattle.input.specs.Input.{shot_at, sheet_at, settle_input_by, settle_input_of}
use Rattle.card.specs.Card.{heading_line, contact_at, lines_of, text_of}
use Rattle.card.specs.Inner.{Spot, Printable}
use Rattle.card.specs.Columns.{Fit, spot_fits, heading_60, line_60, lines_60}

-- ---- a record in a list of records as wide as a contact
record Found (P : List Float → Type 0) (l : List Float) (i : ℕ) : Type 0 where
  pub rec : List Float
  pub holds : P rec
  pub reads : (j : ℕ) → j < contact_width → double_at l (contact_width * i + j) ≡ double_at rec j
  pub held : contact_width * i + contact_width ≤ length l

module _ (P : List Float → Type 0) (wide : (r : List Float) → P r → length r ≡ contact_width) where
  first : (r l : List Float) → P r → Found P (r ++ l) 0
  first r l p =
      let e = wide r p in
      record {
        rec = r;
        holds = p;
        reads = λ j h. ap (λ (q : ℕ). double_at (r ++ l) q) (zero-add j) ∙ get_or-append r l nan j (omega arith);
        held = omega (arith, length-append r l);
      }

  later : (r l : List Float) (i : ℕ) → P r → Found P l i → Found P (r ++ l) (suc i)
  later r l i p f =
      let e = wide r p in
      let h = f.held in
      record {
        rec = f.rec;
        holds = f.holds;
        reads = λ j k.
            let n : contact_width * suc i + j ≡ length r + (contact_width * i + j) = omega arith in
            ap (λ (q : ℕ). double_at (r ++ l) q) n ∙ get_or-append-add r l (contact_width * i + j) nan ∙ f.reads j k;
        held = omega (arith, length-append r l);
      }

  found : (rs : Records) (tail : List Float) → Each P rs → (i : ℕ) → i < length rs → Found P (flat rs ++ tail) i
  unfolding flat
  found [] tail h i l = absurd (omega arith)
  found (r ∷ rs) tail h zero l = rw append_assoc (first r (flat rs ++ tail) h.0)
  found (r ∷ rs) tail h (suc i) l = rw append_assoc (later r (flat rs ++ tail) i h.0 (found rs tail h.1 i (omega arith)))

-- ---- a contact

-- of magnitude at most 1,000,000
abbrev Near : Float → Type 0
Near x = T (about_of (dec 1000000 1) x)

module _ (o : Oracle) where
  contact_wide : (r : List Float) → ContactOf o r → length r ≡ contact_width
  contact_wide r h = ap length h.is

  about : (s : BallState) → T (state_ok s) → Near s.time × (Near s.pos.x × Near s.pos.y × Near s.pos.z)
  unfolding state_ok vec_ok coord_ok
  about s h =
      let r = vec_ok s.pos && (vec_ok s.vel && vec_ok s.spin) in
      let p = and_l (vec_ok s.pos) (vec_ok s.vel && vec_ok s.spin) (and_r (coord_ok s.time) r h) in
      let q = and_r (coord_ok s.pos.x) (coord_ok s.pos.y && coord_ok s.pos.z) p in (
        and_l (coord_ok s.time) r h,
        (
          and_l (coord_ok s.pos.x) (coord_ok s.pos.y && coord_ok s.pos.z) p,
          and_l (coord_ok s.pos.y) (coord_ok s.pos.z) q,
          and_r (coord_ok s.pos.y) (coord_ok s.pos.z) q,
        ),
      )

  spot : (l : List Float) (i : ℕ) → i + 1 ≤ 9999 → Found (ContactOf o) l i → Spot l i
  spot l i n f =
      let c = f.holds in
      let a = about c.arrival (subst T (sym c.came) tt) in
      let k = contact_of c.arrival c.sample c.departure in
      let read : (j : ℕ) → j < contact_width → (y : Float) → double_at k j ≡ y → Near y → Near (double_at l (contact_width * i + j)) =
      λ j q y e t. subst Near (sym (f.reads j q ∙ ap (λ (r : List Float). double_at r j) c.is ∙ e)) t in
      let h = f.held in
      record {
        number = n;
        time = subst (λ (q : ℕ). Near (double_at l q)) (omega arith) (read 0 (omega arith) _ refl a.0);
        place = record {
          held = omega arith;
          x = read 1 (omega arith) _ refl a.1.0;
          y = read 2 (omega arith) _ refl a.1.1;
          z = read 3 (omega arith) _ refl a.1.2;
        };
      }

-- ---- a finished run
module _ (input : List ℕ) (cs ps : List Float) (h : (settle_input_of input cs ps).settled.answer ≡ 0) where
  abbrev run : Result
  run = settle_of (sheet_at input) (shot_at input) cs ps

  -- its input is not refused for its length
  taken : settle_input_of input cs ps ≡ run
  unfolding settle_input_by
  taken = go (leb 240 (length input) && leb (length input) 34048) refl
    where
      go : (b : Bool) → (leb 240 (length input) && leb (length input) 34048) ≡ b → settle_input_of input cs ps ≡ run
      go true e = rw e
      go false e = absurd (let z = rw e at h in omega (arith, z))

  module _ (k : run.settled.answer ≡ 0) where
    left : Leaves (sheet_at input) (shot_at input) cs ps
    left = settle_leaves _ _ cs ps (answered _ _ cs ps k)

    few : run.settled.contacts ≤ 64
    few = most_contacts _ _ cs ps (answered _ _ cs ps k)

    spots : Printable run.contacts run.settled.contacts
    unfolding shown
    spots i l =
        let o = course_of (sheet_at input) in
        let r = left in
        let n = few in
        let q : i < length r.contacts = subst (λ (z : ℕ). i < z) r.contacts_counted l in
        subst (λ (z : List Float). Spot z i) (sym r.contacts_listed)
        (spot o _ i (omega arith) (found (ContactOf o) (contact_wide o) r.contacts _ r.each_contact i q))

  -- there are at most 64 contacts, each of which can be printed
  pub at_most_64 : (settle_input_of input cs ps).settled.contacts ≤ 64
  at_most_64 = subst (λ (w : Result). w.settled.contacts ≤ 64) (sym taken) (few (subst (λ (w : Result). w.settled.answer ≡ 0) taken h))

  pub printable : Printable (settle_input_of input cs ps).contacts (settle_input_of input cs ps).settled.contacts
  printable =
      subst (λ (w : Result). Printable w.contacts w.settled.contacts) (sym taken) (spots (subst (λ (w : Result). w.settled.answer ≡ 0) taken h))

  -- no text is wider than its column
  pub columns_fit : (i : ℕ) → i < (settle_input_of input cs ps).settled.contacts → Fit (settle_input_of input cs ps).contacts i
  columns_fit i l = spot_fits _ i (printable i l)

  -- so each line has 60 bytes, and all of them 60 * (1 + contacts)
  pub each_line : (i : ℕ) → i < (settle_input_of input cs ps).settled.contacts → length (contact_at (settle_input_of input cs ps).contacts i) ≡ 60
  each_line i l = line_60 _ i (printable i l)

  pub text_long : length (text_of (settle_input_of input cs ps)) ≡ 60 * (1 + (settle_input_of input cs ps).settled.contacts)
  unfolding text_of
  text_long =
      let w = settle_input_of input cs ps in
      let a = heading_60 w.settled.termination in
      let b = lines_60 w.contacts w.settled.contacts printable in
      omega (arith, length-append (heading_line w.settled.termination) (lines_of w.contacts w.settled.contacts))
