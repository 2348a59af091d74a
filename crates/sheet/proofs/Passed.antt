-- Lemmas. The records of an accepted sheet passed their tests, and the numbers of a patch, and four of a surface, are no NaNs.
use Rattle.std.specs.Prelude.{ℕ, zero, suc, ◌+◌, ◌≤◌, ◌<◌, ◌≡◌, refl, List, Bool, true, false, not, cond, T}
use Rattle.std.proofs.Common.{arith, subst}
use Rattle.std.specs.Float.{binary64}
use Rattle.std.specs.Float.Ieee.{nan_bits, neg}
use Rattle.number.specs.Ops.{dec}
use Rattle.number.specs.Number.{within_of, about_of}
use Rattle.sheet.specs.Scan.{and-false}
use Rattle.sheet.specs.Accepted.{all_at, must, no_nan, edges_real, patch_passed}
use Rattle.sheet.specs.Sheet.{surfaces, patches, field, real, header_ok, surface_ok, patch_ok, all, answer_of, Accepted}

by_cases : (a b c : Bool) → ◌≡◌ {A = ℕ} (cond a (cond b (cond c 0 3) 2) 1) 0 → b ≡ true
by_cases true true c e = refl
by_cases true false c e = absurd (omega arith)
by_cases false b c e = absurd (omega arith)

pub surface_passed : (s : List ℕ) (i : ℕ) → Accepted s → i < surfaces s → surface_ok s i ≡ true
unfolding answer_of
surface_passed s i e h =
    let b = by_cases (header_ok s) (all (surface_ok s) (surfaces s) 0) (all (patch_ok s) (patches s) (surfaces s)) e in
    subst (λ (m : ℕ). surface_ok s m ≡ true) (omega arith) (all_at (surface_ok s) (surfaces s) 0 i b h)

abbrev pub Number : List ℕ → ℕ → ℕ → Type 0
Number s i j = T (not (nan_bits binary64 (field s i j)))

module _ (s : List ℕ) (i : ℕ) (e : Accepted s) where
  pub surface_2 : i < surfaces s → Number s i 2
  unfolding surface_ok
  surface_2 l = no_nan (dec 0 1) (dec 10 1) (field s i 2)
      (must (within_of (dec 0 1) (dec 10 1) (real s i 2)) (surface_ok s i) (λ h. simp (h, and-false)) (surface_passed s i e l))

  pub surface_3 : i < surfaces s → Number s i 3
  unfolding surface_ok
  surface_3 l = no_nan (dec 0 1) (dec 10 1) (field s i 3)
      (must (within_of (dec 0 1) (dec 10 1) (real s i 3)) (surface_ok s i) (λ h. simp (h, and-false)) (surface_passed s i e l))

  pub surface_6 : i < surfaces s → Number s i 6
  unfolding surface_ok
  surface_6 l = no_nan (dec 0 1) (dec 10 1) (field s i 6)
      (must (within_of (dec 0 1) (dec 10 1) (real s i 6)) (surface_ok s i) (λ h. simp (h, and-false)) (surface_passed s i e l))

  pub surface_7 : i < surfaces s → Number s i 7
  unfolding surface_ok
  surface_7 l = no_nan (dec 0 1) (dec 1 1) (field s i 7)
      (must (within_of (dec 0 1) (dec 1 1) (real s i 7)) (surface_ok s i) (λ h. simp (h, and-false)) (surface_passed s i e l))

  pub patch_numbers : (j : ℕ) → surfaces s ≤ i → i < surfaces s + patches s → j < 7 → Number s i j
  unfolding patch_ok
  patch_numbers j l h = go j
    where
      r : patch_ok s i ≡ true
      r = patch_passed s i e l h

      go : (j : ℕ) → j < 7 → Number s i j
      go zero l = (edges_real s i r).e0
      go (suc zero) l = (edges_real s i r).e1
      go (suc (suc zero)) l = (edges_real s i r).e2
      go (suc (suc (suc zero))) l = (edges_real s i r).e3
      go (suc (suc (suc (suc zero)))) l = no_nan (neg (dec 1000 1)) (dec 1000 1) (field s i 4)
          (must (about_of (dec 1000 1) (real s i 4)) (patch_ok s i) (λ h. simp (h, and-false)) r)
      go (suc (suc (suc (suc (suc zero))))) l = no_nan (neg (dec 4 1)) (dec 4 1) (field s i 5)
          (must (about_of (dec 4 1) (real s i 5)) (patch_ok s i) (λ h. simp (h, and-false)) r)
      go (suc (suc (suc (suc (suc (suc zero)))))) l = no_nan (neg (dec 4 1)) (dec 4 1) (field s i 6)
          (must (about_of (dec 4 1) (real s i 6)) (patch_ok s i) (λ h. simp (h, and-false)) r)
      go (suc (suc (suc (suc (suc (suc (suc j))))))) l = absurd (omega arith)
