-- Lemmas. The laws of the look tree that a caller's proof goes by.
use Rattle.std.specs.Prelude.{◌≡◌, refl, List, ◌++◌, Bool, true, false}
use Rattle.std.proofs.Common.{◌∙◌}
use Rattle.look.specs.Rect.{Rect, spot_ok}
use Rattle.look.specs.Tree.{done, look, step, Tree, Oracle, seen, note, bind, run, looks, Did, did, widen_where, exec}

pub run_bind : {A B : Type 0} (o : Oracle) (t : Tree A) (k : A → Tree B) → run o (bind t k) ≡ run o (k (run o t))
unfolding run bind
run_bind o (done a) k = refl
run_bind o (look x z c) k = run_bind o (c (seen o x z)) k
run_bind o (step s t) k = run_bind o t k

note_append : {X : Type 0} (b : Bool) (p : X) (l m : List X) → note b p (l ++ m) ≡ note b p l ++ m
note_append true p l m = refl
note_append false p l m = refl

pub looks_bind : {A B : Type 0} (o : Oracle) (t : Tree A) (k : A → Tree B) → looks o (bind t k) ≡ looks o t ++ looks o (k (run o t))
unfolding run bind looks
looks_bind o (done a) k = refl
looks_bind o (look x z c) k = rw (looks_bind o (c (seen o x z)) k) (note_append (spot_ok x z) _ _ _)
looks_bind o (step s t) k = looks_bind o t k

pub exec-bind : {A B : Type 0} (o : Oracle) (r : Rect) (t : Tree A) (k : A → Tree B)
    → exec o r (bind t k) ≡ exec o (exec o r t).rect (k (exec o r t).value)
unfolding exec bind
exec-bind o r (done a) k = refl
exec-bind o r (look x z c) k = exec-bind o (widen_where (spot_ok x z) r x z) (c (seen o x z)) k
exec-bind o r (step s t) k = exec-bind o r t k

-- What a caller's proof goes by. A callee's contract is `did a r' ≡ exec o r t`; what it answered is a'; so the rest, from there, is the whole.
pub after : {A B : Type 0} (o : Oracle) (r : Rect) (t : Tree A) (k : A → Tree B) {a a' : A} {r' : Rect}
    → did a r' ≡ exec o r t → a ≡ a' → exec o r' (k a') ≡ exec o r (bind t k)
after o r t k e h = rw (exec-bind o r t k, ← e, h)

-- the same, with what is left to show at the end: proofs go in the order of the calls, `ends _ _ _ _ e₁ h₁ (ends _ _ _ _ e₂ h₂ (..))`
pub ends : {A B : Type 0} (o : Oracle) (r : Rect) (t : Tree A) (k : A → Tree B) {a a' : A} {r' : Rect} {d : Did B}
    → did a r' ≡ exec o r t → a ≡ a' → d ≡ exec o r' (k a') → d ≡ exec o r (bind t k)
ends o r t k e h p = p ∙ after o r t k e h
