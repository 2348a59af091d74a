-- Definitions. What `dimple_listen` gives: its answer and all that it was lent (include/dimple.h).
use Rattle.std.specs.Prelude.{ℕ, cond, List, [], ◌∷◌, eqb, length, Float}
use Rattle.fields.specs.Fields.{whole_of, written}
use Rattle.listen.specs.Listen.{Listen, listen_of}
use Rattle.listen.specs.Answers.{Heard}

pub record ListenDoor : Type 0 where
  pub answer : ℕ
  pub marks : List ℕ
  pub totals : List Float

abbrev pub listen_door : ℕ → List ℕ → List Float → ListenDoor
listen_door a m l = record { answer = a; marks = m; totals = l }

-- pairs, heard only, computed only; +0 on a number
abbrev pub total_fields : Heard → List Float
total_fields h = whole_of h.pairs ∷ whole_of h.heard_only ∷ whole_of h.computed_only ∷ []

abbrev pub listen_reported : Listen → List Float → ListenDoor
listen_reported w l = listen_door w.heard.answer w.marks (written l 0 (total_fields w.heard))

-- 100 for totals that are not three doubles, and then nothing is touched
unfoldable pub listen_door_of : List Float → List Float → ℕ → Float → List ℕ → List Float → ListenDoor
listen_door_of heard contacts n t marks l =
    cond (eqb (length l) 3) (listen_reported (listen_of heard contacts n t marks) l) (listen_door 100 marks l)
