-- Lemmas: one pass of the ground, what is left of it at each place where it may end.
use mathlib.Core.Path.{◌≡◌}
use mathlib.Core.Bool.{Bool, not}
use mathlib.Core.List.{List}
use lib.Ieee.{Float}
use Rattle.state.specs.declared.BallState.{BallState}
use Rattle.state.specs.declared.Phase.TheVariants.{Roll as InRoll}
use Rattle.state.specs.declared.Termination.TheVariants.{Rest}
use Rattle.surface.specs.declared.GroundSample.{GroundSample}
use Rattle.rolling.specs.declared.Stepped.{Stepped}
use Rattle.look.specs.Tree.{Oracle}
use Rattle.tally.specs.Times.{next_after}
use Rattle.tally.specs.Language.{M, Pass, again, over, ◌>>=◌, ◌>>◌, pure, when, look, test, push_point}
use Rattle.std.specs.Prelude.{if◌then◌else◌}
use Rattle.tally.specs.Inner.{place, Reached, MakesStep}
use Rattle.tally.specs.declared.Conditions.{Conditions}
use Rattle.tally.specs.declared.Tally.{Tally}
use Rattle.tally.proofs.Reached.{begun, step_made_lem}
use Rattle.roll.specs.Roll.{ending, roll, step_on, point_due, held_of, put_down, ground_step}
use Rattle.roll.specs.declared.Roll.{Roll}
use Rattle.std.specs.Prelude.{Some}
use Rattle.roll.specs.declared.Ending.{Ending}

abbrev pub to_rest : BallState → M (Pass Roll Ending)
to_rest b = push_point b InRoll >> pure (over (ending Rest b))

module _ (c : Conditions) (g : Roll) (s : Stepped) (due : Bool) where
  abbrev pub to_held : GroundSample → BallState → M (Pass Roll Ending)
  to_held under b = if not (held_of s.phase s.state under) then pure
      (again (roll b under (next_after due g.next_sample g.state.time) (Some s.phase))) else to_rest b

  abbrev pub to_test : GroundSample → M (Pass Roll Ending)
  to_test under = test (put_down c g s.state s.rolling under) >>= to_held under

  abbrev pub to_look : M (Pass Roll Ending)
  to_look = look s.state.pos.x s.state.pos.z >>= to_test

  abbrev pub to_push : M (Pass Roll Ending)
  to_push = when due (push_point g.state s.phase) >> to_look

-- the step is made and counted
pub stepped : {o : Oracle} {t t' : Tally} {lc lp : List Float} (c : Conditions) (g : Roll) {s : Stepped} {due : Bool} → s ≡ step_on c g
    → due ≡ point_due g.state.time g.next_sample g.last s.phase
    → MakesStep t s.evaluations t' → Reached o (ground_step c g) (place t lc lp) 1 (to_push c g s due) (place t' lc lp)
unfolding ground_step
stepped c g es ed r = rw (ed, ← es) (step_made_lem _ _ begun r)
