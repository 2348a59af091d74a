-- Definitions. The passes that a run makes, in order, each by the state from which it is made: hop steps and ground steps. 01: "one step is one pass
-- that makes a hop step or a contact step". Each list follows the definition of its name (Train, Strike, Hop, GroundPhase) part by part.
use Rattle.std.specs.Prelude.{ℕ, zero, suc, ◌-◌, Bool, not, List, [], ◌∷◌, ◌++◌, Some, None}
use Rattle.number.specs.Ops.{◌⊕◌}
use Rattle.state.specs.declared.BallState.{BallState}
use Rattle.state.specs.declared.Phase.TheVariants.{Hop as InHop}
use Rattle.surface.specs.declared.GroundSample.{GroundSample}
use Rattle.look.specs.Tree.{Oracle, run}
use Rattle.course.specs.Sheet.{course_of}
use Rattle.tally.specs.Times.{sample_interval, is_late}
use Rattle.tally.specs.Language.{M, Log, Outcome, goes, stops, mark, push_point, push_contact, Pass, again, over}
use Rattle.std.specs.Prelude.{if◌then◌else◌}
use Rattle.tally.specs.declared.Conditions.{Conditions}
use Rattle.shot.specs.declared.Shot.{Shot}
use Rattle.hop.specs.Hop.{Air, air_of, flight, hop_step}
use Rattle.hop.specs.declared.Flight.{Flight}
use Rattle.hop.specs.declared.Way.TheVariants.{Arrived, Late}
use Rattle.roll.specs.Roll.{roll_from, ground_step}
use Rattle.roll.specs.declared.Roll.{Roll}
use Rattle.strike.specs.Strike.{strike, rebounds, fly, drop}
use Rattle.strike.specs.declared.Struck.{Struck}
use Rattle.ground.specs.Settle.{conditions_of, first_log}

-- a pass that was made: of a hop, or of the ground
pub data Made : Type 0 where
  in_air : Air → Flight → Made
  on_ground : Roll → Made

abbrev pub none : Log → List Made
none l = []

module _ (o : Oracle) where
  -- what follows a part that goes on; nothing follows a stop
  abbrev pub followed : {A : Type 0} → (A → Log → List Made) → Outcome A → Log → List Made
  followed k (goes a) l = k a l
  followed k (stops n) l = []

  abbrev pub after : {A : Type 0} → M A → (A → Log → List Made) → Log → List Made
  after m k l = followed k (run o (m l)).outcome (run o (m l)).log

  -- Language, `loop`
  module _ {A B : Type 0} (late : A → Bool) (pass : A → M (Pass A B)) (made : A → Made) where
    unfoldable pub loop_passes : ℕ → A → Log → List Made
    loop_passes zero a l = []
    loop_passes (suc n) a l =
        if late a then [] else made a ∷ after (pass a) (λ p. elim p [ again b ↦ loop_passes n b | over r ↦ none ]) l

  module _ (c : Conditions) where
    -- Hop, `hop`
    unfoldable pub hop_passes : BallState → Log → List Made
    hop_passes start l =
        let air = air_of c start.spin in
        loop_passes (λ f. is_late f.state.time c.t_end) (hop_step c air) (in_air air) (c.step_limit - l.steps)
        (flight start (start.time ⊕ sample_interval)) l

    -- GroundPhase, `ground`
    unfoldable pub ground_passes : BallState → GroundSample → Log → List Made
    ground_passes state s l = loop_passes (λ g. is_late g.state.time c.t_end) (ground_step c) on_ground (c.step_limit - l.steps) (roll_from state s) l

    -- Strike, `fly`
    unfoldable pub fly_passes : Bool → Struck → Log → List Made
    fly_passes hops hit = if not hops then none else after mark (λ m. after (push_point hit.out InHop) (λ _. hop_passes hit.out))

    -- Train, `to_ground`
    unfoldable pub to_ground_passes : BallState → Struck → Log → List Made
    to_ground_passes state hit = after (drop c state hit) (λ leave. ground_passes leave hit.«at»)

    -- Train, `train_from`
    unfoldable pub train_passes : ℕ → BallState → Log → List Made
    train_passes zero state = after (strike c state) (λ hit. if not (rebounds c hit) then to_ground_passes state hit else none)
    train_passes (suc n) state =
        after (strike c state) (λ hit l. fly_passes (rebounds c hit) hit l ++ after (fly c (rebounds c hit) state hit) (λ flown. elim flown [
          | None ↦ to_ground_passes state hit
          | Some way ↦ after (push_contact state hit.«at» hit.out) (λ _. elim way [ Arrived b ↦ train_passes n b | Late b ↦ none ])
        ]) l)

-- P of each of them
abbrev pub Each : (Made → Type 0) → List Made → Type 0
Each P [] = Unit
Each P (m ∷ l) = P m × Each P l

-- the passes of an accepted call: Settle, `run_of`, with Train, `train`
unfoldable pub passes_of : List ℕ → Shot → ℕ → ℕ → List Made
passes_of sheet shot nc np =
    train_passes (course_of sheet) (conditions_of shot) (shot.physics.max_impacts - 1) shot.landing (first_log shot.landing nc np)
