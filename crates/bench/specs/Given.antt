-- Definitions. Inputs of the program settle, from their fields (01, "Lists and the rest of the shop"), and S of 01's bench shots.
use Rattle.std.specs.Prelude.{ℕ, zero, suc, ◌+◌, ◌/◌, ◌%◌, false, List, [], ◌∷◌, ◌++◌, Float}
use Prim.Native.Char.{code}
use Prim.Native.String.{String, len, char_at}
use Rattle.std.specs.Float.{binary64}
use Rattle.std.specs.Float.Ieee.{to_bits}
use Rattle.number.specs.Ops.{dec}
use Rattle.vector.specs.Vec.{zero3}
use Rattle.surface.specs.Surface.{green}
use Rattle.state.specs.declared.BallState.{BallState}
use Rattle.surface.specs.declared.Restitution.{Restitution}
use Rattle.surface.specs.declared.RollLaw.{RollLaw}
use Rattle.surface.specs.declared.Surface.{Surface}
use Rattle.aero.specs.Aero.{tour}
use Rattle.shot.specs.Physics.{physics_new}
use Rattle.shot.specs.declared.Shot.{Shot}

-- ---- bytes

-- n in k bytes, least first
abbrev pub bytes : ℕ → ℕ → List ℕ
bytes zero n = []
bytes (suc k) n = n % 256 ∷ bytes k (n / 256)

-- numbers of k bytes each
abbrev pub bytes_of : ℕ → List ℕ → List ℕ
bytes_of k [] = []
bytes_of k (n ∷ ns) = bytes k n ++ bytes_of k ns

abbrev pub bits : Float → ℕ
bits x = to_bits binary64 x

-- the n characters of a text from i on, in ASCII
abbrev pub codes : String → ℕ → ℕ → List ℕ
codes s zero i = []
codes s (suc n) i = code (char_at s i) ∷ codes s n (i + 1)

-- a line: the text, then a line feed
abbrev pub line_text : String → List ℕ
line_text s = codes s (len s) 0 ++ (10 ∷ [])

-- ---- a sheet of one surface and no patch

-- kind and e
abbrev pub restitution_fields : Restitution → List ℕ
restitution_fields (Restitution.Constant e) = 0 ∷ bits e ∷ []
restitution_fields Restitution.Penner2002 = 1 ∷ 0 ∷ []

-- law and v_ref
abbrev pub law_fields : RollLaw → List ℕ
law_fields RollLaw.Constant = 0 ∷ 0 ∷ []
law_fields (RollLaw.Quadratic v) = 1 ∷ bits v ∷ []
law_fields (RollLaw.Exponential v) = 2 ∷ bits v ∷ []

abbrev pub surface_fields : Surface → List ℕ
surface_fields s =
    restitution_fields s.restitution ++ (bits s.mu_slide ∷ bits s.mu_roll ∷ [])
    ++ law_fields s.roll_law ++ (bits s.compliance ∷ bits s.pivot ∷ [])

-- surface count, surface offset, patch count, patch offset; then the record
abbrev pub sheet_of : Surface → List ℕ
sheet_of s = bytes_of 4 (1 ∷ 16 ∷ 0 ∷ 80 ∷ []) ++ bytes_of 8 (surface_fields s)

-- ---- the 30 fields before the sheet

abbrev pub fields_of : Shot → List ℕ
fields_of s =
    let p = s.physics in
    let b = s.ball in
    let l = s.landing in
    bits p.dt ∷ bits p.stop_speed ∷ bits p.roll_threshold ∷ bits p.min_hop_height ∷ bits p.max_time
    ∷ p.max_impacts ∷ s.step_limit
    ∷ bits b.mass_kg ∷ bits b.diameter_m ∷ bits b.inertia_factor
    ∷ bits b.cd_sub ∷ bits b.cd_super ∷ bits b.cd_spin ∷ bits b.sr_sat
    ∷ bits b.cl_sub ∷ bits b.cl_super ∷ bits b.sr_scale ∷ bits b.re_crit ∷ bits b.re_width
    ∷ bits s.air_density
    ∷ bits l.time ∷ bits l.pos.x ∷ bits l.pos.y ∷ bits l.pos.z
    ∷ bits l.vel.x ∷ bits l.vel.y ∷ bits l.vel.z ∷ bits l.spin.x ∷ bits l.spin.y ∷ bits l.spin.z ∷ []

-- places of fields that a shot changes
abbrev pub dt_at : ℕ
dt_at = 0

abbrev pub max_time_at : ℕ
max_time_at = 4

abbrev pub max_impacts_at : ℕ
max_impacts_at = 5

abbrev pub mass_at : ℕ
mass_at = 7

abbrev pub density_at : ℕ
density_at = 19

abbrev pub vel_y_at : ℕ
vel_y_at = 25

abbrev pub input_of : List ℕ → List ℕ → List ℕ
input_of fields sheet = bytes_of 8 fields ++ sheet

-- ---- S: "GREEN alone, 80 bytes, defaults of `GroundPhysics::new`, TOUR, density 1.225, step_limit 1000, landing all 0"

abbrev pub at_zero : BallState
at_zero = record { time = dec 0 1; pos = zero3; vel = zero3; spin = zero3 }

-- with this step_limit and landing
abbrev pub shot_s : ℕ → BallState → Shot
shot_s limit landing = record { physics = physics_new; step_limit = limit; ball = tour; air_density = dec 1225 1000; landing = landing; fading = false }

abbrev pub fields_s : List ℕ
fields_s = fields_of (shot_s 1000 at_zero)

abbrev pub sheet_s : List ℕ
sheet_s = sheet_of green
