-- Definitions. The defaults of `GroundPhysics`.
use Rattle.number.specs.Ops.{dec}
use Rattle.shot.specs.declared.GroundPhysics.{GroundPhysics}

-- ground.rs, GroundPhysics::new; 02, paper 5, of max_impacts: "Make 64 the largest accepted and the default in place of 200"
unfoldable pub physics_new : GroundPhysics
physics_new =
    record {
      dt = dec 1 1000;
      stop_speed = dec 1 100;
      roll_threshold = dec 1 100;
      min_hop_height = dec 5 1000;
      max_impacts = 64;
      max_time = dec 120 1;
    }
