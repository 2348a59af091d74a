use Rattle.std.proofs.Common.{rules}
use Rattle.slide.specs.Slide.{turning_rate, slide_turning}
use Rattle.slide.proofs.Patch.slide_turning.Goals as goal

pub returns : goal.returns
unfolding slide_turning
returns c = c.step_state.ensures (turning_rate c.args.self c.args.fallback) c.args.t c.requires (λ x y e. search rules)
