use Rattle.slide.proofs.Stages.{at_start_lem}
use Rattle.slide.proofs.slide_from.Goals as goal

pub invariant_of-on_slope : goal.invariant_of-on_slope
invariant_of-on_slope c = record {
  first = at_start_lem _ _ c.requires c.args.slip.length c.div-u_hat0.ensures c.slide_rate-k1.ensures;
}
