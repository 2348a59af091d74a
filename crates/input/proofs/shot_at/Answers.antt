use Rattle.input.proofs.Head.{shot_of_head}
use Rattle.input.proofs.shot_at.Goals as goal

pub returns : goal.returns
returns c =
    let p = rw c.unwrap.ensures at c.split_first_chunk.ensures.cases in
    rw (c.shot_of.ensures, p.0) (shot_of_head c.args.s.now c.args.fading)
