use Rattle.std.proofs.Common.{rules}
use Rattle.rolling.specs.ContactStep.{roll_patch_of, roll_rate, roll_by}
use Rattle.rolling.proofs.RollingOn.roll_by.Goals as goal

pub returns : goal.returns
unfolding roll_by
returns c =
    c.step_state.ensures (roll_rate (roll_patch_of c.args.self.now.patch c.args.self.now.surface)) c.args.t c.requires (λ x y e. search rules)
