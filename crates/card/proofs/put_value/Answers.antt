use Rattle.std.proofs.Common.{◌≤◌, length, sym, subst}
use Rattle.card.proofs.Written.{value_is, value_put}
use Rattle.card.proofs.put_value.Goals as goal

pub put_signed_right-requires : goal.put_signed_right-requires
put_signed_right-requires c =
    let a = c.args in
    (c.requires.0, subst (λ t. length t ≤ a.w) (sym (value_is a.k a.x c.rounded-n.ensures)) c.requires.1.fits)

pub returns : goal.returns
returns c = value_put _ _ c.rounded-n.ensures c.put_signed_right.ensures
