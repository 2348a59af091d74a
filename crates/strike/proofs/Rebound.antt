-- Lemmas: a rebound, what is left of it at each place where it may end.
use Rattle.std.specs.Prelude.{ℕ, ◌≡◌, refl, Bool, true, false, not, Option, Some, None}
use Rattle.std.proofs.Common.{ap}
use Rattle.state.specs.declared.BallState.{BallState}
use Rattle.state.specs.declared.Phase.TheVariants.{Hop as InHop}
use Rattle.look.specs.Tree.{Oracle}
use Rattle.tally.specs.Language.{M, ◌>>=◌, ◌>>◌, pure, push_point, truncate}
use Rattle.std.specs.Prelude.{if◌then◌else◌}
use Rattle.tally.specs.Inner.{Place, Reached}
use Rattle.tally.specs.declared.Conditions.{Conditions}
use Rattle.tally.proofs.Reached.{begun, marked, if_taken, if_left}
use Rattle.hop.specs.Hop.{hop}
use Rattle.hop.specs.declared.Way.{Way}
use Rattle.hop.specs.declared.Way.TheVariants.{Arrived, Late}
use Rattle.strike.specs.Strike.{dies_out, fly_by, fly}
use Rattle.strike.specs.declared.Struck.{Struck}

module _ (c : Conditions) (state : BallState) (hit : Struck) (m : ℕ) where
  abbrev pub to_ground : M (Option Way)
  to_ground = truncate m >> pure None

  abbrev pub to_keep : BallState → M (Option Way)
  to_keep b = if dies_out c state hit b then pure (Some (Arrived b)) else to_ground

  abbrev pub to_way : Way → M (Option Way)
  to_way = λ way. elim way [ Late b ↦ pure (Some (Late b)) | Arrived b ↦ to_keep b ]

  abbrev pub to_hop : M (Option Way)
  to_hop = hop c hit.out >>= to_way

  abbrev pub to_push : M (Option Way)
  to_push = push_point hit.out InHop >> to_hop

-- the ball rebounds
pub flying : {o : Oracle} {a : Place} (c : Conditions) (hops : Bool) (state : BallState) (hit : Struck) → hops ≡ true
    → Reached o (fly c hops state hit) a 0 (to_push c state hit a.tally.points) a
unfolding fly_by
flying c hops state hit e = marked _ (if_left _ _ _ begun refl (ap not e))

-- it does not
pub grounded : {o : Oracle} {a : Place} (c : Conditions) (hops : Bool) (state : BallState) (hit : Struck) → hops ≡ false
    → Reached o (fly c hops state hit) a 0 (pure None) a
unfolding fly_by
grounded c hops state hit e = if_taken _ _ _ begun refl (ap not e)

-- where the hop came to
module _ {o : Oracle} {m : M (Option Way)} {a p : Place} {n : ℕ} (c : Conditions) (state : BallState) (hit : Struck) (k : ℕ) {way : Way} {b : BallState}
    (r : Reached o m a n (to_way c state hit k way) p) where
  pub hop_late : way ≡ Late b → Reached o m a n (pure (Some (Late b))) p
  hop_late v = rw v at r

  module _ (v : way ≡ Arrived b) {d : Bool} (e : d ≡ dies_out c state hit b) where
    pub hop_kept : d ≡ true → Reached o m a n (pure (Some (Arrived b))) p
    hop_kept t = if_taken _ _ _ (rw v at r) e t

    pub hop_discarded : d ≡ false → Reached o m a n (to_ground c state hit k) p
    hop_discarded t = if_left _ _ _ (rw v at r) e t
