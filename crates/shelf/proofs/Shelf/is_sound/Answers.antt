use Rattle.std.proofs.Common.{sym, ◌∙◌}
use Rattle.shelf.proofs.Walks.{stops, goes, all}
use Rattle.shelf.proofs.Shelf.is_sound.Goals as goal

pub returns-then-not-place_sound : goal.returns-then-not-place_sound
returns-then-not-place_sound c =
    stops c.args.self.now.places _ c.places.invariant c.in-Some.ensures.cases.0 (sym c.place_sound.ensures ∙ c.if-not-place_sound.true)

pub places-preserved : goal.places-preserved
places-preserved c =
    goes c.args.self.now.places _ c.places.invariant c.in-Some.ensures.cases.0 (sym c.place_sound.ensures ∙ c.if-not-place_sound.false)

pub returns : goal.returns
returns c = all c.args.self.now.places _ c.places.invariant c.in_default.ensures.cases
