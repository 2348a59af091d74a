-- What is left of the search, after the evaluations made so far, is the whole search.
use Rattle.std.proofs.Common.{◌≡◌}
use Rattle.search.specs.Search.{find_root, counting, counted}
use Rattle.slide.specs.Slide.{above_of}
use Rattle.slide.proofs.Stages.{search_on}
use Rattle.slide.proofs.SlopeSlide.time_at_threshold.Given as goal

abbrev pub invariant-loop-made : goal.invariant-loop-made
invariant-loop-made l =
    let f = above_of l.fn.self.turning l.fn.threshold in
    search_on f l.made l.s ≡ find_root counting (counted f) l.fn.b l.fn.guess
