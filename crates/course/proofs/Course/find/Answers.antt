use Rattle.course.proofs.Course.find.Goals as goal

pub find-requires : goal.find-requires
find-requires c = c.self.invariant _ c.in-Some.is
