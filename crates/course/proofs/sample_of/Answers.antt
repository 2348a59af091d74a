use Rattle.course.proofs.sample_of.Goals as goal

pub patch_sample-requires : goal.patch_sample-requires
patch_sample-requires c = (rw c.in-Some.is at c.requires).0
