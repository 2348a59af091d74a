use Rattle.replaying.proofs.Laws.{sums-append}
use Rattle.replaying.proofs.same_lists.Goals as goal

pub returns : goal.returns
returns c = rw (c.same_words.ensures, c.add_list-sums.ensures, c.add_list.ensures, sums-append)
