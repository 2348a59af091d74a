use Rattle.std.proofs.Common.{arith, sym, length, ◌∙◌}
use Rattle.listen.proofs.Accepted.{whole_holds, few_heard}
use Rattle.listen.proofs.Laws.{says_8, says_39, says_40, says_41, says_0}
use Rattle.listen.proofs.test.Goals as goal

pub returns-then-not-contacts_whole : goal.returns-then-not-contacts_whole
returns-then-not-contacts_whole c = says_8 _ _ _ _ _ (sym c.contacts_whole.ensures ∙ c.if-not-contacts_whole.true)

pub all_times_ok-requires : goal.all_times_ok-requires
all_times_ok-requires c = whole_holds _ _ (sym c.contacts_whole.ensures ∙ c.if-not-contacts_whole.false)

pub returns-then-not-all_times_ok : goal.returns-then-not-all_times_ok
returns-then-not-all_times_ok c =
    says_39 _ _ _ _ _ (sym c.contacts_whole.ensures ∙ c.if-not-contacts_whole.false) (sym c.all_times_ok.ensures ∙ c.if-not-all_times_ok.true)

pub returns-then-not-tolerance_ok : goal.returns-then-not-tolerance_ok
returns-then-not-tolerance_ok c =
    says_40 _ _ _ _ _ (sym c.contacts_whole.ensures ∙ c.if-not-contacts_whole.false) (sym c.all_times_ok.ensures ∙ c.if-not-all_times_ok.false)
    (sym c.tolerance_ok.ensures ∙ c.if-not-tolerance_ok.true)

pub overflow_add-heard : goal.overflow_add-heard
overflow_add-heard c =
    let a = c.args in
    omega (
      arith,
      whole_holds (length a.contacts.now) a.n (sym c.contacts_whole.ensures ∙ c.if-not-contacts_whole.false),
      few_heard a.heard.now a.contacts.now a.n (sym c.all_times_ok.ensures ∙ c.if-not-all_times_ok.false),
    )

pub returns-then-room-heard : goal.returns-then-room-heard
returns-then-room-heard c =
    says_41 _ _ _ _ _ (sym c.contacts_whole.ensures ∙ c.if-not-contacts_whole.false) (sym c.all_times_ok.ensures ∙ c.if-not-all_times_ok.false)
    (sym c.tolerance_ok.ensures ∙ c.if-not-tolerance_ok.false) c.if-room-heard.true

pub returns : goal.returns
returns c =
    says_0 _ _ _ _ _ (sym c.contacts_whole.ensures ∙ c.if-not-contacts_whole.false) (sym c.all_times_ok.ensures ∙ c.if-not-all_times_ok.false)
    (sym c.tolerance_ok.ensures ∙ c.if-not-tolerance_ok.false) c.if-room-heard.false
