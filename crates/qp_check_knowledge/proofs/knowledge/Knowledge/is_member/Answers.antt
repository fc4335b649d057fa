use Rattle.std.proofs.Common.{◌∙◌, ap, sym}
use Rattle.qp_chart.specs.StateTree.{has}
use Rattle.qp_model.specs.declared.words.Word.TheVariants as word
use Rattle.qp_model.specs.History.{all_items, hist}
use Rattle.qp_check_knowledge.specs.KnownTables.{member_lists}
use Rattle.qp_check_knowledge.proofs.KnownFactLemmas.{members-at}
use Rattle.qp_check_knowledge.proofs.knowledge.Knowledge.is_member.Goals as goal

pub returns-in-Some : goal.returns-in-Some
returns-in-Some c =
    c.is_in.ensures
    ∙ ap (λ l. has l c.args.o)
    (members-at c.args.self.now.sys.now c.args.self.now.journal.now c.deref.result.now c.args.sig c.args.n
    (c.deref.ensures.value ∙ c.signal.view_is ∙ c.requires.signals_are c.args.sig c.in-Some.signal.now (sym c.in-Some.ensures.value)))

pub returns-in_ok-signal-in-None : goal.returns-in_ok-signal-in-None
returns-in_ok-signal-in-None c =
    c.is_in-in-None.ensures
    ∙ ap (λ l. has l c.args.o)
    (members-at c.args.self.now.sys.now c.args.self.now.journal.now c.deref-in-None.result.now c.args.sig c.args.n
    (c.deref-in-None.ensures.value ∙ c.signal-in-None.view_is ∙ c.in_ok-signal-in-None.ensures ∙ ap (λ l. member_lists (hist (word.Signal c.args.sig) (all_items l))) c.requires.same))
