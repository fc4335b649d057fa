use Rattle.std.proofs.Common.{◌∙◌, ap, sym}
use Rattle.qp_model.specs.declared.words.Word.TheVariants as word
use Rattle.qp_model.specs.History.{all_items, hist}
use Rattle.qp_model.specs.Sites.{blocks_of}
use Rattle.qp_check_knowledge.specs.KnownTables.{free_counts}
use Rattle.qp_check_knowledge.proofs.KnownFactLemmas.{free-at}
use Rattle.qp_check_knowledge.proofs.knowledge.Knowledge.free_before.Goals as goal

pub returns-in-Some : goal.returns-in-Some
returns-in-Some c =
    c.number_at.ensures
    ∙ free-at c.args.self.now.sys.now c.args.self.now.journal.now c.deref.result.now c.args.p c.args.n
    (c.deref.ensures.value ∙ c.pool.view_is ∙ c.requires.pools_are c.args.p c.in-Some.pool.now (sym c.in-Some.ensures.value))

pub returns-in_ok-pool-in-None : goal.returns-in_ok-pool-in-None
returns-in_ok-pool-in-None c =
    let sys = c.args.self.now.sys.now in
    c.number_at-in-None.ensures
    ∙ free-at sys c.args.self.now.journal.now c.deref-in-None.result.now c.args.p c.args.n
    (c.deref-in-None.ensures.value ∙ c.pool-in-None.view_is ∙ c.in_ok-pool-in-None.ensures
    ∙ ap (λ l. free_counts (blocks_of sys c.args.p) (hist (word.Pool c.args.p) (all_items l))) c.requires.same)
