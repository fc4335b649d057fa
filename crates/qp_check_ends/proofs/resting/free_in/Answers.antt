use Rattle.std.proofs.Common.{◌∙◌, ap}
use Rattle.qp_model.specs.declared.words.Word.TheVariants as word
use Rattle.qp_model.specs.FreeBlocks.{free_blocks}
use Rattle.qp_model.specs.History.{all_items, hist}
use Rattle.qp_model.specs.Machine.{after}
use Rattle.qp_model.specs.Sites.{blocks_of}
use Rattle.qp_check_ends.proofs.RestingLemmas.{pool-run}
use Rattle.qp_check_ends.proofs.resting.free_in.Goals as goal

pub returns : goal.returns
returns c =
    let free = c.in_ok-free.free in
    let items = all_items c.args.records.now in
    let read = c.in_ok-history.ensures ∙ ap (λ n. hist (word.Pool n) items) c.from-own.ensures in
    let history = hist (word.Pool c.args.p) (all_items c.args.records.now) in
    pool-run c.blocks_of.result free.blocks free.count free.free.keys c.in_ok-history.history history _ c.in_ok-free.ensures.0 c.in_ok-free.ensures.1 c.in_ok-free.ensures.2 read c.in_ok-run.ensures
    ∙ ap (λ n. (after (free_blocks n) history).free) (c.blocks_of.ensures ∙ ap (blocks_of c.args.sys.now) c.from-own.ensures)
