use Rattle.std.proofs.Common.{◌∙◌, ◌==◌, ap, length}
use Rattle.qp_model.specs.declared.words.Word.TheVariants as word
use Rattle.qp_model.specs.Line.{Line, line}
use Rattle.qp_model.specs.History.{all_items, hist}
use Rattle.qp_model.specs.Machine.{after}
use Rattle.qp_model.specs.Sites.{ring_of}
use Rattle.qp_check_ends.proofs.RestingLemmas.{line-run}
use Rattle.qp_check_ends.proofs.resting.line_is_empty.Goals as goal

pub returns : goal.returns
returns c =
    let q = c.new-queue.result in
    let e = c.new-queue.ensures in
    let items = all_items c.args.records.now in
    let read = c.in_ok-history.ensures ∙ ap (λ n. hist (word.Queue n) items) c.from-own.ensures in
    let history = hist (word.Queue c.args.a) (all_items c.args.records.now) in
    c.is_empty-empty.ensures
    ∙ ap (λ (s : Line). length s.entries == 0) (line-run c.ring_of.result q.ring q.f q.l q.m q.entries.items c.in_ok-history.history history _ e.0 e.1 e.2 e.3 e.4 read c.in_ok-run.ensures)
    ∙ ap (λ n. length (after (line n) history).entries == 0) (c.ring_of.ensures ∙ ap (ring_of c.args.sys.now) c.from-own.ensures)
