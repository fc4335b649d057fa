use Rattle.std.proofs.Common.{◌++◌, ◌∷◌, [], ◌∙◌, ap}
use Rattle.qp_plain_words.specs.Queue.{empty_line}
use Rattle.qp_plain.specs.Fresh.{tabulated, first_queue}
use Rattle.qp_plain.proofs.FreshLemmas.{made-more}
use Rattle.qp_plain.proofs.tables.queues.Goals as goal

pub loop-a-init : goal.loop-a-init
unfolding tabulated
loop-a-init c = c.new-words.ensures.items

pub loop-a-preserved : goal.loop-a-preserved
loop-a-preserved c =
    c.in-Ok.ensures.items ∙ ap (λ xs. xs ++ c.in_ok-word.word ∷ []) c.loop-a.invariant
    ∙ made-more (first_queue c.args.sys.now) c.loop-a.a c.in_ok-word.word (c.in_ok-word.ensures ∙ ap (λ x. record { line = empty_line; ring = x }) c.ring_of.ensures)
