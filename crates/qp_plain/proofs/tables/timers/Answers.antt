use Rattle.std.proofs.Common.{◌++◌, ◌∷◌, [], ◌∙◌, ap}
use Rattle.qp_plain.specs.Fresh.{tabulated}
use Rattle.qp_plain.specs.Tables.{no_clock}
use Rattle.qp_plain.proofs.FreshLemmas.{made-more}
use Rattle.qp_plain.proofs.tables.timers.Goals as goal

pub loop-init : goal.loop-init
unfolding tabulated
loop-init c = c.new-words.ensures.items

pub loop-preserved : goal.loop-preserved
loop-preserved c = c.in-Ok.ensures.items ∙ ap (λ xs. xs ++ c.new.result ∷ []) c.loop.invariant ∙ made-more (λ k. no_clock) c.loop.counter c.new.result c.new.ensures
