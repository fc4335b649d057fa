use Rattle.std.proofs.Common.{◌++◌, ◌∷◌, [], refl, ◌∙◌, ap}
use Rattle.qp_plain.specs.Fresh.{tabulated}
use Rattle.qp_plain.specs.Tables.{no_signal}
use Rattle.qp_plain.proofs.FreshLemmas.{made-more}
use Rattle.qp_plain.proofs.tables.signals.Goals as goal

pub loop-init : goal.loop-init
unfolding tabulated
loop-init c = c.new-words.ensures.items

pub loop-preserved : goal.loop-preserved
loop-preserved c = c.in-Ok.ensures.items ∙ ap (λ xs. xs ++ no_signal ∷ []) c.loop.invariant ∙ made-more (λ k. no_signal) c.loop.counter no_signal refl
