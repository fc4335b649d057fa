use Rattle.std.proofs.Common.{◌∙◌}
use Rattle.qp_kernel_end.proofs.LastLemmas.{last-tells}
use Rattle.qp_kernel_end.proofs.journal.outcome_of.Goals as goal

pub returns : goal.returns
returns c = c.last_outcome.ensures ∙ last-tells c.args.j.now c.requires.last
