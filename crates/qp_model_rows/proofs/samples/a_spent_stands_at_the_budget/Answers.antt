use Rattle.std.proofs.Common.{refl}
use Rattle.qp_model_rows.specs.Samples.{spents_of}
use Rattle.qp_model_rows.proofs.samples.a_spent_stands_at_the_budget.Goals as goal

pub returns : goal.returns
unfolding spents_of
returns c = record { at_budget = refl; below_budget = refl; seen_empty = refl; not_seen = refl; elsewhere = refl }
