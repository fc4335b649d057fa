use Rattle.std.proofs.Common.{refl}
use Rattle.qp_model.specs.Sources.{none_twice}
use Rattle.qp_model_rows.proofs.samples.tries_differ.Goals as goal

pub returns : goal.returns
unfolding none_twice
returns c = record { same = refl; other = refl }
