use Rattle.std.proofs.Common.{refl}
use Rattle.qp_model_rows.specs.Samples.{thread}
use Rattle.qp_model_rows.specs.Samples.{spilling}
use Rattle.qp_model_rows.specs.Samples.{turns_of}
use Rattle.qp_model.specs.OneOrder.{last_is_free}
use Rattle.qp_model_rows.proofs.samples.a_spill_of_a_source.Goals as goal

pub returns : goal.returns
unfolding thread spilling turns_of last_is_free
returns c = record { at_the_end = refl; last_is_free = refl; last_is_not = refl; missing = refl }
