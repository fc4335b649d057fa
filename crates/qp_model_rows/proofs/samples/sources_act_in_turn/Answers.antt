use Rattle.std.proofs.Common.{refl}
use Rattle.qp_model_rows.specs.Samples.{two_threads}
use Rattle.qp_model_rows.specs.Samples.{turns_of}
use Rattle.qp_model.specs.OneOrder.{stims_placed}
use Rattle.qp_model_rows.proofs.samples.sources_act_in_turn.Goals as goal

pub returns : goal.returns
unfolding two_threads turns_of stims_placed
returns c = record { in_turn = refl; out_of_turn = refl; left_out = refl; both_at_once = refl; in_no_look = refl; in_looks = refl }
