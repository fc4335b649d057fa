use Rattle.std.proofs.Common.{refl}
use Rattle.qp_model.specs.End.{spills_state}
use Rattle.qp_model.specs.Ends.{ends_last}
use Rattle.qp_model.specs.History.{lane_items}
use Rattle.qp_model_rows.proofs.samples.a_spill_states_its_place.Goals as goal

pub returns : goal.returns
unfolding spills_state ends_last lane_items
returns c = record { enough = refl; too_few = refl; another = refl; behind = refl }
