use Rattle.std.proofs.Common.{refl}
use Rattle.qp_packed.specs.Packing.{packed, records_read}
use Rattle.qp_packed.proofs.packed_lane.PackedLane.new.Goals as goal

pub invariant_of-result : goal.invariant_of-result
unfolding packed records_read
invariant_of-result c = record { packed = record { words = c.new.ensures.items; count = refl; fit = tt }; last_is = refl; last_but_one_is = refl }

pub returns : goal.returns
unfolding records_read
returns c = refl
