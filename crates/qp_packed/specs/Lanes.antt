-- The records of a packed lane.
use Rattle.std.specs.Prelude.{List}
use Rattle.qp_packed.specs.declared.packed_lane.PackedLane.{PackedLane}
use Rattle.qp_packed.specs.Packing.{PackedRecord, records_read}

abbrev pub lane_unpacked : PackedLane → List PackedRecord
lane_unpacked l = records_read l.count l.words.items
