use Rattle.std.proofs.Common.{◌-◌, ◌∙◌, ap, sym}
use Rattle.qp_packed.specs.Lanes.{lane_unpacked}
use Rattle.qp_packed.specs.Packing.{record_begin}
use Rattle.qp_packed.proofs.packed_lane.PackedLane.last.Goals as goal

pub tail-requires : goal.tail-requires
tail-requires c = let s = c.args.self.now in s.last_is ∙ ap (λ k. record_begin (k - 1) (lane_unpacked s)) (sym s.packed.count)
