use Rattle.std.proofs.Common.{◌≡◌, Ok, length}
use Rattle.qp_frames.specs.Stream.{fed}
use Rattle.qp_frames.proofs.stream.Stream.take_bytes.Given as goal

abbrev pub invariant-loop-rest : goal.invariant-loop-rest
invariant-loop-rest l = fed (Ok l.self) l.rest ≡ fed (Ok l.initial.self) l.fn.bytes

abbrev pub decreases-loop-rest : goal.decreases-loop-rest
decreases-loop-rest l = length l.rest
