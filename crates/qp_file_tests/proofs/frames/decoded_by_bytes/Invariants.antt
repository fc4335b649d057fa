use Rattle.std.proofs.Common.{take}
use Rattle.qp_frames.specs.Faults.{IsDecoderOf}
use Rattle.qp_file_tests.proofs.frames.decoded_by_bytes.Given as goal

abbrev pub invariant-loop-b : goal.invariant-loop-b
invariant-loop-b l = IsDecoderOf l.decoder (take l.b-index l.stream)
