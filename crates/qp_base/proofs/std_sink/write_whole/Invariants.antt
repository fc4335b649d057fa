use Rattle.std.proofs.Common.{◌≤◌, length, take}
use Rattle.std.specs.Io.KnownBytes.{Appends}
use Rattle.qp_base.proofs.std_sink.write_whole.Given as goal

abbrev pub invariant-loop : goal.invariant-loop
invariant-loop g l = record {
  within : l.done ≤ length l.bytes;
  so_far : Appends (g.W.Write.contents l.fn.stream) (g.W.Write.contents l.stream) (take l.done l.bytes);
}
