use Rattle.std.proofs.Common.{◌≤◌, length}
use Rattle.std.specs.Io.KnownBytes.{Consumes}
use Rattle.qp_base.specs.Limits.{file_limit}
use Rattle.qp_base.proofs.dir_shelf.read_whole.Given as goal

abbrev pub invariant-loop : goal.invariant-loop
invariant-loop g l = record {
  within : length l.file.items ≤ file_limit;
  so_far : Consumes (g.R.Read.remaining l.fn.reader) (g.R.Read.remaining l.reader) l.file.items;
}
