use Rattle.std.proofs.Common.{◌≡◌, map}
use Rattle.qp_base.specs.MemShelf.{bytes_of_file}
use Rattle.qp_base.proofs.MemShelfLemmas.{file_of, files_from}
use Rattle.qp_base.proofs.mem_shelf.Files.find.Given as goal

abbrev pub invariant-loop-held : goal.invariant-loop-held
invariant-loop-held l = bytes_of_file (files_from l.held-index l.held-items) l.name ≡ bytes_of_file (map file_of l.held-items) l.name
