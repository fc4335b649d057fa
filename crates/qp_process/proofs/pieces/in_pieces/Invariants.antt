use Rattle.std.specs.Prelude.{length}
use Rattle.std.specs.Option.{option_map_or}
use Rattle.qp_process.proofs.pieces.in_pieces.Given as goal

-- what the sink had got, and how many faults it had counted
abbrev pub ghosts-gathered : goal.ghosts-gathered
ghosts-gathered g a = record { first_length = option_map_or length (g.O.Sink.written a.out) 0; first_faults = g.O.Sink.faults a.out }
