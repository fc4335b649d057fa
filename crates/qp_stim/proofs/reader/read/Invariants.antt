use Rattle.std.proofs.Common.{◌≡◌, ◌≤◌, ◌+◌, length, []}
use Rattle.std.specs.Option.{option_map, option_map_or}
use Rattle.qp_stim.specs.Parts.{lines}
use Rattle.qp_stim.specs.Maps.{dictionary}
use Rattle.qp_stim.specs.Gathered.{gathered}
use Rattle.qp_stim.specs.Stimuli.{read_on}
use Rattle.qp_stim.specs.Reading.{parts_left}
use Rattle.qp_stim.proofs.reader.read.Given as goal

abbrev pub invariant-loop-rest : goal.invariant-loop-rest
invariant-loop-rest l = record {
  count : l.number + option_map_or (λ r. length r.now + 1) l.rest 0 ≤ length l.bytes + 2;
  same : read_on (dictionary l.names) l.number (gathered l.sources) (parts_left 10 (option_map (λ r. r.now) l.rest)) ≡ read_on (dictionary l.names) 1 [] (lines l.bytes);
}

abbrev pub decreases-loop-rest : goal.decreases-loop-rest
decreases-loop-rest l = option_map_or (λ r. length r.now + 1) l.rest 0
