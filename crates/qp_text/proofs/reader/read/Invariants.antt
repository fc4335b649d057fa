use Rattle.std.proofs.Common.{◌≡◌, ◌+◌, ◌≤◌, length}
use Rattle.qp_text.specs.Parts.{split}
use Rattle.qp_text.specs.ReadText.{read_parts, read_text}
use Rattle.qp_text.proofs.reader.read.Given as goal

abbrev pub invariant-loop-next : goal.invariant-loop-next
invariant-loop-next l = record {
  so_far : read_parts l.number l.reading (split 10 l.rest) ≡ read_text l.fn.bytes;
  few : l.number + length l.rest ≤ length l.fn.bytes + 1;
}

abbrev pub decreases-loop-next : goal.decreases-loop-next
decreases-loop-next l = length l.rest
