-- The laws of the reader of calls hold.
use Rattle.qp_check_calls.proofs.BeginLemmas.{reads-begin}
use Rattle.qp_check_calls.proofs.ReadLemmas.{reads-end, reads-next, reads-whole}
use Rattle.qp_check_calls.proofs.OpenLemmas.{open-begin, open-next}
use Rattle.qp_check_calls.proofs.SomeLemmas.{open-reads}
use Rattle.qp_check_ends.proofs.CallLemmas.{CallLaws}

pub call-laws : CallLaws
call-laws = record {
  begins = reads-begin;
  nexts = reads-next;
  ends = reads-end;
  wholes = reads-whole;
  open_begin = open-begin;
  open_next = open-next;
  open_reads = open-reads;
}
