use Rattle.qp_plain_sound.proofs.CallQueues.{claim-done, claim-refused, lifo-done, lifo-refused, take-tells_none, take-finds_none, seen-done, counts-read}
use Rattle.qp_plain_sound.proofs.CallEvents.{take-done}
use Rattle.qp_plain_sound.proofs.laws.calls_on_queues.Goals as goal

pub returns : goal.returns
returns c = record {
  posted = claim-done;
  full = claim-refused;
  front = lifo-done;
  front_full = lifo-refused;
  taken = take-done;
  told_empty = take-tells_none;
  found_empty = take-finds_none;
  seen = seen-done;
  counted = counts-read;
}
