use Rattle.qp_plain_sound.proofs.CallBlocks.{give-done, give-refused, first-done, inc-done, dec-keeps, dec-last, back-done}
use Rattle.qp_plain_sound.proofs.CallEvents.{event-read, held-event}
use Rattle.qp_plain_sound.proofs.laws.calls_on_blocks.Goals as goal

pub returns : goal.returns
returns c = record {
  given = give-done;
  short = give-refused;
  first = first-done;
  another = inc-done;
  kept = dec-keeps;
  last = dec-last;
  returned = back-done;
  read = event-read;
  held = held-event;
}
