use Rattle.qp_plain_sound.proofs.CallSides.{subscribe-changes, subscribe-keeps, unsubscribe-changes, unsubscribe-keeps, subscribers-read}
use Rattle.qp_plain_sound.proofs.laws.calls_on_signals.Goals as goal

pub returns : goal.returns
returns c = record {
  came = subscribe-changes;
  stayed = subscribe-keeps;
  went = unsubscribe-changes;
  stayed_away = unsubscribe-keeps;
  read = subscribers-read;
}
