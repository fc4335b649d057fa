use Rattle.qp_replay.proofs.SerialLemmas.{named-serial}
use Rattle.qp_replay.proofs.laws.named_orders_are_serial.Goals as goal

pub returns : goal.returns
returns c = named-serial
