use Rattle.qp_replay.proofs.OneThread.{one-thread}
use Rattle.qp_replay.proofs.rerun_laws.one_thread_makes_it.Goals as goal

pub returns : goal.returns
returns c = one-thread
