use Rattle.qp_core.proofs.TableLemmas.{sets-by-holds}
use Rattle.qp_core.proofs.state.CoreState.set_by.Goals as goal

pub returns-clause-kept : goal.returns-clause-kept
returns-clause-kept c = sets-by-holds c.args.self.now.sys.now c.args.self.now.lanes c.args.self.now.words c.args.self.now.seats c.args.seat c.args.o c.set_by.result c.set_by.new.seats c.set_by.ensures
