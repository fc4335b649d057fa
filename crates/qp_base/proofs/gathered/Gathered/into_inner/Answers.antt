use Rattle.std.proofs.Common.{◌+◌}
use Rattle.qp_base.proofs.GatheringLemmas.{begun}
use Rattle.qp_base.proofs.gathered.Gathered.into_inner.Goals as goal

pub returns-clause-begun : goal.returns-clause-begun
returns-clause-begun g c = begun c.args.self.course (g.B.Beginning.first_length + c.args.self.gone) c.args.self.held.items (g.S.Sink.written c.args.self.inner) c.args.self.goes
