use Rattle.qp_core.proofs.FirstLemmas.{more-serves, no-serves}
use Rattle.qp_core.proofs.state.+add_serves.Goals as goal

pub returns-then-n-eq0 : goal.returns-then-n-eq0
returns-then-n-eq0 t c = no-serves c.args.sys.now c.args.n c.args.out.now c.if-n-eq0.true

pub returns : goal.returns
returns t c = more-serves c.args.sys.now c.args.n c.add_serves.result c.args.out.now c.add_serve.new.out c.add_serves.new.out c.if-n-eq0.false c.in_ok-add_serve.ensures c.add_serves.ensures
