use Rattle.qp_port_qk.proofs.Turned.{turned_kernels_end as law}
use Rattle.qp_port_qk.proofs.rest_laws.turned_kernels_end.Goals as goal

pub returns : goal.returns
returns c = law
