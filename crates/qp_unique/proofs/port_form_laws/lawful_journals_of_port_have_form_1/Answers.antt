use Rattle.qp_unique.proofs.PortForms.{written-port}
use Rattle.qp_unique.proofs.port_form_laws.lawful_journals_of_port_have_form_1.Goals as goal

pub returns : goal.returns
returns c = written-port
