use Rattle.qp_unique.proofs.FormLemmas.{written}
use Rattle.qp_unique.proofs.form_laws.lawful_journals_of_sim_have_form_1.Goals as goal

pub returns : goal.returns
returns c = written
