use Rattle.qp_unique.proofs.FormLemmas.{written-qv}
use Rattle.qp_unique.proofs.form_laws.lawful_journals_of_qv_have_form_2.Goals as goal

pub returns : goal.returns
returns c = written-qv
