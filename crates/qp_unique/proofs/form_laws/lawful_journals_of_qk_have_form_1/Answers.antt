use Rattle.qp_unique.proofs.FormLemmas.{written-qk}
use Rattle.qp_unique.proofs.form_laws.lawful_journals_of_qk_have_form_1.Goals as goal

pub returns : goal.returns
returns c = written-qk
