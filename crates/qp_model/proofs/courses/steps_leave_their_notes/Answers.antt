use Rattle.qp_model.proofs.NoteLemmas.{steps_leave_their_notes as law}
use Rattle.qp_model.proofs.courses.steps_leave_their_notes.Goals as goal

pub returns : goal.returns
returns c = law
