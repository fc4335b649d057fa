use Rattle.qp_run_parts.proofs.AnswerLaw.{one-answer}
use Rattle.qp_run_parts.proofs.laws.one_answer.Goals as goal

pub returns : goal.returns
returns c = one-answer
