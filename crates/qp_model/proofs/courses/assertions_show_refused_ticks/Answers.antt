use Rattle.qp_model.proofs.TicksLemmas.{assertion_shows_ticks as law}
use Rattle.qp_model.proofs.courses.assertions_show_refused_ticks.Goals as goal

pub returns : goal.returns
returns c = law
