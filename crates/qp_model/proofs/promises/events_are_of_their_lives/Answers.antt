use Rattle.qp_model.proofs.EventLemmas.{event_is_of_its_life as law}
use Rattle.qp_model.proofs.promises.events_are_of_their_lives.Goals as goal

pub returns : goal.returns
returns c = law
