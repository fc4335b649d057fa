use Rattle.qp_plain_sound.proofs.LawLemmas.{limit-kept, causes-kept, stop-caused, causes-stay}
use Rattle.qp_plain_sound.proofs.laws.lanes_keep_their_laws.Goals as goal

pub returns : goal.returns
returns c = record { limit = limit-kept; causes = causes-kept; stop = stop-caused; stay = causes-stay }
