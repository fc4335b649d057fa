use Rattle.qp_plain_sound.proofs.LawLemmas.{lanes-are_log, log-at_end, log-numbered, words-few}
use Rattle.qp_plain_sound.proofs.laws.no_record_is_lost.Goals as goal

pub returns : goal.returns
returns c = record { lanes = lanes-are_log; end = log-at_end; numbered = log-numbered; few = words-few }
