use Rattle.std.proofs.Common.{refl}
use Rattle.qp_wait_bells.proofs.tally.new_tallies.Goals as goal

pub of_words-requires : goal.of_words-requires
of_words-requires c = record { one = refl; over = 0; under = 0; is = refl }
