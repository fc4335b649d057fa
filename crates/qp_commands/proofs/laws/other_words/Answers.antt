use Rattle.qp_commands.proofs.WordCommands.{other-words}
use Rattle.qp_commands.proofs.laws.other_words.Goals as goal

pub returns : goal.returns
returns c = other-words
