use Rattle.qp_plain_sound.proofs.EndLemmas.{every-block}
use Rattle.qp_plain_sound.proofs.laws.every_block_stands.Goals as goal

pub returns : goal.returns
returns c = every-block
